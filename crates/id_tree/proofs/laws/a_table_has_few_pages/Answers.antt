-- The law is a lemma.
use Rattle.id_tree.proofs.FewLemmas.{few_pages}
use Rattle.id_tree.proofs.laws.a_table_has_few_pages.Goals as goal

pub returns : goal.returns
returns c = few_pages
