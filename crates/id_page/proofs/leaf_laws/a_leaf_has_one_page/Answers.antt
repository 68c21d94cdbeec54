-- The law is the lemma of its name.
use Rattle.id_page.proofs.LeafPages.{one_page}
use Rattle.id_page.proofs.leaf_laws.a_leaf_has_one_page.Goals as goal

pub returns : goal.returns
returns c = one_page
