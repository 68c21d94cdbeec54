-- The law is the lemma of its name.
use Rattle.id_chains.proofs.DirectoryLemmas.{one_page}
use Rattle.id_chains.proofs.laws.a_directory_has_one_page.Goals as goal

pub returns : goal.returns
returns c = one_page
