-- The law is the lemma of its name.
use Rattle.id_page.proofs.ForkPages.{one_page}
use Rattle.id_page.proofs.fork_laws.a_fork_has_one_page.Goals as goal

pub returns : goal.returns
returns c = one_page
