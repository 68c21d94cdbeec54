-- The law is the lemma of its name.
use Rattle.node_bytes.proofs.OnePage.{one_page}
use Rattle.node_bytes.proofs.laws.a_node_has_one_page.Goals as goal

pub returns : goal.returns
returns c = one_page
