-- The law is the lemma of its name.
use Rattle.node_bytes.proofs.Named.{spells_nodes}
use Rattle.node_bytes.proofs.laws.what_is_spelled_is_a_node.Goals as goal

pub returns : goal.returns
returns c = spells_nodes
