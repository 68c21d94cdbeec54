-- The law is the lemma of its name.
use Rattle.node_bytes.proofs.Named.{reads_spelled}
use Rattle.node_bytes.proofs.laws.what_is_spelled_is_read.Goals as goal

pub returns : goal.returns
returns c = reads_spelled
