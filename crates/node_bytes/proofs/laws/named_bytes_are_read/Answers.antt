-- The law is the lemma of its name.
use Rattle.node_bytes.proofs.Named.{reads_named_bytes}
use Rattle.node_bytes.proofs.laws.named_bytes_are_read.Goals as goal

pub returns : goal.returns
returns c = reads_named_bytes
