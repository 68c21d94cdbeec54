-- The law is the lemma of its name.
use Rattle.id_page.proofs.ForkPages.{reads_named_bytes}
use Rattle.id_page.proofs.fork_laws.named_bytes_are_read.Goals as goal

pub returns : goal.returns
returns c = reads_named_bytes
