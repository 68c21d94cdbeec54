-- The law is the lemma of its name.
use Rattle.catalog_page.proofs.Named.{reads_named_bytes}
use Rattle.catalog_page.proofs.laws.named_bytes_are_read.Goals as goal

pub returns : goal.returns
returns c = reads_named_bytes
