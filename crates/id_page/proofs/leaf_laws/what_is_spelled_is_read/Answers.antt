-- The law is the lemma of its name.
use Rattle.id_page.proofs.LeafPages.{reads_spelled}
use Rattle.id_page.proofs.leaf_laws.what_is_spelled_is_read.Goals as goal

pub returns : goal.returns
returns c = reads_spelled
