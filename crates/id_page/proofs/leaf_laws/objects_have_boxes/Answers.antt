-- The law is the lemma of its name.
use Rattle.id_page.proofs.LeafPages.{spells_boxes}
use Rattle.id_page.proofs.leaf_laws.objects_have_boxes.Goals as goal

pub returns : goal.returns
returns c = spells_boxes
