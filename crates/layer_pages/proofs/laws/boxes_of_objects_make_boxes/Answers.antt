-- The law is the lemma of its name.
use Rattle.layer_pages.proofs.AnswerLemmas.{objects_give_boxes}
use Rattle.layer_pages.proofs.laws.boxes_of_objects_make_boxes.Goals as goal

pub returns : goal.returns
returns c = objects_give_boxes
