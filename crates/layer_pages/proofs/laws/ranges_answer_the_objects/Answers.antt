-- The law is the lemma of its name.
use Rattle.layer_pages.proofs.AnswerLemmas.{ranges_answer_objects}
use Rattle.layer_pages.proofs.laws.ranges_answer_the_objects.Goals as goal

pub returns : goal.returns
returns c = ranges_answer_objects
