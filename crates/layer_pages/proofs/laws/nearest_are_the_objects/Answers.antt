-- The law is the lemma of its name.
use Rattle.layer_pages.proofs.AnswerLemmas.{nearest_are_objects}
use Rattle.layer_pages.proofs.laws.nearest_are_the_objects.Goals as goal

pub returns : goal.returns
returns c = nearest_are_objects
