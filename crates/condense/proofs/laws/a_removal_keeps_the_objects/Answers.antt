-- The law is the lemma of its name.
use Rattle.condense.proofs.ObjectLemmas.{removal_keeps_objects}
use Rattle.condense.proofs.laws.a_removal_keeps_the_objects.Goals as goal

pub returns : goal.returns
returns c = removal_keeps_objects
