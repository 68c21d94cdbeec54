-- The law is the lemma of its name.
use Rattle.condense.proofs.ShapeLemmas.{removal_keeps_shape}
use Rattle.condense.proofs.laws.a_removal_keeps_shape.Goals as goal

pub returns : goal.returns
returns c = removal_keeps_shape
