use Rattle.box_import.proofs.BetweenLemmas.{zeros_more}
use Rattle.box_import.proofs.between.with_zeros.Goals as goal

pub loop-preserved : goal.loop-preserved
loop-preserved c = zeros_more _ c.loop.counter _ _ c.loop.invariant c.min-all.ensures
