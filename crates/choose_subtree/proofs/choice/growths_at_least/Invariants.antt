-- The areas of the first entries grow so much.
use Rattle.node_bytes.specs.Views.{content_in}
use Rattle.choose_subtree.specs.Choice.{GrowSoMuch}
use Rattle.choose_subtree.proofs.choice.growths_at_least.Given as goal

abbrev pub invariant-loop-place : goal.invariant-loop-place
invariant-loop-place g l = GrowSoMuch g.row.D (content_in l.node).entries l.new l.place l.growths
