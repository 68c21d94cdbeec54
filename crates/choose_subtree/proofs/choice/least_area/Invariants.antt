use Rattle.std.proofs.Common.{length}
use Rattle.node_bytes.specs.Views.{content_in}
use Rattle.choose_subtree.specs.Choice.{numbers_with, numbers_of}
use Rattle.choose_subtree.proofs.ChoiceLaws.{IsBest}
use Rattle.choose_subtree.proofs.choice.least_area.Given as goal

abbrev pub invariant-loop-k : goal.invariant-loop-k
invariant-loop-k g l =
    IsBest (numbers_with 0 g.row.D (content_in l.node).entries l.new) (length (content_in l.node).entries) l.k (numbers_of l.best)
    l.best.position
