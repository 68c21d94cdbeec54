use Rattle.std.proofs.Common.{length}
use Rattle.tree_node.specs.Keys.{AtMost}
use Rattle.node_bytes.specs.Views.{content_in}
use Rattle.choose_subtree.specs.Choice.{overlap_growth, numbers_with, numbers_of}
use Rattle.choose_subtree.proofs.ChoiceLaws.{IsBest}
use Rattle.choose_subtree.proofs.choice.least_overlap.Given as goal

-- the best so far is no greater than any before it, nor than the entry that it began with
abbrev pub invariant-loop-k : goal.invariant-loop-k
invariant-loop-k g l =
    IsBest (λ k. numbers_with (overlap_growth g.row.D (content_in l.node).entries l.new k) g.row.D
    (content_in l.node).entries l.new k) (length (content_in l.node).entries) l.k (numbers_of l.best) l.best.position
    × AtMost (numbers_of l.best)
    (numbers_with (overlap_growth g.row.D (content_in l.node).entries l.new l.first) g.row.D
    (content_in l.node).entries l.new l.first)
