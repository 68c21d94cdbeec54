-- What holds at each turn of the loop of `levels_of`, and that it ends.
use Rattle.std.proofs.Common.{◌≡◌, ◌++◌, ◌≤◌}
use Rattle.tree_statistics.specs.Levels.{height_of, levels_down}
use Rattle.tree_statistics.proofs.levels.levels_of.Given as goal

-- with those that are left they are all
abbrev pub invariant-loop-level : goal.invariant-loop-level
invariant-loop-level g l =
    (l.levels.items ++ levels_down l.fn.rows l.fn.fanout l.level ≡ levels_down l.fn.rows l.fn.fanout
    (height_of l.fn.rows)) × (l.level ≤ 256)

abbrev pub decreases-loop-level : goal.decreases-loop-level
decreases-loop-level g l = l.level
