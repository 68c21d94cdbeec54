-- What holds at each turn of the loop of `overlap_on`.
use Rattle.std.proofs.Common.{◌≡◌, ◌+◌, ◌<◌, ◌^◌, drop}
use Rattle.tree_statistics.specs.Levels.{overlap_at, up_to}
use Rattle.tree_statistics.proofs.levels.overlap_on.Given as goal

-- with those of the nodes that are left it is the whole sum
abbrev pub invariant-loop-place : goal.invariant-loop-place
invariant-loop-place g l =
    (up_to 128 (l.sum + overlap_at l.fn.level (drop l.place l.fn.rows)) ≡ up_to 128 (overlap_at l.fn.level l.fn.rows)) × (l.sum < 2 ^ 128)
