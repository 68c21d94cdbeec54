-- What holds at each turn of the loop of `overlap_later`.
use Rattle.std.proofs.Common.{◌≡◌, ◌+◌, ◌<◌, ◌^◌, drop}
use Rattle.tree_statistics.specs.Levels.{overlap_after, up_to}
use Rattle.tree_statistics.proofs.levels.overlap_later.Given as goal

-- with those of the nodes that are left it is the whole sum
abbrev pub invariant-loop-row : goal.invariant-loop-row
invariant-loop-row g l =
    (up_to 128 (l.sum + overlap_after l.fn.level l.fn.bounds (drop l.row-index l.fn.rows)) ≡ up_to 128 (overlap_after l.fn.level l.fn.bounds l.fn.rows)) × (l.sum < 2 ^ 128)
