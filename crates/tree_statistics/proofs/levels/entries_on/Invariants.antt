-- What holds at each turn of the loop of `entries_on`.
use Rattle.std.proofs.Common.{◌≡◌, ◌+◌, ◌<◌, ◌^◌, drop}
use Rattle.tree_statistics.specs.Levels.{entries_at, up_to}
use Rattle.tree_statistics.proofs.levels.entries_on.Given as goal

-- with those that are left they are all
abbrev pub invariant-loop-row : goal.invariant-loop-row
invariant-loop-row g l =
    (up_to 64 (l.entries + entries_at l.fn.level (drop l.row-index l.fn.rows)) ≡ up_to 64 (entries_at l.fn.level l.fn.rows)) × (l.entries < 2 ^ 64)
