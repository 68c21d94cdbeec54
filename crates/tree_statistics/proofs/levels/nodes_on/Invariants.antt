-- What holds at each turn of the loop of `nodes_on`.
use Rattle.std.proofs.Common.{◌≡◌, ◌+◌, ◌<◌, ◌^◌, drop}
use Rattle.tree_statistics.specs.Levels.{nodes_at, up_to}
use Rattle.tree_statistics.proofs.levels.nodes_on.Given as goal

-- with those that are left they are all
abbrev pub invariant-loop-row : goal.invariant-loop-row
invariant-loop-row g l =
    (up_to 64 (l.nodes + nodes_at l.fn.level (drop l.row-index l.fn.rows)) ≡ up_to 64 (nodes_at l.fn.level l.fn.rows)) × (l.nodes < 2 ^ 64)
