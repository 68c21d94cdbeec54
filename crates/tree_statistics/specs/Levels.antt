-- What a level of a tree has, by the outline of the tree: each node before those below it, so that the later
-- siblings of a node are the nodes of its level up to the next one above it (our rule, docs/COMMANDS.md, "The
-- program").
use Rattle.std.specs.Prelude.{ℕ, zero, suc, ◌+◌, ◌*◌, ◌-◌, ◌/◌, ◌^◌, ◌==◌, min, nat_lt, if◌then◌else◌}
use Rattle.std.specs.Prelude.{List, [], ◌∷◌, Option, None, Some}
use Rattle.box_math.specs.Bounds.{Bounds}
use Rattle.box_math.specs.Measures.{overlap_of}
use Rattle.tree_node.specs.Positions.{total}
use Rattle.tree_outline.specs.declared.node.NodeOutline.{NodeOutline}
use Rattle.tree_statistics.specs.declared.levels.LevelStatistics.{LevelStatistics}

-- a sum, up to the greatest number of so many bits
abbrev pub up_to : ℕ → ℕ → ℕ
up_to bits n = min n (2 ^ bits - 1)

-- how many nodes a level has, and how many entries these have
abbrev pub nodes_at : {D : ℕ} → ℕ → List (NodeOutline D) → ℕ
nodes_at level rows = total (λ row. if row.level == level then 1 else 0) rows

abbrev pub entries_at : {D : ℕ} → ℕ → List (NodeOutline D) → ℕ
entries_at level rows = total (λ row. if row.level == level then row.count else 0) rows

-- of a thousand entries that so many nodes have room for, how many there are, rounded down
abbrev pub per_mille_of : ℕ → ℕ → ℕ → ℕ
per_mille_of entries nodes fanout =
    if nodes * fanout == 0 then 0 else up_to 64 (entries * 1000 / (nodes * fanout))

-- ---- overlaps

-- of a box with another, if there is one
abbrev pub overlap_with : ℕ → Bounds → Option Bounds → ℕ
overlap_with dims b None = 0
overlap_with dims b (Some c) = overlap_of dims b c

-- with the box of a node, where it is of this level
abbrev pub overlap_if : {D : ℕ} → ℕ → Bounds → NodeOutline D → ℕ
overlap_if {D} level b row = if row.level == level then overlap_with D b row.bounds else 0

-- with those of the later siblings of its node
abbrev pub overlap_after : {D : ℕ} → ℕ → Bounds → List (NodeOutline D) → ℕ
overlap_after level b [] = 0
overlap_after level b (row ∷ rows) =
    if nat_lt level row.level then 0 else overlap_if level b row + overlap_after level b rows

abbrev pub overlap_of_first : {D : ℕ} → ℕ → Option Bounds → List (NodeOutline D) → ℕ
overlap_of_first level None rows = 0
overlap_of_first level (Some b) rows = overlap_after level b rows

-- of the first node, where it is of this level, with its later siblings
abbrev pub overlap_with_later : {D : ℕ} → ℕ → List (NodeOutline D) → ℕ
overlap_with_later level [] = 0
overlap_with_later level (row ∷ rows) =
    if row.level == level then overlap_of_first level row.bounds rows else 0

-- of each two siblings on this level
abbrev pub overlap_at : {D : ℕ} → ℕ → List (NodeOutline D) → ℕ
overlap_at level [] = 0
overlap_at level (row ∷ rows) = overlap_with_later level (row ∷ rows) + overlap_at level rows

-- ---- levels

abbrev pub level_of : {D : ℕ} → List (NodeOutline D) → ℕ → ℕ → LevelStatistics
level_of rows fanout level =
    record {
      level = level;
      nodes = up_to 64 (nodes_at level rows);
      entries = up_to 64 (entries_at level rows);
      fill_per_mille =
          per_mille_of (up_to 64 (entries_at level rows)) (up_to 64 (nodes_at level rows)) fanout;
      overlap = up_to 128 (overlap_at level rows);
    }

-- how many levels there are: the first node is the root
abbrev pub height_of : {D : ℕ} → List (NodeOutline D) → ℕ
height_of [] = 0
height_of (row ∷ rows) = row.level + 1

-- so many levels, from the highest down
abbrev pub levels_down : {D : ℕ} → List (NodeOutline D) → ℕ → ℕ → List LevelStatistics
levels_down rows fanout zero = []
levels_down rows fanout (suc level) = level_of rows fanout level ∷ levels_down rows fanout level
