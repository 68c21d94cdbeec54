-- The shape of a tree (Guttman 1984; Beckmann, Kriegel, Schneider and Seeger 1990). The rounding of the least
-- count, its bound of two, and the loose shape, which a tree has in the course of an insertion, are our rule
-- (docs/FORMAT.md, "Trees of pages").
use Rattle.std.specs.Prelude.{ℕ, ◌*◌, ◌/◌, ◌<◌, ◌≤◌, max, ⊤}
use Rattle.box_math.specs.Bounds.{Bounds, IsBox, Within}
use Rattle.box_math.specs.Objects.{bounds_of}
use Rattle.tree_node.specs.Trees.{Row, end, more, object, child, Tree, RowOnLevel, row_length}

-- the least count of entries of a node of a tree whose nodes have at most so many: 40 in a hundred (Beckmann
-- et al. 1990)
abbrev pub least_entries : ℕ → ℕ
least_entries most = max 2 (2 * most / 5)

-- each box of a node is within the given one
abbrev pub RowWithin : ℕ → Row → Bounds → Type 0
RowWithin dims end b = ⊤
RowWithin dims (more (object kept id) rest) b = Within dims (bounds_of kept) b × RowWithin dims rest b
RowWithin dims (more (child bounds page below) rest) b = Within dims bounds b × RowWithin dims rest b

-- the least box that encloses the boxes of a node: it does, and is within each that does
pub record IsLeastBox (dims : ℕ) (b : Bounds) (row : Row) : Type 0 where
  pub box : IsBox dims b
  pub encloses : RowWithin dims row b
  pub least : (c : Bounds) → IsBox dims c → RowWithin dims row c → Within dims b c

-- each node below has from the least to the most entries, and the box above it is the least
abbrev pub RowHasShape : ℕ → ℕ → Row → Type 0
RowHasShape dims most end = ⊤
RowHasShape dims most (more (object kept id) rest) = RowHasShape dims most rest
RowHasShape dims most (more (child bounds page below) rest) =
    (least_entries most ≤ row_length below) × (row_length below ≤ most) × IsLeastBox dims bounds below
    × RowHasShape dims most below × RowHasShape dims most rest

-- The shape of an R-tree: all leaves are on level 0, and the nodes below the root are as above. A root that
-- is a leaf has at most the most entries, and one that is none has two to the most.
pub record HasShape (dims most : ℕ) (t : Tree) : Type 0 where
  pub levels : RowOnLevel t.level t.row
  pub few : row_length t.row ≤ most
  pub some : 0 < t.level → 2 ≤ row_length t.row
  pub below : RowHasShape dims most t.row

-- the same, but a root that is no leaf may have one entry
pub record HasLooseShape (dims most : ℕ) (t : Tree) : Type 0 where
  pub levels : RowOnLevel t.level t.row
  pub few : row_length t.row ≤ most
  pub some : 0 < t.level → 1 ≤ row_length t.row
  pub below : RowHasShape dims most t.row
