-- The boxes of entries, and the least box round them (Guttman 1984).
use Rattle.std.specs.Prelude.{ℕ, List, [], ◌∷◌, ⊤, slice_index_or}
use Rattle.box_math.specs.Bounds.{Bounds, IsBox, join_of, origin_box}
use Rattle.box_math.specs.Objects.{bounds_of}
use Rattle.tree_node.specs.Nodes.{Item}
use Rattle.tree_node.specs.Trees.{Row, end, more, object, child}

-- what stands where there is no entry
abbrev pub no_item : Item
no_item = record { bounds = record { low = []; high = [] }; reference = 0; tag = 0 }

abbrev pub box_at : List Item → ℕ → Bounds
box_at items i = (slice_index_or items i no_item).bounds

abbrev pub reference_at : List Item → ℕ → ℕ
reference_at items i = (slice_index_or items i no_item).reference

-- the join of a box and those of some entries, one after the other
abbrev pub box_round : ℕ → Bounds → List Item → Bounds
box_round dims b [] = b
box_round dims b (item ∷ items) = box_round dims (join_of dims b item.bounds) items

-- the least box that encloses those of some entries, of which there is one
unfoldable pub least_box : ℕ → List Item → Bounds
least_box dims [] = origin_box dims
least_box dims (item ∷ items) = box_round dims item.bounds items

-- each box in a tree is one of so many axes
abbrev pub RowHasBoxes : ℕ → Row → Type 0
RowHasBoxes dims end = ⊤
RowHasBoxes dims (more (object kept id) rest) = IsBox dims (bounds_of kept) × RowHasBoxes dims rest
RowHasBoxes dims (more (child bounds page below) rest) = IsBox dims bounds × RowHasBoxes dims below
    × RowHasBoxes dims rest
