-- Trees at roots: where they stand, their shape, and the boxes of their objects.
use Rattle.std.proofs.Common.{◌≡◌, ℕ, ◌-◌, Option, None, Some, List, All, sym, subst, arith}
use Rattle.std.specs.Prelude.{⊤}
use Rattle.std.proofs.lemmas.List.Elements.{All-head, All-tail}
use Rattle.box_math.specs.Bounds.{IsOrdered}
use Rattle.box_math.specs.Objects.{bounds_of, tag_of}
use Rattle.tree_node.specs.Nodes.{Item, NodeContent}
use Rattle.tree_node.specs.Shape.{HasLooseShape, HasShape}
use Rattle.tree_node.specs.Trees.{Row, end, more, object, child, Tree, row_items}
use Rattle.tree_node.specs.declared.node.Root.{Root}
use Rattle.node_page.specs.Rooted.{IsTreeAt}
use Rattle.node_page.specs.Standing.{PageMap, RowStands, StandsAt, node_in}
use Rattle.node_bytes.proofs.Reading.{item_of_node, size_of, spells}

-- a tree at a root stands there
pub tree_at : (dims most : ℕ) (m : PageMap) (root : Root) (t : Tree) → IsTreeAt dims most m root t
    → StandsAt dims m root.page root.level t.row
tree_at dims most m root t is =
    let there : StandsAt dims m t.page t.level t.row =
    record { node = is.stands.root; below = is.stands.below } in
    subst (λ (l : ℕ). StandsAt dims m root.page l t.row) is.level_is
    (subst (λ (n : ℕ). StandsAt dims m n t.level t.row) is.page_is there)

-- the shape is one of a looser kind
pub loose : (dims most : ℕ) (t : Tree) → HasShape dims most t → HasLooseShape dims most t
loose dims most t shape =
    record {
      levels = shape.levels;
      few = shape.few;
      some = λ above. let two = shape.some above in
          omega (arith, two);
      below = shape.below;
    }

-- ---- the boxes of the objects of a tree that stands are ordered

abbrev IsOrderedItem : ℕ → Item → Type 0
IsOrderedItem dims item = IsOrdered dims item.bounds.low item.bounds.high

abbrev pub HasOrderedBoxes : ℕ → Row → Type 0
HasOrderedBoxes dims end = ⊤
HasOrderedBoxes dims (more (object kept id) rest) = IsOrdered dims (bounds_of kept).low (bounds_of kept).high
    × HasOrderedBoxes dims rest
HasOrderedBoxes dims (more (child bounds page below) rest) = HasOrderedBoxes dims below
    × HasOrderedBoxes dims rest

items_ordered : (dims : ℕ) (page : Option (List ℕ)) (c : NodeContent) → node_in dims page ≡ Some c
    → All (IsOrderedItem dims) c.entries
items_ordered dims None c there = absurd (cc)
items_ordered dims (Some page) c there =
    let s = spells dims page c there in
    let size = size_of dims page c s in
    λ k d lt. subst (IsOrderedItem dims) (sym (item_of_node dims page c k d s lt))
    (s.each k (omega (arith, lt, size))).ordered

row_ordered : (dims : ℕ) (m : PageMap) (level : ℕ) (row : Row) → All (IsOrderedItem dims) (row_items row)
    → RowStands dims m level row → HasOrderedBoxes dims row
row_ordered dims m level end items stands = tt
row_ordered dims m level (more (object kept id) rest) items stands = (
  All-head (IsOrderedItem dims) (record { bounds = bounds_of kept; reference = id; tag = tag_of kept })
      (row_items rest) items,
  row_ordered dims m level rest
      (All-tail (IsOrderedItem dims) (record { bounds = bounds_of kept; reference = id; tag = tag_of kept })
      (row_items rest) items) stands.1,
)
row_ordered dims m level (more (child bounds page below) rest) items stands = (
  row_ordered dims m (level - 1) below
      (items_ordered dims (m page) (record { level = level - 1; entries = row_items below }) stands.1)
      stands.2,
  row_ordered dims m level rest
      (All-tail (IsOrderedItem dims) (record { bounds = bounds; reference = page; tag = 0 }) (row_items rest)
      items) stands.3,
)

pub boxes_ordered : (dims : ℕ) (m : PageMap) (page level : ℕ) (row : Row) → StandsAt dims m page level row
    → HasOrderedBoxes dims row
boxes_ordered dims m page level row at =
    row_ordered dims m level row
    (items_ordered dims (m page) (record { level = level; entries = row_items row }) at.node) at.below
