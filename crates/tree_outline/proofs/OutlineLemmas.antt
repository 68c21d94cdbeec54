-- What an outline has of a tree.
use Rattle.std.proofs.Common.{◌≡◌, ◌∙◌, ℕ, ◌-◌, ◌<◌, ◌++◌, ◌∷◌, List, Option, Some, true, cond}
use Rattle.std.proofs.Common.{eqb, length, map, refl, sym, ap, ap₂, arith}
use Rattle.std.proofs.lemmas.List.{length-append, map-append}
use Rattle.box_math.specs.Bounds.{Bounds}
use Rattle.tree_node.specs.Boxes.{RowHasBoxes}
use Rattle.tree_node.specs.Joins.{boxes_below}
use Rattle.tree_node.specs.Positions.{total}
use Rattle.tree_node.specs.Searches.{passing}
use Rattle.tree_node.specs.Shape.{IsLeastBox, RowHasShape}
use Rattle.tree_node.specs.Trees.{Row, end, more, object, child, occurs, row_items, row_length}
use Rattle.tree_node.proofs.BoxLemmas.{join_is_least_box, one_least_box}
use Rattle.tree_node.proofs.PositionLemmas.{total-append}
use Rattle.tree_outline.specs.Laws.{BoxesAreAbove, HasEachNode, HasEachPage}
use Rattle.tree_outline.specs.Outlines.{box_of_entries, outlines_below}
use Rattle.tree_outline.specs.declared.node.NodeOutline.{NodeOutline}

each_below : (dims level : ℕ) (row : Row)
    → length (outlines_below {D = dims} level row) ≡ passing (λ b. true) row
each_below dims level end = refl
each_below dims level (more (object kept id) rest) = each_below dims level rest
each_below dims level (more (child bounds page below) rest) =
    omega (
      arith,
      length-append (outlines_below {D = dims} (level - 1) below) (outlines_below {D = dims} level rest),
      each_below dims (level - 1) below,
      each_below dims level rest,
    )

pub has_each_node : HasEachNode
has_each_node dims t = omega (arith, each_below dims t.level t.row)

abbrev page_is : {dims : ℕ} → ℕ → NodeOutline dims → ℕ
page_is n row = cond (eqb row.page n) 1 0

pages_below : (dims n level : ℕ) (row : Row)
    → total (page_is {dims = dims} n) (outlines_below level row) ≡ occurs n row
pages_below dims n level end = refl
pages_below dims n level (more (object kept id) rest) = pages_below dims n level rest
pages_below dims n level (more (child bounds page below) rest) =
    omega (
      arith,
      total-append (page_is {dims = dims} n) (outlines_below (level - 1) below) (outlines_below level rest),
      pages_below dims n (level - 1) below,
      pages_below dims n level rest,
    )

pub has_each_page : HasEachPage
has_each_page dims n t = omega (arith, pages_below dims n t.level t.row)

-- ---- boxes

least_here : (dims : ℕ) (b : Bounds) (row : Row) → 0 < row_length row → RowHasBoxes dims row
    → IsLeastBox dims b row → box_of_entries dims (row_items row) ≡ Some b
least_here dims b end some boxes least = absurd (omega (arith, some))
least_here dims b (more (object kept id) rest) some boxes least =
    let row = more (object kept id) rest in
    ap (λ (x : Bounds). Some x) (one_least_box dims _ b row (join_is_least_box dims row some boxes) least)
least_here dims b (more (child bounds page below) rest) some boxes least =
    let row = more (child bounds page below) rest in
    ap (λ (x : Bounds). Some x) (one_least_box dims _ b row (join_is_least_box dims row some boxes) least)

boxes_are : (dims most level : ℕ) (row : Row) → RowHasShape dims most row → RowHasBoxes dims row
    → map (λ (row : NodeOutline dims). row.bounds) (outlines_below level row)
    ≡ map (λ (b : Bounds). Some b) (boxes_below row)
boxes_are dims most level end shape boxes = refl
boxes_are dims most level (more (object kept id) rest) shape boxes =
    boxes_are dims most level rest shape boxes.1
boxes_are dims most level (more (child bounds page below) rest) shape boxes =
    let bounds_of : NodeOutline dims → Option Bounds = λ row. row.bounds in
    let first = least_here dims bounds below (omega (arith, shape.0)) boxes.1 shape.2 in
    let under = boxes_are dims most (level - 1) below shape.3 boxes.1 in
    let later = boxes_are dims most level rest shape.4 boxes.2 in
    ap₂ (λ (x : Option Bounds) (xs : List (Option Bounds)). x ∷ xs) first
    (map-append bounds_of (outlines_below (level - 1) below) (outlines_below level rest)
    ∙ ap₂ (λ (xs ys : List (Option Bounds)). xs ++ ys) under later
    ∙ sym (map-append (λ (b : Bounds). Some b) (boxes_below below) (boxes_below rest)))

pub boxes_are_above : BoxesAreAbove
boxes_are_above dims most t shape boxes = boxes_are dims most t.level t.row shape.below boxes

pub ruleset outline_laws = (has_each_node, has_each_page, boxes_are_above)
