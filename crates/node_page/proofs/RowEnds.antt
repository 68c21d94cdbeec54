-- Rows that grow by an entry at their end, as a loop over the entries of a node finds them.
use Rattle.std.proofs.Common.{◌≡◌, ◌∙◌, ℕ, zero, suc, ◌+◌, ◌-◌, ◌<◌, ◌≤◌, true, cond, eqb, List, [], ◌∷◌}
use Rattle.std.proofs.Common.{◌++◌, length, take, refl, sym, ap, arith}
use Rattle.std.proofs.lemmas.List.{append_assoc, append-nil}
use Rattle.box_math.specs.Bounds.{Bounds}
use Rattle.box_math.specs.Objects.{Object, bounds_of, tag_of}
use Rattle.tree_node.specs.Nodes.{Item}
use Rattle.tree_node.specs.Rows.{item_in}
use Rattle.tree_node.specs.Searches.{passing}
use Rattle.tree_node.specs.Shape.{IsLeastBox, RowHasShape, least_entries}
use Rattle.tree_node.specs.Trees.{Branch, Row, end, more, object, child, leaf_ids, objects_in, occurs}
use Rattle.tree_node.specs.Trees.{row_items, row_length}
use Rattle.tree_node.proofs.RowLemmas.{row_drop}
use Rattle.node_page.specs.Standing.{HasNode, PageMap, RowStands}

-- one entry more
abbrev pub row_add : Row → Branch → Row
row_add end x = more x end
row_add (more y rest) x = more y (row_add rest x)

pub items_add : (row : Row) (x : Branch) → row_items (row_add row x) ≡ row_items row ++ item_in x ∷ []
items_add end (object kept id) = refl
items_add end (child bounds page below) = refl
items_add (more (object kept id) rest) x =
    ap (λ (xs : List Item). record { bounds = bounds_of kept; reference = id; tag = tag_of kept } ∷ xs)
    (items_add rest x)
items_add (more (child bounds page below) rest) x =
    ap (λ (xs : List Item). record { bounds = bounds; reference = page; tag = 0 } ∷ xs) (items_add rest x)

-- an entry without a tag as that of a child
pub items_add_child : (x : Item) (below row : Row) → x.tag ≡ 0
    → row_items (row_add row (child x.bounds x.reference below)) ≡ row_items row ++ x ∷ []
items_add_child x below row untagged =
    items_add row (child x.bounds x.reference below)
    ∙ ap (λ (t : ℕ). let y : Item = record { bounds = x.bounds; reference = x.reference; tag = t } in
    row_items row ++ y ∷ []) (sym untagged)

pub length_add : (row : Row) (x : Branch) → row_length (row_add row x) ≡ row_length row + 1
length_add end x = refl
length_add (more y rest) x = omega (arith, length_add rest x)

module _ (bounds : Bounds) (page : ℕ) (below : Row) where
  pub stands_add : (dims : ℕ) (pages : PageMap) (level : ℕ) (row : Row) → 0 < level
      → HasNode dims pages page (level - 1) below → RowStands dims pages (level - 1) below
      → RowStands dims pages level row
      → RowStands dims pages level (row_add row (child bounds page below))
  stands_add dims pages level end above node inner h = (above, node, inner, tt)
  stands_add dims pages level (more (object b id) rest) above node inner h =
      (h.0, stands_add dims pages level rest above node inner h.1)
  stands_add dims pages level (more (child b q under) rest) above node inner h =
      (h.0, h.1, h.2, stands_add dims pages level rest above node inner h.3)

  pub leaves_add : (level : ℕ) (row : Row)
      → leaf_ids (suc level) (row_add row (child bounds page below)) ≡ leaf_ids (suc level) row
      ++ leaf_ids level below
  leaves_add level end = append-nil (leaf_ids level below)
  leaves_add level (more (object b id) rest) = leaves_add level rest
  leaves_add level (more (child b q under) rest) =
      ap (λ (xs : List (List ℕ)). leaf_ids level under ++ xs) (leaves_add level rest)
      ∙ sym (append_assoc (leaf_ids level under) (leaf_ids (suc level) rest) (leaf_ids level below))

  pub nodes_add : (row : Row)
      → passing (λ b. true) (row_add row (child bounds page below)) ≡ passing (λ b. true)
      row + (1 + passing (λ b. true) below)
  nodes_add end = omega arith
  nodes_add (more (object b id) rest) = nodes_add rest
  nodes_add (more (child b q under) rest) = omega (arith, nodes_add rest)

  pub objects_add : (row : Row)
      → objects_in (row_add row (child bounds page below)) ≡ objects_in row ++ objects_in below
  objects_add end = append-nil (objects_in below)
  objects_add (more (object b id) rest) = ap (λ (xs : List (ℕ × Object)). (id, b) ∷ xs) (objects_add rest)
  objects_add (more (child b q under) rest) =
      ap (λ (xs : List (ℕ × Object)). objects_in under ++ xs) (objects_add rest)
      ∙ sym (append_assoc (objects_in under) (objects_in rest) (objects_in below))

  pub occurs_add : (n : ℕ) (row : Row)
      → occurs n (row_add row (child bounds page below)) ≡ occurs n
      row + (cond (eqb page n) 1 0 + occurs n below)
  occurs_add n end = omega arith
  occurs_add n (more (object b id) rest) = occurs_add n rest
  occurs_add n (more (child b q under) rest) = omega (arith, occurs_add n rest)

  pub shape_add : (dims most : ℕ) (row : Row) → least_entries most ≤ row_length below
      → row_length below ≤ most → IsLeastBox dims bounds below → RowHasShape dims most below
      → RowHasShape dims most row
      → RowHasShape dims most (row_add row (child bounds page below))
  shape_add dims most end least few box inner h = (least, few, box, inner, tt)
  shape_add dims most (more (object b id) rest) least few box inner h =
      shape_add dims most rest least few box inner h
  shape_add dims most (more (child b q under) rest) least few box inner h =
      (h.0, h.1, h.2, h.3, shape_add dims most rest least few box inner h.4)

pub length_items : (row : Row) → length (row_items row) ≡ row_length row
length_items end = refl
length_items (more (object kept id) rest) = omega (arith, length_items rest)
length_items (more (child bounds page below) rest) = omega (arith, length_items rest)

-- ---- the first entries, and the others

abbrev pub row_take : ℕ → Row → Row
row_take zero row = end
row_take (suc n) end = end
row_take (suc n) (more x rest) = more x (row_take n rest)

pub items_taken : (n : ℕ) (row : Row) → row_items (row_take n row) ≡ take n (row_items row)
items_taken zero row = refl
items_taken (suc n) end = refl
items_taken (suc n) (more (object kept id) rest) =
    ap (λ (xs : List Item). record { bounds = bounds_of kept; reference = id; tag = tag_of kept } ∷ xs)
    (items_taken n rest)
items_taken (suc n) (more (child bounds page below) rest) =
    ap (λ (xs : List Item). record { bounds = bounds; reference = page; tag = 0 } ∷ xs) (items_taken n rest)

pub taken_stands : (dims : ℕ) (pages : PageMap) (level n : ℕ) (row : Row) → RowStands dims pages level row
    → RowStands dims pages level (row_take n row)
taken_stands dims pages level zero row h = tt
taken_stands dims pages level (suc n) end h = tt
taken_stands dims pages level (suc n) (more (object kept id) rest) h =
    (h.0, taken_stands dims pages level n rest h.1)
taken_stands dims pages level (suc n) (more (child bounds page below) rest) h =
    (h.0, h.1, h.2, taken_stands dims pages level n rest h.3)

pub occurs_split : (page n : ℕ) (row : Row)
    → occurs page (row_take n row) + occurs page (row_drop n row) ≡ occurs page row
occurs_split page zero row = omega arith
occurs_split page (suc n) end = refl
occurs_split page (suc n) (more (object kept id) rest) = occurs_split page n rest
occurs_split page (suc n) (more (child bounds q below) rest) = omega (arith, occurs_split page n rest)

pub dropped_shape : (dims most n : ℕ) (row : Row) → RowHasShape dims most row
    → RowHasShape dims most (row_drop n row)
dropped_shape dims most zero row h = h
dropped_shape dims most (suc n) end h = tt
dropped_shape dims most (suc n) (more (object kept id) rest) h = dropped_shape dims most n rest h
dropped_shape dims most (suc n) (more (child bounds page below) rest) h = dropped_shape dims most n rest h.4
