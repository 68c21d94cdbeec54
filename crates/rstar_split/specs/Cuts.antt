-- How a node of one entry too many is split (Beckmann, Kriegel, Schneider and Seeger 1990; the ties are our
-- rule, docs/RULES.md).
use Rattle.std.specs.Prelude.{◌≡◌, ℕ, ◌+◌, ◌-◌, ◌*◌, ◌<◌, ◌≤◌, ℤ, Bool, List, [], ◌∷◌, length, take, drop}
use Rattle.std.specs.Prelude.{slice_index_or}
use Rattle.std.specs.Ordering.{nat_cmp, int_cmp, ordering_then, is_lt}
use Rattle.box_math.specs.Bounds.{Bounds, on_axis}
use Rattle.box_math.specs.Measures.{sum_over, volume_of, margin_of, overlap_of}
use Rattle.tree_node.specs.Nodes.{Item}
use Rattle.tree_node.specs.Shape.{least_entries}
use Rattle.tree_node.specs.Boxes.{box_at, reference_at, least_box}
use Rattle.tree_node.specs.Positions.{pick}
use Rattle.tree_node.specs.Keys.{AtMost, IsFirstLeast}
use Rattle.tree_node.specs.Orders.{in_order}
use Rattle.rstar_split.specs.declared.sorting.Bound.{Bound}
use Rattle.rstar_split.specs.declared.sorting.Bound.TheVariants.{Lower, Upper}
use Rattle.rstar_split.specs.declared.cuts.Cut.{Cut}

-- ---- sorts

-- the bound by which a sort goes, and the other
abbrev pub own_bound : Bound → Bounds → ℕ → ℤ
own_bound Lower b axis = on_axis b.low axis
own_bound Upper b axis = on_axis b.high axis

abbrev pub other_bound : Bound → Bounds → ℕ → ℤ
other_bound Lower b axis = on_axis b.high axis
other_bound Upper b axis = on_axis b.low axis

-- whether entry i comes before entry j: by the bound, by the other bound, by reference, by position
unfoldable pub before : List Item → ℕ → Bound → ℕ → ℕ → Bool
before items axis bound i j =
    is_lt (ordering_then (ordering_then (ordering_then
    (int_cmp (own_bound bound (box_at items i) axis) (own_bound bound (box_at items j) axis))
    (int_cmp (other_bound bound (box_at items i) axis) (other_bound bound (box_at items j) axis)))
    (nat_cmp (reference_at items i) (reference_at items j)))
    (nat_cmp i j))

-- the positions of all entries, sorted by a bound on an axis
unfoldable pub order_of : List Item → ℕ → Bound → List ℕ
order_of items axis bound = in_order (before items axis bound) (length items)

-- the sort by lower comes first
abbrev pub rank_of : Bound → ℕ
rank_of Lower = 0
rank_of Upper = 1

-- ---- candidates: an order is cut after the first group

-- the boxes of the two groups
unfoldable pub front_box : ℕ → List Item → List ℕ → ℕ → Bounds
front_box dims items order size = least_box dims (pick items (take size order))

unfoldable pub back_box : ℕ → List Item → List ℕ → ℕ → Bounds
back_box dims items order size = least_box dims (pick items (drop size order))

-- the margins of both boxes, summed over so many sizes from m on
unfoldable pub margins_of : ℕ → List Item → List ℕ → ℕ → ℕ → ℕ
margins_of dims items order m count =
    sum_over count
    (λ k. margin_of dims (front_box dims items order (m + k)) + margin_of dims
    (back_box dims items order (m + k)))

-- how many sizes a first group can have where each group has m entries or more
abbrev pub cuts_of : ℕ → ℕ → ℕ
cuts_of n m = n + 1 - 2 * m

-- the margin sum of an axis over its two sorts
abbrev pub axis_margin : ℕ → List Item → ℕ → ℕ → ℕ
axis_margin dims items m axis =
    margins_of dims items (order_of items axis Lower) m (cuts_of (length items) m) + margins_of dims items
    (order_of items axis Upper) m (cuts_of (length items) m)

-- what decides between the candidates of an axis: the overlap of the two boxes, the sum of their volumes, the
-- sort, the size
unfoldable pub order_key : ℕ → List Item → List ℕ → Bound → ℕ → List ℕ
order_key dims items order bound size =
    let front = front_box dims items order size in
    let back = back_box dims items order size in
    overlap_of dims front back ∷ (volume_of dims front + volume_of dims back) ∷ rank_of bound ∷ size ∷ []

abbrev pub cut_key : ℕ → List Item → ℕ → Bound → ℕ → List ℕ
cut_key dims items axis bound size = order_key dims items (order_of items axis bound) bound size

-- The chosen split of a node that may have so many entries: the positions of its two groups. No axis has a
-- lesser margin sum, and no earlier one an equal sum; of the axis's candidates none comes before the chosen
-- one.
pub record Splits (dims most : ℕ) (items : List Item) (first second : List ℕ) : Type 0 where
  pub axis : ℕ
  pub bound : Bound
  pub size : ℕ
  pub axis_least : IsFirstLeast dims (λ a. axis_margin dims items (least_entries most) a ∷ []) axis
  pub first_full : least_entries most ≤ size
  pub second_full : size + least_entries most ≤ length items
  pub least : (b : Bound) (s : ℕ) → least_entries most ≤ s → s + least_entries most ≤ length items
      → AtMost (cut_key dims items axis bound size) (cut_key dims items axis b s)
  pub first_is : first ≡ take size (order_of items axis bound)
  pub second_is : second ≡ drop size (order_of items axis bound)

-- ---- what the code knows of an order

-- the boxes of those of n entries that come after the first so many and more, at these sizes
abbrev pub AreBacks : ℕ → List Item → List ℕ → ℕ → ℕ → List Bounds → Type 0
AreBacks dims items order least n boxes = (size : ℕ) (d : Bounds) → least ≤ size → size < n
    → slice_index_or boxes size d ≡ back_box dims items order size

-- what decides between candidates, as a cut has it
abbrev pub numbers_of : Cut → List ℕ
numbers_of cut = cut.overlap ∷ cut.volumes ∷ rank_of cut.bound ∷ cut.size ∷ []

-- the least candidate of an order of n entries among those of a size below a limit, and its key
pub record IsLeastCut (dims : ℕ) (items : List Item) (order : List ℕ) (n m : ℕ) (bound : Bound)
    (limit size : ℕ) (key : List ℕ) : Type 0 where
  pub first_full : m ≤ size
  pub second_full : size + m ≤ n
  pub is : key ≡ order_key dims items order bound size
  pub least : (s : ℕ) → m ≤ s → s < limit → AtMost key (order_key dims items order bound s)
