-- The columns that are read from a page are those of its entries.
use Rattle.std.proofs.Common.{◌≡◌, ℕ, zero, suc, ◌+◌, ◌*◌, ◌<◌, ◌≤◌, ℤ, ◌≤ℤ◌, pos, List, [], length, get_or}
use Rattle.std.proofs.Common.{map, replicate, refl, sym, ◌∙◌, ap, subst, arith}
use Rattle.std.proofs.lemmas.List.{get_or-map, length-map}
use Rattle.block_bytes.specs.Numbers.{number_at, signed_at}
use Rattle.block_bytes.specs.PlaceLaws.{get_or-first_places, length-first_places}
use Rattle.box_math.specs.Bounds.{IsOrdered, on_axis}
use Rattle.box_bytes.specs.Corners.{corner_at}
use Rattle.box_bytes.specs.Laws.{on_axis-corner_at}
use Rattle.node_bytes.specs.Columns.{cell, AreColumns}
use Rattle.tree_node.specs.Nodes.{Item}
use Rattle.node_bytes.specs.Layout.{IsEntry, IsReference, item_at, items_at}
use Rattle.node_bytes.proofs.Writing.{nothing}

-- zeros to begin with
pub zero_column : (n k : ℕ) → on_axis (replicate n (pos 0)) k ≡ pos 0
zero_column zero k = refl
zero_column (suc n) zero = refl
zero_column (suc n) (suc k) = zero_column n k

module _ (dims count first : ℕ) (page : List ℕ) (columns : List (List ℤ)) (point_of : Item → List ℤ)
    (place_is : (place : ℕ)
    → point_of (item_at dims page place) ≡ corner_at dims page (first + 4 * place) 800)
    (read : (axis place : ℕ) → axis < dims → place < count
    → cell columns axis place ≡ signed_at (first + 800 * axis + 4 * place) page)
    (zeros : (axis place : ℕ) → axis < dims → count ≤ place → cell columns axis place ≡ pos 0) where
  many : length (map point_of (items_at dims page count)) ≡ count
  many = length-map (items_at dims page count) point_of ∙ length-first_places (item_at dims page) count

  point_is : (place : ℕ) → place < count
      → get_or (map point_of (items_at dims page count)) place [] ≡ corner_at dims page (first + 4 * place)
      800
  point_is place lt =
      get_or-map point_of (items_at dims page count) place nothing []
      (omega (arith, length-first_places (item_at dims page) count))
      ∙ ap point_of (get_or-first_places (item_at dims page) count place nothing lt) ∙ place_is place

  are_columns : AreColumns dims (map point_of (items_at dims page count)) columns
  are_columns = record {
    each = λ axis place lt below.
        let within : place < count = omega (arith, many) in
        let there : first + 800 * axis + 4 * place ≡ first + 4 * place + 800 * axis = omega arith in
        read axis place lt within ∙ ap (λ (at : ℕ). signed_at at page) there
        ∙ sym (on_axis-corner_at dims page (first + 4 * place) 800 axis lt)
        ∙ ap (λ (p : List ℤ). on_axis p axis) (sym (point_is place within));
    behind = λ axis place lt above. zeros axis place lt (omega (arith, many));
  }

low_is : (dims : ℕ) (page : List ℕ) (place : ℕ)
    → (item_at dims page place).bounds.low ≡ corner_at dims page (16 + 4 * place) 800
unfolding item_at
low_is dims page place = refl

high_is : (dims : ℕ) (page : List ℕ) (place : ℕ)
    → (item_at dims page place).bounds.high ≡ corner_at dims page (416 + 4 * place) 800
unfolding item_at
high_is dims page place = refl

pub low_columns : (dims count : ℕ) (page : List ℕ) (columns : List (List ℤ))
    → ((axis place : ℕ) → axis < dims → place < count
    → cell columns axis place ≡ signed_at (16 + 800 * axis + 4 * place) page)
    → ((axis place : ℕ) → axis < dims → count ≤ place → cell columns axis place ≡ pos 0)
    → AreColumns dims (map (λ (item : Item). item.bounds.low) (items_at dims page count)) columns
low_columns dims count page columns read zeros =
    are_columns dims count 16 page columns (λ item. item.bounds.low) (low_is dims page) read zeros

pub high_columns : (dims count : ℕ) (page : List ℕ) (columns : List (List ℤ))
    → ((axis place : ℕ) → axis < dims → place < count
    → cell columns axis place ≡ signed_at (416 + 800 * axis + 4 * place) page)
    → ((axis place : ℕ) → axis < dims → count ≤ place → cell columns axis place ≡ pos 0)
    → AreColumns dims (map (λ (item : Item). item.bounds.high) (items_at dims page count)) columns
high_columns dims count page columns read zeros =
    are_columns dims count 416 page columns (λ item. item.bounds.high) (high_is dims page) read zeros

-- ---- entries in columns

module _ (dims place : ℕ) (page : List ℕ) where
  pub low_read : (axis : ℕ) → axis < dims
      → on_axis (item_at dims page place).bounds.low axis ≡ signed_at (16 + 800 * axis + 4 * place) page
  low_read axis lt =
      let there : 16 + 4 * place + 800 * axis ≡ 16 + 800 * axis + 4 * place = omega arith in
      ap (λ (p : List ℤ). on_axis p axis) (low_is dims page place)
      ∙ on_axis-corner_at dims page (16 + 4 * place) 800 axis lt
      ∙ ap (λ (at : ℕ). signed_at at page) there

  pub high_read : (axis : ℕ) → axis < dims
      → on_axis (item_at dims page place).bounds.high axis ≡ signed_at (16 + 800 * axis + 400 + 4 * place)
      page
  high_read axis lt =
      let there : 416 + 4 * place + 800 * axis ≡ 16 + 800 * axis + 400 + 4 * place = omega arith in
      ap (λ (p : List ℤ). on_axis p axis) (high_is dims page place)
      ∙ on_axis-corner_at dims page (416 + 4 * place) 800 axis lt
      ∙ ap (λ (at : ℕ). signed_at at page) there

  pub reference_read : (item_at dims page place).reference ≡ number_at 8 (16 + 800 * dims + 8 * place) page
  unfolding item_at
  reference_read = refl

  -- a place holds an entry of the level where its lows are at most its highs and its reference is one of the
  -- level
  pub entry_in_columns : (level : ℕ)
      → ((axis : ℕ) → axis < dims
      → signed_at (16 + 800 * axis + 4 * place) page ≤ℤ signed_at (16 + 800 * axis + 400 + 4 * place) page)
      → IsReference level (number_at 8 (16 + 800 * dims + 8 * place) page)
      → IsEntry dims level (item_at dims page place)
  entry_in_columns level ordered refers = record {
    ordered = λ axis lt. rw (low_read axis lt, high_read axis lt) (ordered axis lt);
    refers = subst (IsReference level) (sym reference_read) refers;
  }

  pub ordered_in_columns : (level : ℕ) → IsEntry dims level (item_at dims page place) → (axis : ℕ)
      → axis < dims
      → signed_at (16 + 800 * axis + 4 * place) page ≤ℤ signed_at (16 + 800 * axis + 400 + 4 * place) page
  ordered_in_columns level is axis lt = rw (← low_read axis lt, ← high_read axis lt) (is.ordered axis lt)

  pub refers_in_columns : (level : ℕ) → IsEntry dims level (item_at dims page place)
      → IsReference level (number_at 8 (16 + 800 * dims + 8 * place) page)
  refers_in_columns level is = subst (IsReference level) reference_read is.refers

  pub ordered_corners : IsOrdered dims (item_at dims page place).bounds.low
      (item_at dims page place).bounds.high
      → IsOrdered dims (corner_at dims page (16 + 4 * place) 800) (corner_at dims page (416 + 4 * place) 800)
  unfolding item_at
  ordered_corners h = h
