-- Which entries of a node the mask of its columns names.
use Rattle.std.proofs.Common.{◌≡◌, ◌≢◌, ◌∙◌, ℕ, zero, suc, ◌+◌, ◌*◌, ◌/◌, ◌%◌, ◌^◌, ◌-◌, ◌<◌, ◌≤◌, ◌&&◌, ◌==◌}
use Rattle.std.proofs.Common.{nat_lt, ⊎_elim, inl, inr, ℤ, ◌≤ℤ◌, Bool, true, false, bit_and, List, length}
use Rattle.std.proofs.Common.{map, get_or, get_or-set_other, get_or-set_same, set, below_more, refl, sym, ap}
use Rattle.std.proofs.Common.{subst, arith}
use Rattle.std.specs.Int.{Width, bit_at, bit_not, trailing_zeros}
use mir.Val.{bits}
use Rattle.std.proofs.lemmas.Bool.{cases_eq, cases_lt, false≢true, lt-ltb}
use Rattle.std.proofs.lemmas.Bool.Decides.{nat_tests}
use Rattle.std.proofs.lemmas.List.{get_or_default, length-map}
use Rattle.std.proofs.lemmas.Nat.{shr-shr}
use Rattle.std.proofs.lemmas.Nat.Bits.{bit_at-trailing_zeros, bit_at-zero, bit_at_above, bit_at_and}
use Rattle.std.proofs.lemmas.Nat.Bits.{bit_at_clear_other}
use Rattle.std.proofs.Math.Nat.{div-le_self}
use Rattle.box_math.specs.Bounds.{Bounds, IsBox, meets_test, on_axis, widened_of}
use Rattle.box_math.specs.Masks.{box_in_columns, has_bit}
use Rattle.box_math.proofs.BoxLaws.{on_axis-each_axis}
use Rattle.box_math.specs.Measures.{near_test}
use Rattle.box_math.proofs.Distances.{box_dist2_of-zero, near-widened, near_test_true}
use Rattle.box_math.proofs.TestLaws.{meets_test_true}
use Rattle.tree_node.specs.Boxes.{box_at, no_item}
use Rattle.tree_node.specs.declared.node.Entry.{Entry}
use Rattle.tree_node.specs.Nodes.{Item, item_of}
use Rattle.tree_node.proofs.RowLemmas.{entry_item}
use Rattle.node_bytes.specs.Columns.{cell}
use Rattle.spatial_join.specs.Masks.{HaveBoxes, Tells}

pub same_tests : (a b : Bool) → (a ≡ true → b ≡ true) → (b ≡ true → a ≡ true) → a ≡ b
same_tests true true f g = refl
same_tests true false f g = sym (f refl)
same_tests false true f g = g refl
same_tests false false f g = refl

both : (a b : Bool) → a && b ≡ true → a ≡ true
both true b e = refl
both false b e = absurd (false≢true e)

-- a box of the same coordinates meets what the other meets
pub column_meets : (dims : ℕ) (b c x : Bounds)
    → ((axis : ℕ) → axis < dims → on_axis c.low axis ≡ on_axis b.low axis)
    → ((axis : ℕ) → axis < dims → on_axis c.high axis ≡ on_axis b.high axis)
    → meets_test dims c x ≡ meets_test dims x b
column_meets dims b c x low high = same_tests (meets_test dims c x) (meets_test dims x b)
    (λ h. (meets_test_true dims x b).1 (λ axis lt.
    let m = (meets_test_true dims c x).0 h axis lt in (
      subst (λ (z : ℤ). on_axis x.low axis ≤ℤ z) (high axis lt) m.1,
      subst (λ (z : ℤ). z ≤ℤ on_axis x.high axis) (low axis lt) m.0,
    )))
    (λ h. (meets_test_true dims c x).1 (λ axis lt.
    let m = (meets_test_true dims x b).0 h axis lt in (
      subst (λ (z : ℤ). z ≤ℤ on_axis x.high axis) (sym (low axis lt)) m.1,
      subst (λ (z : ℤ). on_axis x.low axis ≤ℤ z) (sym (high axis lt)) m.0,
    )))

pub tells : (dims : ℕ) (lows highs : List (List ℤ)) (items : List Item) (window : Bounds) (mask n : ℕ)
    → n ≡ length items
    → ((k : ℕ) → has_bit mask k ≡ (nat_lt k n && meets_test dims (box_in_columns dims lows highs k) window))
    → ((axis place : ℕ) → axis < dims → place < length items
    → cell lows axis place ≡ on_axis (box_at items place).low axis)
    → ((axis place : ℕ) → axis < dims → place < length items
    → cell highs axis place ≡ on_axis (box_at items place).high axis)
    → Tells (meets_test dims window) mask items
tells dims lows highs items window mask n count bits low high = record {
  told = λ k lt.
      let within : k < n = omega (arith, lt, count) in
      let same = column_meets dims (box_at items k) (box_in_columns dims lows highs k) window
      (λ axis less. on_axis-each_axis dims (λ a. cell lows a k) axis less ∙ low axis k less lt)
      (λ axis less. on_axis-each_axis dims (λ a. cell highs a k) axis less ∙ high axis k less lt) in
      bits k ∙ ap (λ (t : Bool). t && meets_test dims (box_in_columns dims lows highs k) window)
      (lt-ltb k n within) ∙ same;
  within = λ k set.
      let less : nat_lt k n ≡ true =
      both (nat_lt k n) (meets_test dims (box_in_columns dims lows highs k) window)
      (sym (bits k) ∙ set) in
      grind (arith, nat_tests);
}

-- the mask of a node's columns
pub tells_entries : {dims : ℕ} (lows highs : List (List ℤ)) (entries : List (Entry dims)) (window : Bounds)
    (mask n : ℕ) → n ≡ length entries
    → ((k : ℕ) → has_bit mask k ≡ (nat_lt k n && meets_test dims (box_in_columns dims lows highs k) window))
    → ((axis place : ℕ) → axis < dims → place < length entries
    → cell lows axis place ≡ on_axis (box_at (map item_of entries) place).low axis)
    → ((axis place : ℕ) → axis < dims → place < length entries
    → cell highs axis place ≡ on_axis (box_at (map item_of entries) place).high axis)
    → Tells (meets_test dims window) mask (map item_of entries)
tells_entries {dims} lows highs entries window mask n count bits low high =
    let many = length-map entries item_of in
    tells dims lows highs (map item_of entries) window mask n (count ∙ sym many) bits
    (λ axis place lt less. low axis place lt (omega (arith, less, many)))
    (λ axis place lt less. high axis place lt (omega (arith, less, many)))

-- a place that it names is one of an entry, whose box passes
pub place_within : {dims : ℕ} {test : Bounds → Bool} (entries all : List (Entry dims)) (place mask : ℕ)
    → Tells test mask (map item_of all) → has_bit mask place ≡ true → entries ≡ all → place < length entries
place_within entries all place mask tells set same =
    omega (arith, tells.within place set, length-map all item_of, ap length same)

-- the entry in the place
pub entry_named : {dims : ℕ} (entries all : List (Entry dims)) (place : ℕ) (e : Entry dims) → entries ≡ all
    → place < length entries → e ≡ get_or entries place e → item_of e ≡ get_or (map item_of all) place no_item
entry_named {dims} entries all place e same within is =
    let here : item_of e ≡ get_or (map item_of all) place (item_of e) = entry_item entries place e within is
    ∙ ap (λ es. get_or (map item_of es) place (item_of e)) same in
    here ∙ sym
    (get_or_default (map item_of all) place no_item (item_of e)
    (omega (arith, within, length-map all item_of, ap length same)))

pub box_named : {dims : ℕ} (entries all : List (Entry dims)) (place : ℕ) (e : Entry dims) → entries ≡ all
    → place < length entries → e ≡ get_or entries place e
    → box_at (map item_of all) place ≡ (item_of e).bounds
box_named entries all place e same within is =
    ap (λ (x : Item). x.bounds) (sym (entry_named entries all place e same within is))

pub box_read : {dims : ℕ} (entries all : List (Entry dims)) (place : ℕ) (e : Entry dims) → entries ≡ all
    → place < length entries → e ≡ get_or entries place e
    → box_at (map item_of all) place ≡ (get_or entries place e).bounds
box_read {dims} entries all place e same within is = box_named entries all place e same within is
    ∙ ap (λ (x : Entry dims). x.bounds) is

-- so far the entries have boxes, and so has the next one
pub one_box_more : {dims : ℕ} (entries all : List (Entry dims)) (place : ℕ) (e : Entry dims) → entries ≡ all
    → place < length entries → e ≡ get_or entries place e → IsBox dims (get_or entries place e).bounds
    → ((k : ℕ) → k < place → IsBox dims (box_at (map item_of all) k)) → (k : ℕ) → k < place + 1
    → IsBox dims (box_at (map item_of all) k)
one_box_more {dims} entries all place e same within is box so_far =
    below_more (λ k. IsBox dims (box_at (map item_of all) k)) place so_far
    (subst (IsBox dims) (sym (box_read entries all place e same within is)) box)

-- so far a column holds a number of each box, and so it does with the next one
pub one_cell_more : {dims : ℕ} (entries all : List (Entry dims)) (place : ℕ) (e : Entry dims)
    (pick : Bounds → ℤ) (column : List ℤ) (v : ℤ) → entries ≡ all → place < length entries
    → e ≡ get_or entries place e
    → v ≡ pick (get_or entries place e).bounds → place < length column
    → ((k : ℕ) → k < place → on_axis column k ≡ pick (box_at (map item_of all) k)) → (k : ℕ) → k < place + 1
    → on_axis (set column place v) k ≡ pick (box_at (map item_of all) k)
one_cell_more entries all place e pick column v same within is value room so_far =
    below_more (λ k. on_axis (set column place v) k ≡ pick (box_at (map item_of all) k)) place
    (λ k lt. let other : k ≢ place = omega (arith, lt) in rw get_or-set_other (so_far k lt))
    (rw get_or-set_same (value ∙ ap pick (sym (box_read entries all place e same within is))))

pub near_here : {dims : ℕ} (test : Bounds → Bool) (entries all : List (Entry dims)) (place mask : ℕ)
    (e : Entry dims) → Tells test mask (map item_of all) → has_bit mask place ≡ true → entries ≡ all
    → e ≡ get_or entries place e
    → test (item_of e).bounds ≡ true
near_here {dims} test entries all place mask e tells set same is =
    let within = place_within entries all place mask tells set same in
    ap test (sym (box_named entries all place e same within is))
    ∙ sym (tells.told place (tells.within place set)) ∙ set

-- boxes that meet are those at no distance
pub near_where_they_meet : (dims : ℕ) (window : Bounds) (mask limit : ℕ) (items : List Item) → limit ≡ 0
    → Tells (meets_test dims window) mask items → Tells (near_test dims limit window) mask items
near_where_they_meet dims window mask limit items none met = record {
  told = λ k lt. met.told k lt
      ∙ same_tests (meets_test dims window (box_at items k)) (near_test dims limit window (box_at items k))
      (λ m. (near_test_true dims limit window (box_at items k)).1
      (omega (
        arith,
        (box_dist2_of-zero dims window (box_at items k)).1
            ((meets_test_true dims window (box_at items k)).0 m),
      )))
      (λ n. (meets_test_true dims window (box_at items k)).1
      ((box_dist2_of-zero dims window (box_at items k)).0
      (omega (arith, none, (near_test_true dims limit window (box_at items k)).0 n))));
  within = met.within;
}

-- boxes that are near meet where one of them is widened by a root of the distance
pub near_meets_widened : (dims root limit : ℕ) (a : Bounds) (items : List Item)
    → limit < (root + 1) * (root + 1) → HaveBoxes dims items
    → (k : ℕ) → k < length items → near_test dims limit a (box_at items k) ≡ true
    → meets_test dims (widened_of dims root a) (box_at items k) ≡ true
near_meets_widened dims root limit a items enough boxes k lt near =
    (meets_test_true dims (widened_of dims root a) (box_at items k)).1
    (near-widened dims root a (box_at items k) (boxes k lt)
    (omega (arith, enough, (near_test_true dims limit a (box_at items k)).0 near)))

-- ---- bits after a place

pub bit_after : (n k i : ℕ) → bit_at (n / 2 ^ k) i ≡ bit_at n (k + i)
bit_after n k i = ap (λ x. x % 2) (shr-shr n k i)

moved : (n from k : ℕ) → from ≤ k → bit_at n k ≡ bit_at (n / 2 ^ from) (k - from)
moved n from k past = let e : k ≡ from + (k - from) = omega arith in
    ap (bit_at n) e ∙ sym (bit_after n from (k - from))

is_clear : (n k : ℕ) → bit_at n k ≡ 0 → has_bit n k ≡ false
is_clear n k e = ap (λ (b : ℕ). b == 1) e

is_set : (n k : ℕ) → bit_at n k ≡ 1 → has_bit n k ≡ true
is_set n k e = ap (λ (b : ℕ). b == 1) e

-- none is set where nothing is left
pub clear_after : (n from : ℕ) → n / 2 ^ from ≡ 0 → (k : ℕ) → from ≤ k → has_bit n k ≡ false
clear_after n from none k past =
    is_clear n k (moved n from k past ∙ ap (λ (r : ℕ). bit_at r (k - from)) none ∙ bit_at-zero (k - from))

-- nor is any in a mask of none
pub none_set : (n : ℕ) → n ≡ 0 → (k : ℕ) → 0 ≤ k → has_bit n k ≡ false
none_set n none k past = is_clear n k (ap (λ (r : ℕ). bit_at r k) none ∙ bit_at-zero k)

module _ (w : Width) (n from : ℕ) (fits : n < 2 ^ bits w) (some : ¬ (n / 2 ^ from ≡ 0)) where
  zeros : ℕ
  zeros = trailing_zeros w (n / 2 ^ from)

  lowest : (zeros < bits w) × (bit_at (n / 2 ^ from) zeros ≡ 1)
      × ((i : ℕ) → i < zeros → bit_at (n / 2 ^ from) i ≡ 0)
  unfolding zeros
  lowest =
      let less : n / 2 ^ from ≤ n = div-le_self n (2 ^ from) in
      bit_at-trailing_zeros w (n / 2 ^ from) (omega (arith, some)) (omega (arith, less, fits))

  pub first_set : has_bit n (from + trailing_zeros w (n / 2 ^ from)) ≡ true
  unfolding zeros
  first_set = is_set n (from + zeros) (sym (bit_after n from zeros) ∙ lowest.1)

  pub first_within : from + trailing_zeros w (n / 2 ^ from) < bits w
  unfolding zeros
  first_within = ⊎_elim
      (λ (h : from + zeros < bits w). h)
      (λ (h : bits w ≤ from + zeros). absurd (
      let one : bit_at n (from + zeros) ≡ 1 = sym (bit_after n from zeros) ∙ lowest.1 in
      let none : bit_at n (from + zeros) ≡ 0 = bit_at_above n (bits w) (from + zeros) fits h in
      omega (arith, one, none)))
      (cases_lt (from + zeros) (bits w))

  pub clear_before : (k : ℕ) → from ≤ k → k < from + trailing_zeros w (n / 2 ^ from) → has_bit n k ≡ false
  unfolding zeros
  clear_before k past before =
      is_clear n k (moved n from k past ∙ lowest.2 (k - from) (omega (arith, past, before)))

-- where none is set from a place on, and yet some are, the place is not the first
pub some_before : (w : Width) (n from : ℕ) → n < 2 ^ bits w → ¬ (n ≡ 0)
    → ((k : ℕ) → from ≤ k → has_bit n k ≡ false) → 1 - from ≡ 0
some_before w n zero fits some clear =
    absurd (false≢true
    (sym (clear (0 + trailing_zeros w (n / 2 ^ 0)) (omega arith))
    ∙ first_set w n 0 fits (λ none. some (omega (arith, none)))))
some_before w n (suc from) fits some clear = omega arith

-- ---- entries that a mask names, of which those stay that pass another test

-- of the places before this one those are left that pass, and of the others all
pub record Sifted (test : Bounds → Bool) (named near : ℕ) (items : List Item) (place : ℕ) : Type 0 where
  pub before : (k : ℕ) → k < place → k < length items → has_bit near k ≡ test (box_at items k)
  pub after : (k : ℕ) → place ≤ k → has_bit near k ≡ has_bit named k
  pub fewer : (k : ℕ) → has_bit near k ≡ true → has_bit named k ≡ true

pub sifting_begins : (test : Bounds → Bool) (named : ℕ) (items : List Item) → Sifted test named named items 0
sifting_begins test named items =
    record { before = λ k lt within. absurd (omega arith); after = λ k past. refl; fewer = λ k set. set }

fails : (s t : Bool) → (s ≡ true → t ≡ true) → t ≡ false → s ≡ false
fails true t passes none = absurd (false≢true (sym none ∙ passes refl))
fails false t passes none = refl

module _ (test wide : Bounds → Bool) (named near : ℕ) (items : List Item) (told : Tells wide named items)
    (passes : (k : ℕ) → k < length items → test (box_at items k) ≡ true → wide (box_at items k) ≡ true)
    (from : ℕ) (so_far : Sifted test named near items from) where
  -- places that are not named fail, and are not set
  sifted_to : (place : ℕ) → ((k : ℕ) → from ≤ k → k < place → has_bit named k ≡ false) → (k : ℕ) → k < place
      → k < length items → has_bit near k ≡ test (box_at items k)
  sifted_to place clear k lt within = elim (cases_lt k from) [
    | inl early ↦ so_far.before k early within
    | inr late ↦
        let none = clear k late lt in
        so_far.after k late ∙ none
        ∙ sym (fails (test (box_at items k)) (wide (box_at items k)) (passes k within)
        (sym (told.told k within) ∙ none))
  ]

  -- one that is named and passes is kept
  pub one_kept : (place : ℕ) → from ≤ place → has_bit named place ≡ true
      → ((k : ℕ) → from ≤ k → k < place → has_bit named k ≡ false) → test (box_at items place) ≡ true
      → Sifted test named near items (place + 1)
  one_kept place order set clear pass = record {
    before = λ k lt within. elim (cases_lt k place) [
      | inl early ↦ sifted_to place clear k early within
      | inr late ↦ let same : k ≡ place = omega (arith, lt, late) in
          rw same (so_far.after place order ∙ set ∙ sym pass)
    ];
    after = λ k past. so_far.after k (omega (arith, past, order));
    fewer = so_far.fewer;
  }

  -- one that fails is cleared
  pub one_cleared : (place next : ℕ) → from ≤ place → has_bit named place ≡ true
      → ((k : ℕ) → from ≤ k → k < place → has_bit named k ≡ false) → test (box_at items place) ≡ false
      → bit_at next place ≡ 0 → ((k : ℕ) → k ≢ place → bit_at next k ≡ bit_at near k)
      → Sifted test named next items (place + 1)
  one_cleared place next order set clear fail cleared others = record {
    before = λ k lt within. elim (cases_lt k place) [
      | inl early ↦ ap (λ (b : ℕ). b == 1) (others k (omega (arith, early)))
          ∙ sifted_to place clear k early within
      | inr late ↦ let same : k ≡ place = omega (arith, lt, late) in
          rw same (is_clear next place cleared ∙ sym fail)
    ];
    after = λ k past. ap (λ (b : ℕ). b == 1) (others k (omega (arith, past)))
        ∙ so_far.after k (omega (arith, past, order));
    fewer = λ k still. elim (cases_eq k place) [
      | inl same ↦ rw same set
      | inr other ↦ so_far.fewer k (sym (ap (λ (b : ℕ). b == 1) (others k other)) ∙ still)
    ];
  }

  -- where none is named any more, all are sifted
  pub all_sifted : ((k : ℕ) → from ≤ k → has_bit named k ≡ false) → Tells test near items
  all_sifted clear = record {
    told = λ k within. sifted_to (length items) (λ j past lt. clear j past) k within within;
    within = λ k set. told.within k (so_far.fewer k set);
  }

-- a bit cleared leaves the others
pub cleared_elsewhere : (w : Width) (n place : ℕ) → n < 2 ^ bits w → place < bits w → (k : ℕ) → k ≢ place
    → bit_at (bit_and n (bit_not w (1 * 2 ^ place % 2 ^ bits w))) k ≡ bit_at n k
cleared_elsewhere w n place fits within k other = elim (cases_lt k (bits w)) [
  | inl lt ↦ bit_at_clear_other w n place within k lt other
  | inr past ↦
      let none = bit_at_above n (bits w) k fits past in
      omega (arith, none, bit_at_and n (bit_not w (1 * 2 ^ place % 2 ^ bits w)) k)
]
