-- What is pushed of the entries of a node that a mask names, place by place, and the pairs of an object and those
-- of a leaf.
use Rattle.std.proofs.Common.{◌≡◌, ◌∙◌, ℕ, zero, suc, ◌+◌, ◌-◌, ◌<◌, ◌≤◌, Bool, true, false, cond, List, []}
use Rattle.std.proofs.Common.{◌∷◌, ◌++◌, length, drop, get_or, map, refl, sym, ap, subst, arith, add-one}
use Rattle.std.specs.List.{filter}
use Rattle.std.proofs.Math.Seq.{drop-cons}
use Rattle.std.proofs.lemmas.List.{append_assoc, append-nil, drop_all, map-id}
use Rattle.box_math.specs.Bounds.{Bounds}
use Rattle.box_math.specs.Objects.{Object, bounds_of, tag_of}
use Rattle.box_math.specs.Measures.{near_test}
use Rattle.box_math.specs.Masks.{has_bit}
use Rattle.tree_node.specs.Boxes.{box_at, no_item}
use Rattle.tree_node.specs.Nodes.{Item}
use Rattle.tree_node.specs.Positions.{total}
use Rattle.tree_node.specs.Trees.{Row, end, more, object, child, objects_in, row_items}
use Rattle.node_page.specs.Standing.{PageMap, RowStands}
use Rattle.spatial_join.specs.Masks.{Tells}
use Rattle.spatial_join.specs.Pairs.{pairs_of, pairs_with}
use Rattle.spatial_join.proofs.PairLemmas.{near_sum, row_head}

module _ {X : Type 0} (f : Item → X) (test : Bounds → Bool) (items : List Item) where
  -- something of each entry whose box passes
  abbrev passed : List Item → List X
  passed xs = map f (filter (λ other. test other.bounds) xs)

  -- those of the places before this one are pushed
  abbrev pub Pushed : ℕ → List X → List X → Type 0
  Pushed j old now = now ++ map f (filter (λ other. test other.bounds) (drop j items)) ≡ old
      ++ map f (filter (λ other. test other.bounds) items)

  -- those of the place and of the later ones
  here : (j : ℕ) → j < length items → (t : Bool) → test (box_at items j) ≡ t
      → passed (drop j items) ≡ cond t (f (get_or items j no_item) ∷ passed (drop (j + 1) items))
      (passed (drop (j + 1) items))
  here j within t passes =
      let y : Item = get_or items j no_item in
      let others : List Item = filter (λ other. test other.bounds) (drop (j + 1) items) in
      let first : drop j items ≡ y ∷ drop (j + 1) items = drop-cons items j no_item within
      ∙ ap (λ (n : ℕ). y ∷ drop n items) (sym (add-one j)) in
      ap passed first
      ∙ ap (λ (t : Bool). map f (cond t (y ∷ others) others)) passes ∙ by_test t y others
    where
      by_test : (t : Bool) (y : Item) (others : List Item)
          → map f (cond t (y ∷ others) others) ≡ cond t (f y ∷ map f others) (map f others)
      by_test true y others = refl
      by_test false y others = refl

  module _ (old now : List X) where
    -- places that the mask does not name are passed over
    pushed_to : (j k n : ℕ) → j + n ≡ k → Pushed j old now → k ≤ length items
        → ((p : ℕ) → j ≤ p → p < k → test (box_at items p) ≡ false)
        → Pushed k old now
    pushed_to j k zero reach so_far within apart =
        let same : j ≡ k = omega (arith, reach) in
        subst (λ (p : ℕ). Pushed p old now) same so_far
    pushed_to j k (suc n) reach so_far within apart =
        let last : j + n < k = omega (arith, reach) in
        let before =
        pushed_to j (j + n) n refl so_far (omega (arith, within, last))
        (λ p low high. apart p low (omega (arith, high, last))) in
        let next : j + n + 1 ≡ k = omega (arith, reach) in
        let none = here (j + n) (omega (arith, within, last)) false (apart (j + n) (omega arith) last) in
        subst (λ (p : ℕ). Pushed p old now) next (ap (λ (l : List X). now ++ l) (sym none) ∙ before)

    module _ (mask : ℕ) (told : Tells test mask items) (j : ℕ) (so_far : Pushed j old now) where
      pushed_before : (k : ℕ) → j ≤ k → k ≤ length items → ((p : ℕ) → j ≤ p → p < k → has_bit mask p ≡ false)
          → Pushed k old now
      pushed_before k order within clear =
          pushed_to j k (k - j) (omega (arith, order)) so_far within
          (λ p low high. sym (told.told p (omega (arith, within, high))) ∙ clear p low high)

      -- that of the next place that it names is pushed
      pub next_pushed : (k : ℕ) → j ≤ k → has_bit mask k ≡ true
          → ((p : ℕ) → j ≤ p → p < k → has_bit mask p ≡ false) → (y : Item) → y ≡ get_or items k no_item
          → (next : List X) → next ≡ now ++ f y ∷ [] → Pushed (k + 1) old next
      next_pushed k order set clear y is next pushed =
          let within = told.within k set in
          let before = pushed_before k order (omega (arith, within)) clear in
          let rest : List X = passed (drop (k + 1) items) in
          let one = here k within true (sym (told.told k within) ∙ set) in
          ap (λ (l : List X). l ++ rest) pushed
          ∙ append_assoc now (f y ∷ []) rest
          ∙ ap (λ (z : Item). now ++ (f z ∷ rest)) is
          ∙ ap (λ (l : List X). now ++ l) (sym one)
          ∙ before

      -- where it names none that comes later, all are
      pub all_pushed : j ≤ length items → ((p : ℕ) → j ≤ p → has_bit mask p ≡ false)
          → now ≡ old ++ map f (filter (λ other. test other.bounds) items)
      all_pushed within clear =
          let before = pushed_before (length items) within (omega arith) (λ p low high. clear p low) in
          let none = ap (λ (l : List Item). now ++ passed l) (drop_all (length items) items (omega arith)) in
          sym (append-nil now) ∙ sym none ∙ before

-- so are the entries themselves
pub all_written : (test : Bounds → Bool) (items now : List Item) (mask : ℕ) → Tells test mask items → (j : ℕ)
    → Pushed (λ item. item) test items j [] now → j ≤ length items
    → ((p : ℕ) → j ≤ p → has_bit mask p ≡ false) → now ≡ filter (λ other. test other.bounds) items
all_written test items now mask told j so_far within clear =
    all_pushed (λ item. item) test items [] now mask told j so_far within clear
    ∙ map-id (filter (λ (other : Item). test other.bounds) items)

-- ---- these are the pairs below the entry and below the leaf

abbrev of_object : Item → ℕ × Object → ℕ × ℕ
of_object x other = (x.reference, other.0)

abbrev pub of_item : Item → Item → ℕ × ℕ
of_item x other = (x.reference, other.reference)

pub leaf_pairs : (dims limit : ℕ) (m : PageMap) (t : Row) (x : Item) → RowStands dims m 0 t
    → pairs_with dims limit (objects_in t) (x.reference, (x.bounds, x.tag)) ≡ pairs_of dims limit
    (row_items t) x
leaf_pairs dims limit m end x stands = refl
leaf_pairs dims limit m (more (child b page below) rest) x stands = absurd (omega (arith, stands.0))
leaf_pairs dims limit m (more (object kept id) rest) x stands =
    at (near_test dims limit x.bounds (bounds_of kept))
    (filter (λ (other : ℕ × Object). near_test dims limit x.bounds (bounds_of other.1))
    (objects_in rest))
    (filter (λ (other : Item). near_test dims limit x.bounds other.bounds) (row_items rest))
    (leaf_pairs dims limit m rest x stands.1)
  where
    it : ℕ × Object
    it = (id, kept)

    at : (t : Bool) (objects : List (ℕ × Object)) (items : List Item)
        → map (of_object x) objects ≡ map (of_item x) items
        → map (of_object x) (cond t (it ∷ objects) objects) ≡ map (of_item x)
        (cond t (record { bounds = bounds_of kept; reference = id; tag = tag_of kept } ∷ items) items)
    at true objects items same = ap (λ (l : List (ℕ × ℕ)). (x.reference, id) ∷ l) same
    at false objects items same = same

pub leaf_sum : (dims limit : ℕ) (m : PageMap) (f : ℕ × ℕ → ℕ) (s t : Row) (x : Item) (xs items : List Item)
    → row_items s ≡ x ∷ xs → row_items t ≡ items → RowStands dims m 0 s → RowStands dims m 0 t
    → near_sum dims limit f (row_head s) t ≡ total f (pairs_of dims limit items x)
leaf_sum dims limit m f end t x xs items same same' stands stands' = absurd (cc)
leaf_sum dims limit m f (more (child b page below) rest) t x xs items same same' stands stands' =
    absurd (omega (arith, stands.0))
leaf_sum dims limit m f (more (object kept id) rest) t x xs items same same' stands stands' =
    let first : ◌≡◌ {A = Item} (record { bounds = bounds_of kept; reference = id; tag = tag_of kept }) x =
    cc in
    ap (total f) (append-nil (pairs_with dims limit (objects_in t) (id, kept)))
    ∙ ap (λ (z : Item). total f (pairs_with dims limit (objects_in t) (z.reference, (z.bounds, z.tag)))) first
    ∙ ap (total f) (leaf_pairs dims limit m t x stands')
    ∙ ap (λ (l : List Item). total f (pairs_of dims limit l x)) same'
