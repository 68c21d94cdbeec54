-- The pairs of the objects of two leaves, of the first of which a mask names those near the box of the other.
use Rattle.std.proofs.Common.{◌≡◌, ◌∙◌, ℕ, zero, suc, ◌+◌, ◌-◌, ◌<◌, ◌≤◌, Bool, true, false, cond, Some, List}
use Rattle.std.proofs.Common.{[], ◌∷◌, ◌++◌, length, drop, get_or, map, All, refl, sym, ap, subst, arith, add-one}
use Rattle.std.proofs.Common.{⊎_elim}
use Rattle.std.specs.Prelude.{slice_get}
use Rattle.std.specs.List.{filter, flat_map}
use Rattle.std.proofs.Math.Seq.{drop-cons}
use Rattle.std.proofs.lemmas.Bool.{cases_lt, false≢true}
use Rattle.std.proofs.lemmas.List.{drop_all, get_or_default}
use Rattle.std.proofs.lemmas.List.Elements.{All-cons, All-nil}
use Rattle.std.proofs.lemmas.Option.{slice_get-get_or}
use Rattle.box_math.specs.Bounds.{Bounds, IsBox, Within, meets_test}
use Rattle.box_math.specs.Masks.{has_bit}
use Rattle.box_math.specs.Measures.{near_test}
use Rattle.box_math.specs.Objects.{bounds_of, tag_of}
use Rattle.box_math.proofs.BoxLaws.{Within-refl}
use Rattle.box_math.proofs.Distances.{box_dist2_of-commutes, near_test_true}
use Rattle.tree_node.specs.Boxes.{box_at, no_item}
use Rattle.tree_node.specs.Nodes.{Item}
use Rattle.tree_node.specs.Positions.{total}
use Rattle.tree_node.specs.Trees.{Row, end, more, object, child, objects_in, row_items}
use Rattle.tree_node.proofs.PositionLemmas.{total-append}
use Rattle.node_page.specs.Standing.{PageMap, RowStands}
use Rattle.spatial_join.specs.Masks.{HaveBoxes, Tells}
use Rattle.spatial_join.specs.Opening.{AllWithin}
use Rattle.spatial_join.specs.Pairs.{GainsItems, near_below, pairs_of}
use Rattle.spatial_join.proofs.LeafPairs.{leaf_pairs}
use Rattle.spatial_join.proofs.MaskLemmas.{column_meets, same_tests}
use Rattle.spatial_join.proofs.PairLemmas.{fails_below}

-- ---- a node that is read in its page

-- the mask of such a node
pub tells_viewed : (dims : ℕ) (window : Bounds) (mask : ℕ) (items : List Item)
    → ((place : ℕ) (item : Item) → slice_get items place ≡ Some item
    → has_bit mask place ≡ meets_test dims item.bounds window)
    → ((place : ℕ) → length items ≤ place → has_bit mask place ≡ false)
    → Tells (meets_test dims window) mask items
tells_viewed dims window mask items met none = record {
  told = λ k lt. met k (get_or items k no_item) (slice_get-get_or items k no_item lt)
      ∙ column_meets dims (box_at items k) (box_at items k) window (λ axis less. refl) (λ axis less. refl);
  within = λ k set. ⊎_elim (λ (lt : k < length items). lt)
      (λ (past : length items ≤ k). absurd (false≢true (sym (none k past) ∙ set)))
      (cases_lt k (length items));
}

-- its entries have boxes
pub have_boxes : (dims : ℕ) (items : List Item) → All (λ item. IsBox dims item.bounds) items
    → HaveBoxes dims items
have_boxes dims items boxes k lt = boxes k no_item lt

-- the entry in a place
pub item_read : (items : List Item) (place : ℕ) (x : Item) → place < length items
    → x ≡ get_or items place x → x ≡ get_or items place no_item
item_read items place x within is = is ∙ sym (get_or_default items place no_item x within)

pub bounds_read : (items : List Item) (place : ℕ) (x : Item) → place < length items
    → x ≡ get_or items place x → box_at items place ≡ x.bounds
bounds_read items place x within is =
    ap (λ (item : Item). item.bounds) (sym (item_read items place x within is))

-- ---- the objects of one leaf in turn

near_turned : (dims limit : ℕ) (a b : Bounds) → near_test dims limit a b ≡ near_test dims limit b a
near_turned dims limit a b =
    let turned = box_dist2_of-commutes dims a b in
    same_tests (near_test dims limit a b) (near_test dims limit b a)
    (λ h. (near_test_true dims limit b a).1 (omega (arith, turned, (near_test_true dims limit a b).0 h)))
    (λ h. (near_test_true dims limit a b).1 (omega (arith, turned, (near_test_true dims limit b a).0 h)))

-- one that is not near a box has no pair with those in the box
no_pairs_of : (dims limit : ℕ) (b : Bounds) (others : List Item) (x : Item)
    → All (λ (item : Item). Within dims item.bounds b) others → near_test dims limit b x.bounds ≡ false
    → pairs_of dims limit others x ≡ []
no_pairs_of dims limit b [] x within apart = refl
no_pairs_of dims limit b (y ∷ others) x within apart =
    let here : Within dims y.bounds b = within 0 y (omega arith) in
    let later : All (λ (item : Item). Within dims item.bounds b) others =
    λ i d lt. within (suc i) d (omega (arith, lt)) in
    let out =
    fails_below dims limit x.bounds x.bounds y.bounds b (Within-refl dims x.bounds) here
    (near_turned dims limit x.bounds b ∙ apart) in
    let rest : List Item = filter (λ other. near_test dims limit x.bounds other.bounds) others in
    ap (λ (t : Bool). map (λ (other : Item). (x.reference, other.reference)) (cond t (y ∷ rest) rest)) out
    ∙ no_pairs_of dims limit b others x later apart

module _ (dims limit : ℕ) (items others : List Item) (b : Bounds) where
  abbrev pairs_in : List Item → List (ℕ × ℕ)
  pairs_in xs = flat_map (pairs_of dims limit others) xs

  -- the pairs of the objects before this place are added, where the others lie in the box
  abbrev pub Joined : ℕ → List (ℕ × ℕ) → List (ℕ × ℕ) → Type 0
  Joined j pairs pairs_now = All (λ (item : Item). Within dims item.bounds b) others → (f : ℕ × ℕ → ℕ)
      → total f pairs_now + total f (flat_map (pairs_of dims limit others) (drop j items))
      ≡ total f pairs + total f (flat_map (pairs_of dims limit others) items)

  -- those of the object in the place, and of the later ones
  one_more_object : (f : ℕ × ℕ → ℕ) (j : ℕ) → j < length items
      → total f (pairs_in (drop j items)) ≡ total f (pairs_of dims limit others (get_or items j no_item))
      + total f (pairs_in (drop (j + 1) items))
  one_more_object f j within =
      let x : Item = get_or items j no_item in
      let first : drop j items ≡ x ∷ drop (j + 1) items = drop-cons items j no_item within
      ∙ ap (λ (n : ℕ). x ∷ drop n items) (sym (add-one j)) in
      ap (λ (l : List Item). total f (pairs_in l)) first
      ∙ total-append f (pairs_of dims limit others x) (pairs_in (drop (j + 1) items))

  module _ (pairs pairs_now : List (ℕ × ℕ)) where
    -- objects that are not near the box are passed over
    joined_to : (j k n : ℕ) → j + n ≡ k → Joined j pairs pairs_now → k ≤ length items
        → ((p : ℕ) → j ≤ p → p < k → near_test dims limit b (box_at items p) ≡ false)
        → Joined k pairs pairs_now
    joined_to j k zero reach so_far within apart =
        let same : j ≡ k = omega (arith, reach) in
        subst (λ (p : ℕ). Joined p pairs pairs_now) same so_far
    joined_to j k (suc n) reach so_far within apart =
        let last : j + n < k = omega (arith, reach) in
        let before =
        joined_to j (j + n) n refl so_far (omega (arith, within, last))
        (λ p low high. apart p low (omega (arith, high, last))) in
        let next : j + n + 1 ≡ k = omega (arith, reach) in
        let step : Joined (j + n + 1) pairs pairs_now = λ all f.
        let none =
        ap (total f)
        (no_pairs_of dims limit b others (get_or items (j + n) no_item) all (apart (j + n) (omega arith) last))
        in
        omega (arith, before all f, one_more_object f (j + n) (omega (arith, within, last)), none) in
        subst (λ (p : ℕ). Joined p pairs pairs_now) next step

    module _ (mask : ℕ) (told : Tells (near_test dims limit b) mask items) (j : ℕ)
        (so_far : Joined j pairs pairs_now) where
      joined_before : (k : ℕ) → j ≤ k → k ≤ length items → ((p : ℕ) → j ≤ p → p < k → has_bit mask p ≡ false)
          → Joined k pairs pairs_now
      joined_before k order within clear =
          joined_to j k (k - j) (omega (arith, order)) so_far within
          (λ p low high. sym (told.told p (omega (arith, within, high))) ∙ clear p low high)

      -- those of the next object that the mask names are added
      pub next_joined : (k : ℕ) → j ≤ k → has_bit mask k ≡ true
          → ((p : ℕ) → j ≤ p → p < k → has_bit mask p ≡ false) → (x : Item) → x ≡ get_or items k no_item
          → (pairs_next : List (ℕ × ℕ)) → pairs_next ≡ pairs_now ++ pairs_of dims limit others x
          → Joined (k + 1) pairs pairs_next
      next_joined k order set clear x is pairs_next pushed all f =
          let within = told.within k set in
          let before = joined_before k order (omega (arith, within)) clear all f in
          let added = ap (total f) pushed ∙ total-append f pairs_now (pairs_of dims limit others x) in
          let same = ap (λ (y : Item). total f (pairs_of dims limit others y)) is in
          omega (arith, before, added, same, one_more_object f k within)

      -- where it names none that comes later, all are
      pub all_joined : j ≤ length items → ((p : ℕ) → j ≤ p → has_bit mask p ≡ false)
          → All (λ (item : Item). Within dims item.bounds b) others
          → GainsItems dims limit items others pairs pairs_now
      all_joined within clear all f =
          let before =
          joined_before (length items) within (omega arith) (λ p low high. clear p low) all f in
          let none = ap (λ (l : List Item). total f (pairs_in l)) (drop_all (length items) items (omega arith))
          in
          omega (arith, before, none)

-- nothing is added yet
pub joining_begins : (dims limit : ℕ) (items others : List Item) (b : Bounds) (pairs : List (ℕ × ℕ))
    → Joined dims limit items others b 0 pairs pairs
joining_begins dims limit items others b pairs all f = refl

-- ---- these are the pairs below two leaves

pub leaves_near : (dims limit : ℕ) (m : PageMap) (s t : Row) → RowStands dims m 0 s → RowStands dims m 0 t
    → near_below dims limit s t ≡ flat_map (pairs_of dims limit (row_items t)) (row_items s)
leaves_near dims limit m end t stands stands' = refl
leaves_near dims limit m (more (child b page below) rest) t stands stands' = absurd (omega (arith, stands.0))
leaves_near dims limit m (more (object kept id) rest) t stands stands' =
    let x : Item = record { bounds = bounds_of kept; reference = id; tag = tag_of kept } in
    ap (λ (l : List (ℕ × ℕ)). l ++ near_below dims limit rest t) (leaf_pairs dims limit m t x stands')
    ∙ ap (λ (l : List (ℕ × ℕ)). pairs_of dims limit (row_items t) x ++ l)
    (leaves_near dims limit m rest t stands.1 stands')

pub items_within : (dims : ℕ) (m : PageMap) (b : Bounds) (t : Row) → RowStands dims m 0 t
    → AllWithin dims b (objects_in t) → All (λ (item : Item). Within dims item.bounds b) (row_items t)
items_within dims m b end stands within = All-nil (λ (item : Item). Within dims item.bounds b)
items_within dims m b (more (child c page below) rest) stands within = absurd (omega (arith, stands.0))
items_within dims m b (more (object kept id) rest) stands within =
    All-cons (λ (item : Item). Within dims item.bounds b)
    (record { bounds = bounds_of kept; reference = id; tag = tag_of kept }) (row_items rest) within.0
    (items_within dims m b rest stands.1 within.1)
