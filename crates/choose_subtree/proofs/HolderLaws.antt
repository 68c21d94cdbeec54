-- An entry with an area grows where it does not hold the new box already; and the child that is chosen where
-- some does.
use Rattle.std.proofs.Common.{List, ◌≡◌, ◌≢◌, ℕ, zero, suc, ◌*◌, ◌<◌, ◌≤◌, ◌∷◌, [], ℤ, ◌-ℤ◌, ◌<ℤ◌, ◌≤ℤ◌}
use Rattle.std.proofs.Common.{length, unsigned_abs, arith, below_more, sym, refl, ◌∙◌, inl, inr}
use Rattle.std.proofs.lemmas.Bool.{cases_Bool, cases_eq}
use Rattle.std.proofs.lemmas.Int.{ints}
use Rattle.std.proofs.lemmas.Nat.{mul-le}
use Rattle.std.proofs.Math.Nat.{le-mul_of_pos_right, mul-le-mul_left, mul-le-mul_right, le_of_mul-le-mul_left}
use Rattle.std.proofs.Math.Nat.{le_of_mul-le-mul_right}
use Rattle.box_math.specs.Bounds.{Bounds, IsBox, Within, join_of, on_axis, within_test}
use Rattle.box_math.specs.Measures.{product_over, side_of, volume_of}
use Rattle.box_math.proofs.TestLaws.{within_test_true}
use Rattle.box_math.proofs.BoxLaws.{join_of-encloses, join_of-commutes, join_of-enclosing}
use Rattle.box_math.proofs.Growth.{volume_of-grows}
use Rattle.tree_node.specs.Nodes.{Item}
use Rattle.tree_node.specs.Boxes.{box_at}
use Rattle.tree_node.specs.Keys.{AtMost, IsFirstLeast}
use Rattle.choose_subtree.specs.Choice.{IsChosenChild, area_key, growth_of, overlap_growth}
use Rattle.choose_subtree.proofs.ChoiceLaws.{chosen_above, chosen_first, first_least-of_placed_area}
use Rattle.choose_subtree.proofs.ChoiceLaws.{first_least-of_zero}
use Rattle.choose_subtree.proofs.OverlapLaws.{overlap_growth-none}

-- a product of factors that are no less, but is not greater and not 0, has the same factors
factors_same : (a b c d : ℕ) → a ≤ c → b ≤ d → 0 < a * b → c * d ≤ a * b → (c ≤ a) × (d ≤ b) × (0 < a)
factors_same zero b c d p q r s = absurd (omega (arith, r))
factors_same (suc a) zero c d p q r s = absurd (omega (arith, r))
factors_same (suc a) (suc b) c d p q r s =
    let left = mul-le-mul_left {m = suc b} {n = d} (suc a) q in
    let right = mul-le-mul_right {m = suc a} {n = c} (suc b) p in (
      le_of_mul-le-mul_right {m = c} {n = suc a} {k = d} (omega (arith, s, left)) (omega arith),
      le_of_mul-le-mul_left {m = d} {n = suc b} {k = c} (omega (arith, s, right)) (omega arith),
      omega arith,
    )

-- no product falls where its factors grow, and one that is not 0 stays only with all of them
product_over-stays : (n : ℕ) (f g : ℕ → ℕ) → ((k : ℕ) → k < n → f k ≤ g k)
    → (product_over n f ≤ product_over n g)
    × (0 < product_over n f → product_over n g ≤ product_over n f → (k : ℕ) → k < n → g k ≤ f k)
product_over-stays zero f g le = (omega arith, λ _ _ k h. absurd (omega arith))
product_over-stays (suc n) f g le =
    let before = product_over-stays n f g (λ k h. le k (omega arith)) in
    let last = le n (omega arith) in (
      mul-le _ _ _ _ before.0 last,
      λ some same.
          let each = factors_same (product_over n f) (f n) (product_over n g) (g n) before.0 last some same in
          λ k h. below_more (λ j. g j ≤ f j) n (before.1 each.2 each.0) each.1 k (omega arith),
    )

-- a side of a box that encloses another is as long only where it is the same
side_same : (a b c d : ℤ) → a ≤ℤ b → c ≤ℤ a → b ≤ℤ d → unsigned_abs (d -ℤ c) ≤ unsigned_abs (b -ℤ a)
    → (a ≤ℤ c) × (d ≤ℤ b)
side_same a b c d p q r s = (omega (arith, ints, s), omega (arith, ints, s))

-- a box with a volume has a lesser one than each other box that encloses it
enclosing_stays : (dims : ℕ) (a b : Bounds) → IsBox dims a → Within dims a b → 0 < volume_of dims a
    → volume_of dims b ≤ volume_of dims a → Within dims b a
enclosing_stays dims a b box inside some same =
    λ axis h.
    let w = inside axis h in
    let p = product_over-stays dims (side_of a) (side_of b)
    (λ k l. let v = inside k l in let s = (box.spans k l).ordered in omega (arith, ints, v.0, v.1, s)) in
    side_same _ _ _ _ (box.spans axis h).ordered w.0 w.1 (p.1 some same axis h)

-- an entry with an area that does not hold the new box grows
pub grows_or_holds : (dims : ℕ) (a new : Bounds) → IsBox dims a → (volume_of dims a ≢ 0)
    → (Within dims new a → ⊥) → 0 < growth_of dims a new
grows_or_holds dims a new box some out =
    let joined = join_of-encloses dims a new in
    let grown : (volume_of dims (join_of dims a new) ≤ volume_of dims a)
    → ⊥ = λ same. out
    (λ axis h. let back =
    enclosing_stays dims a (join_of dims a new) box joined.0 (omega (arith, some)) same axis h in
    let w = joined.1 axis h in (omega (arith, ints, back.0, w.0), omega (arith, ints, back.1, w.1))) in
    omega (arith, grown)

-- one that holds it does not
pub holder_stays : (dims : ℕ) (a new : Bounds) → IsBox dims a → Within dims new a → growth_of dims a new ≡ 0
holder_stays dims a new box inside =
    let stays : join_of dims a new ≡ a = join_of-commutes dims a new
    ∙ join_of-enclosing dims new a box inside in
    rw stays (omega arith)

-- and where the new box has a volume, any does that does not hold it
pub grows_round_volume : (dims : ℕ) (a new : Bounds) → IsBox dims a → IsBox dims new
    → (volume_of dims new ≢ 0) → (Within dims new a → ⊥) → 0 < growth_of dims a new
grows_round_volume dims a new box new_box some out =
    elim (cases_eq (volume_of dims a) 0) [
      | inl flat ↦
          let more =
          volume_of-grows dims new (join_of dims a new) new_box (join_of-encloses dims a new).1 in
          omega (arith, flat, more, some)
      | inr wide ↦ grows_or_holds dims a new box wide out
    ]

-- ---- the child that is chosen

-- a box whose lows are below its highs has a volume
pub wide_has_volume : (dims : ℕ) (b : Bounds)
    → ((axis : ℕ) → axis < dims → on_axis b.low axis <ℤ on_axis b.high axis) → volume_of dims b ≢ 0
wide_has_volume dims b wide =
    λ none. absurd
    (omega (arith, none, positive dims (side_of b) (λ axis h. let w = wide axis h in omega (arith, ints, w))))
  where
    positive : (n : ℕ) (f : ℕ → ℕ) → ((k : ℕ) → k < n → 0 < f k) → 0 < product_over n f
    positive zero f each = omega arith
    positive (suc n) f each =
        omega (
          arith,
          le-mul_of_pos_right {m = f n} (product_over n f) (each n (omega arith)),
          positive n f (λ k h. each k (omega arith)),
        )

-- Where each box that does not hold the new one grows, the first least of those that hold it is chosen: it
-- does not grow, nor does what it overlaps.
pub holder_is_chosen : (dims level : ℕ) (items : List Item) (new : Bounds) (at : ℕ) → at < length items
    → ((j : ℕ) → j < length items → IsBox dims (box_at items j))
    → ((j : ℕ) → j < length items → (Within dims new (box_at items j) → ⊥)
    → 0 < growth_of dims (box_at items j) new) → Within dims new (box_at items at)
    → ((j : ℕ) → j < length items → Within dims new (box_at items j)
    → AtMost (volume_of dims (box_at items at) ∷ at ∷ []) (volume_of dims (box_at items j) ∷ j ∷ []))
    → IsChosenChild dims level items new at
holder_is_chosen dims level items new at within boxes grow holds least =
    let stays = holder_stays dims (box_at items at) new (boxes at within) holds in
    let by_area : IsFirstLeast (length items) (area_key dims items new) at =
    first_least-of_placed_area (λ k. growth_of dims (box_at items k) new)
    (λ k. volume_of dims (box_at items k)) (length items) at within
    (λ j l. (
      omega arith,
      λ _. elim (cases_Bool (within_test dims new (box_at items j))) [
        | inl held ↦
            let inside = (within_test_true dims new (box_at items j)).0 held in
            let same = holder_stays dims (box_at items j) new (boxes j l) inside in
            (omega (arith, stays), λ _. least j l inside)
        | inr apart ↦
            let grows =
            grow j l
            (λ inside. let t = (within_test_true dims new (box_at items j)).1 inside in absurd (cc)) in
            (omega (arith, stays), λ same. absurd (omega (arith, same, stays, grows)))
      ],
    )) in
    elim (cases_eq level 1) [
      | inl is ↦ chosen_first dims items new level (length items) at is
          (first_least-of_zero (overlap_growth dims items new) (area_key dims items new) (length items) at
          by_area (sym
          (overlap_growth-none dims items new at (box_at items at) refl (boxes at within) holds)))
      | inr other ↦ chosen_above dims items new level (length items) at other by_area
    ]
