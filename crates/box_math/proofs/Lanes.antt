-- Eight intervals compared with one at once, lane by lane.
use Rattle.std.proofs.Common.{ℕ, ◌+◌, ◌%◌, ◌^◌, ◌<◌, ◌≤◌, ◌≡◌, ℤ, Bool, true, false, ◌&&◌, cond, int_le, List}
use Rattle.std.proofs.Common.{[], ◌∷◌, map, FitsSigned, w32, of_z, refl, ap, ap₂, ◌∙◌, arith}
use Rattle.std.proofs.lemmas.Int.{to_z-of_z}
use Rattle.std.proofs.lemmas.Simd.{mask_l-mod}
use Rattle.std.specs.List.{range_with_len}
use Rattle.std.specs.Prelude.{replicate}
use Rattle.box_math.specs.Masks.{mask_from}
use lib.Lanes.{top, mask_l, zip2}
use borrow.Rule.Simd.Lanes.{act2}
use borrow.Table.Row.{s_int}
use mir.Syntax.{mask, le, signed, bit_and}

-- whether a number is at most another, in each lane
abbrev ascend : ℕ → ℕ → ℕ
ascend = act2 (mask (le signed)) (s_int w32) (s_int w32) (s_int w32)

-- both, in each lane
abbrev both : ℕ → ℕ → ℕ
both = act2 bit_and (s_int w32) (s_int w32) (s_int w32)

bits_of : (a b : Bool) → top 31 (both (cond a 4294967295 0) (cond b 4294967295 0)) ≡ (a && b)
bits_of true true = refl
bits_of true false = refl
bits_of false true = refl
bits_of false false = refl

ascends : (a b : ℤ) → FitsSigned w32 a → FitsSigned w32 b
    → ascend (of_z w32 a) (of_z w32 b) ≡ cond (int_le a b) 4294967295 0
ascends a b f g = ap₂ (λ x y. cond (int_le x y) 4294967295 0) (to_z-of_z w32 a f) (to_z-of_z w32 b g)

module _ (lows highs : ℕ → ℤ) (at : ℕ) (first last : ℤ) (f : FitsSigned w32 first) (l : FitsSigned w32 last)
    (low_fits : (k : ℕ) → at ≤ k → k < at + 8 → FitsSigned w32 (lows k))
    (high_fits : (k : ℕ) → at ≤ k → k < at + 8 → FitsSigned w32 (highs k)) where
  abbrev meets : ℕ → Bool
  meets k = int_le (lows k) last && int_le first (highs k)

  lane : (k : ℕ) → at ≤ k → k < at + 8
      → top 31
      (both (ascend (of_z w32 (lows k)) (of_z w32 last)) (ascend (of_z w32 first) (of_z w32 (highs k))))
      ≡ meets k
  lane k from to =
      ap₂ (λ x y. top 31 (both x y)) (ascends _ _ (low_fits k from to) l)
      (ascends _ _ f (high_fits k from to)) ∙ bits_of _ _

  lanes_meet : map (top 31)
      (zip2 both
      (zip2 ascend (map (of_z w32) (map lows (range_with_len at 8))) (replicate 8 (of_z w32 last)))
      (zip2 ascend (replicate 8 (of_z w32 first)) (map (of_z w32) (map highs (range_with_len at 8)))))
      ≡ map meets (range_with_len at 8)
  lanes_meet =
      λ i. lane at (omega arith) (omega arith) i ∷ lane (at + 1) (omega arith) (omega arith) i ∷ lane
      (at + 1 + 1) (omega arith) (omega arith) i ∷ lane (at + 1 + 1 + 1) (omega arith) (omega arith) i ∷ lane
      (at + 1 + 1 + 1 + 1) (omega arith) (omega arith) i ∷ lane (at + 1 + 1 + 1 + 1 + 1) (omega arith)
      (omega arith) i ∷ lane (at + 1 + 1 + 1 + 1 + 1 + 1) (omega arith) (omega arith) i ∷ lane
      (at + 1 + 1 + 1 + 1 + 1 + 1 + 1) (omega arith) (omega arith) i ∷ []

  -- the mask of the eight intervals
  pub block : (begins ends : List ℤ) → begins ≡ map lows (range_with_len at 8)
      → ends ≡ map highs (range_with_len at 8)
      → mask_l
      (map (top 31)
      (zip2 both (zip2 ascend (map (of_z w32) begins) (replicate 8 (of_z w32 last)))
      (zip2 ascend (replicate 8 (of_z w32 first)) (map (of_z w32) ends)))) % 2 ^ 64
      ≡ mask_from meets at 8
  unfolding mask_from
  block begins ends b e =
      ap₂ (λ xs ys. mask_l
      (map (top 31)
      (zip2 both (zip2 ascend (map (of_z w32) xs) (replicate 8 (of_z w32 last)))
      (zip2 ascend (replicate 8 (of_z w32 first)) (map (of_z w32) ys)))) % 2 ^ 64) b e
      ∙ ap (λ ms. mask_l ms % 2 ^ 64) lanes_meet
      ∙ mask_l-mod (map meets (range_with_len at 8)) 64 (omega arith)
