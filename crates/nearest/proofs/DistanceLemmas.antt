-- The squared distances of boxes from a point, summed up over the axes in 64 bits.
use Rattle.std.proofs.Common.{◌≡◌, ◌∙◌, ℕ, suc, ◌+◌, ◌*◌, ◌%◌, ◌^◌, ◌<◌, ◌≤◌, ◌-ℤ◌, ℤ, List, length, get_or}
use Rattle.std.proofs.Common.{set, max, refl, ap, subst, ⊎_elim, arith, unsigned_abs, length-set}
use Rattle.std.proofs.lemmas.Bool.{cases_lt}
use Rattle.std.proofs.lemmas.List.{get_or-set_other, get_or-set_same}
use Rattle.std.proofs.lemmas.Nat.{mul-le}
use Rattle.box_math.specs.Bounds.{Bounds, on_axis}
use Rattle.box_math.specs.Measures.{nearest_on, square_of, sum_over}
use Rattle.tree_node.specs.Boxes.{no_item}
use Rattle.tree_node.specs.Nodes.{Item}
use Rattle.nearest.specs.Candidates.{AreDistances}

-- how far the box is on an axis
abbrev pub gap_on : Bounds → List ℤ → ℕ → ℕ
gap_on b p axis = unsigned_abs (on_axis p axis -ℤ nearest_on b p axis)

-- the squares of the first axes are summed up
pub record Measured (b : Bounds) (p : List ℤ) (axis square widest : ℕ) : Type 0 where
  pub exact : widest < 2 ^ 31 → square ≡ sum_over axis (λ k. square_of (gap_on b p k))
  pub bound : widest < 2 ^ 31 → square ≤ axis * 2 ^ 62

pub none_measured : (b : Bounds) (p : List ℤ) → Measured b p 0 0 0
none_measured b p = record { exact = λ h. refl; bound = λ h. omega arith }

square_bound : (gap : ℕ) → gap < 2 ^ 31 → gap * gap ≤ 2 ^ 62
square_bound gap h =
    let most = mul-le gap gap (2 ^ 31) (2 ^ 31) (omega (arith, h)) (omega (arith, h)) in omega (arith, most)

pub one_measured : (b : Bounds) (p : List ℤ) (axis square widest gap next wide : ℕ)
    → Measured b p axis square widest → axis < 3 → gap ≡ gap_on b p axis → wide ≡ max widest gap
    → next ≡ (square + gap * gap) % 2 ^ 64 → Measured b p (axis + 1) next wide
one_measured b p axis square widest gap next wide so_far few is widens summed =
    let fits : wide < 2 ^ 31 → next ≡ square + gap * gap = λ h.
    let bound = so_far.bound (omega (arith, h, widens)) in
    let more = square_bound gap (omega (arith, h, widens)) in
    omega (arith, summed, bound, more, few) in
    record {
      exact = λ h.
          let same : suc axis ≡ axis + 1 = omega arith in
          subst (λ n. next ≡ sum_over n (λ k. square_of (gap_on b p k))) same
          (fits h
          ∙ ap (λ n. n + gap * gap) (so_far.exact (omega (arith, h, widens)))
          ∙ ap (λ n. sum_over axis (λ k. square_of (gap_on b p k)) + n * n) is);
      bound = λ h.
          let bound = so_far.bound (omega (arith, h, widens)) in
          let more = square_bound gap (omega (arith, h, widens)) in
          omega (arith, fits h, bound, more);
    }

-- ---- the boxes of a node

-- those in the first places are measured
pub record Measuring (far : Bounds → ℕ) (items : List Item) (place : ℕ) (squares : List ℕ)
    (widest : ℕ) : Type 0 where
  pub long : length squares ≡ 100
  pub exact : widest < 2 ^ 31 → (k : ℕ) → k < place → get_or squares k 0 ≡ far (get_or items k no_item).bounds

pub none_measuring : (far : Bounds → ℕ) (items : List Item) (squares : List ℕ) → length squares ≡ 100
    → Measuring far items 0 squares 0
none_measuring far items squares long = record { long = long; exact = λ h k low. absurd (omega (arith, low)) }

pub one_more : (far : Bounds → ℕ) (items : List Item) (place : ℕ) (squares : List ℕ) (widest : ℕ)
    → Measuring far items place squares widest → place < 100 → (square gap wide : ℕ)
    → (gap < 2 ^ 31 → square ≡ far (get_or items place no_item).bounds) → wide ≡ max widest gap
    → Measuring far items (place + 1) (set squares place square) wide
one_more far items place squares widest so_far within square gap wide is widens = record {
  long = length-set squares place square ∙ so_far.long;
  exact = λ h k low. ⊎_elim
      (λ (less : k < place). get_or-set_other squares place k square 0
      (λ e. absurd (omega (arith, e, less))) ∙ so_far.exact (omega (arith, h, widens)) k less)
      (λ (last : place ≤ k). let here : place ≡ k = omega (arith, last, low) in
      subst (λ n. get_or (set squares place square) n 0 ≡ far (get_or items n no_item).bounds) here
      (get_or-set_same squares place square 0 (omega (arith, within, so_far.long))
      ∙ is (omega (arith, h, widens))))
      (cases_lt k place);
}

pub all_measured : (far : Bounds → ℕ) (items : List Item) (place : ℕ) (squares : List ℕ) (widest : ℕ)
    → Measuring far items place squares widest → length items ≤ place → length items ≤ 100
    → AreDistances far items squares widest
all_measured far items place squares widest so_far whole few = record {
  few = few;
  exact = λ h k within. so_far.exact h k (omega (arith, within, whole));
}
