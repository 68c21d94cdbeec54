-- What is read from a block in which a corner was written.
use Rattle.std.specs.Prelude.{◌≡◌, ℕ, zero, suc, true, Bool, refl, ◌+◌, ◌-◌, ◌*◌, ◌^◌, ◌<◌, ◌≤◌, ℤ, pos}
use Rattle.std.specs.Prelude.{FitsSigned, List, length, slice_index}
use Rattle.std.specs.Int.{w32}
use Rattle.std.proofs.Common.{sym, ◌∙◌, ap, subst, arith, below_more}
use Rattle.std.proofs.lemmas.Bool.Decides.{nat_tests}
use Rattle.std.proofs.Math.Nat.{mul-le-mul_left}
use Rattle.std.proofs.lemmas.Int.{ints}
use Rattle.std.proofs.lemmas.List.FromFn.{get_or-map-range_with_len, length-map-range_with_len, fill_by_all}
use Rattle.block_bytes.specs.Numbers.{number_at, signed_at, AreBytes}
use Rattle.block_bytes.specs.Laws.{number_at-fixes, number_at-lt, number_at-same, signed_at-fixes}
use Rattle.block_bytes.specs.Laws.{signed_at-same}
use Rattle.box_math.specs.Bounds.{all_over, on_axis, IsOrdered, IsBox}
use Rattle.box_bytes.specs.Corners.{corner_at, box_at, IsOfCorner, Keeps}

-- ---- places

-- no coordinate stands after the last
pub coordinate-le-last : (dims at stride axis : ℕ) → axis < dims
    → at + stride * axis ≤ at + stride * (dims - 1)
coordinate-le-last dims at stride axis lt = let le : stride * axis ≤ stride * (dims - 1) =
    mul-le-mul_left stride (omega arith) in omega arith

-- coordinates of different axes share no byte
pub coordinate-lt : (stride k axis : ℕ) → 4 ≤ stride → k < axis → stride * k + 4 ≤ stride * axis
coordinate-lt stride k axis wide lt =
    let le : stride * (k + 1) ≤ stride * axis = mul-le-mul_left stride (omega arith) in
    let more : stride * (k + 1) ≡ stride * k + stride = grind arith in
    omega arith

-- ---- a corner

pub length-corner_at : (dims : ℕ) (block : List ℕ) (at stride : ℕ)
    → length (corner_at dims block at stride) ≡ dims
unfolding corner_at
length-corner_at dims block at stride =
    length-map-range_with_len (λ axis. signed_at (at + stride * axis) block) 0 dims

pub on_axis-corner_at : (dims : ℕ) (block : List ℕ) (at stride axis : ℕ) → axis < dims
    → on_axis (corner_at dims block at stride) axis ≡ signed_at (at + stride * axis) block
unfolding corner_at
on_axis-corner_at dims block at stride axis lt =
    get_or-map-range_with_len (λ k. signed_at (at + stride * k) block) 0 dims axis axis (pos 0) lt
    (omega arith)

-- a point whose coordinates are those of the block
pub corner_is : (dims : ℕ) (block : List ℕ) (at stride : ℕ) (corner : List ℤ) → length corner ≡ dims
    → ((k : ℕ) → k < dims → on_axis corner k ≡ signed_at (at + stride * k) block)
    → corner ≡ corner_at dims block at stride
unfolding corner_at
corner_is dims block at stride corner size each =
    fill_by_all (λ k. signed_at (at + stride * k) block) corner dims (pos 0) size (λ k lt. each k lt)

-- a corner stays where its numbers do
pub corner_at-numbers : (dims : ℕ) (old new : List ℕ) (at stride : ℕ)
    → ((axis : ℕ) → axis < dims → number_at 4 (at + stride * axis) new ≡ number_at 4 (at + stride * axis) old)
    → corner_at dims new at stride ≡ corner_at dims old at stride
corner_at-numbers dims old new at stride same =
    corner_is dims old at stride (corner_at dims new at stride) (length-corner_at dims new at stride)
    (λ axis lt. on_axis-corner_at dims new at stride axis lt
    ∙ signed_at-same (at + stride * axis) new old (same axis lt))

pub corner_at-stays : (clear : ℕ → ℕ → Type 0) (old new : List ℕ) (dims at stride : ℕ) → Keeps clear old new
    → ((axis : ℕ) → axis < dims → clear 4 (at + stride * axis))
    → corner_at dims new at stride ≡ corner_at dims old at stride
corner_at-stays clear old new dims at stride keeps apart =
    corner_at-numbers dims old new at stride (λ axis lt. keeps 4 (at + stride * axis) (apart axis lt))

-- and where its bytes do
pub corner_at-same : (dims : ℕ) (a b : List ℕ) (at stride : ℕ)
    → ((k : ℕ) → IsOfCorner dims at stride k → number_at 1 k a ≡ number_at 1 k b)
    → corner_at dims a at stride ≡ corner_at dims b at stride
corner_at-same dims a b at stride same =
    corner_at-numbers dims b a at stride
    (λ axis lt. number_at-same 4 (at + stride * axis) a b (λ k le below. same k (axis, lt, le, below)))

-- two pages of bytes with the same corner have the same bytes there
pub corner_at-fixes : (dims at stride : ℕ) (a b : List ℕ) → AreBytes a → AreBytes b
    → corner_at dims a at stride ≡ corner_at dims b at stride → (k : ℕ) → IsOfCorner dims at stride k
    → number_at 1 k a ≡ number_at 1 k b
corner_at-fixes dims at stride a b ba bb e k of =
    let axis = of.0 in
    let signed : signed_at (at + stride * axis) a ≡ signed_at (at + stride * axis) b =
    sym (on_axis-corner_at dims a at stride axis of.1) ∙ ap (λ (p : List ℤ). on_axis p axis) e
    ∙ on_axis-corner_at dims b at stride axis of.1 in
    number_at-fixes 4 (at + stride * axis) a b ba bb (signed_at-fixes (at + stride * axis) a b ba bb signed)
    k of.2 of.3

signed_at-fits : (at : ℕ) (block : List ℕ) → ((k : ℕ) → slice_index block k < 256)
    → FitsSigned w32 (signed_at at block)
unfolding signed_at
signed_at-fits at block bytes = let small : number_at 4 at block < 256 ^ 4 = number_at-lt 4 at block bytes in
    omega (arith, ints)

pub box_at-is_box : (dims : ℕ) (block : List ℕ) (low high stride : ℕ) → ((k : ℕ) → slice_index block k < 256)
    → IsOrdered dims (corner_at dims block low stride) (corner_at dims block high stride)
    → IsBox dims (box_at dims block low high stride)
box_at-is_box dims block low high stride bytes ordered = record {
  lows = length-corner_at dims block low stride;
  highs = length-corner_at dims block high stride;
  spans = λ axis lt. record {
    low_fits =
        subst (FitsSigned w32) (sym (on_axis-corner_at dims block low stride axis lt))
        (signed_at-fits (low + stride * axis) block bytes);
    high_fits =
        subst (FitsSigned w32) (sym (on_axis-corner_at dims block high stride axis lt))
        (signed_at-fits (high + stride * axis) block bytes);
    ordered = ordered axis lt;
  };
}

-- ---- a test of each place below a count

pub all_over-each : (n : ℕ) (t : ℕ → Bool) → all_over n t ≡ true → (k : ℕ) → k < n → t k ≡ true
all_over-each zero t h = λ k lt. absurd (omega arith)
all_over-each (suc n) t h =
    let both : (all_over n t ≡ true) × (t n ≡ true) = grind (arith, nat_tests) in
    λ k lt. below_more (λ j. t j ≡ true) n (all_over-each n t both.0) both.1 k (omega arith)

pub all_over-from : (n : ℕ) (t : ℕ → Bool) → ((k : ℕ) → k < n → t k ≡ true) → all_over n t ≡ true
all_over-from zero t each = refl
all_over-from (suc n) t each =
    let before : all_over n t ≡ true = all_over-from n t (λ k lt. each k (omega arith)) in
    let last : t n ≡ true = each n (omega arith) in
    grind (arith, nat_tests)

-- what the laws of corners in a block are proved by
pub ruleset laws = (length-corner_at, on_axis-corner_at, corner_at-same, corner_at-numbers)
