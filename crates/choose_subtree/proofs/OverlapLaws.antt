-- Sums of overlaps: how they grow with a box, and what a sum over the first entries says of the whole.
use Rattle.std.proofs.Common.{◌≡◌, ◌≢◌, ℕ, zero, suc, ◌+◌, ◌<◌, ◌≤◌, true, false, List, length, arith, subst}
use Rattle.std.proofs.Common.{ap, sym, ◌∙◌, eqb, add-one, inl, inr}
use Rattle.std.proofs.lemmas.Bool.{cases_eq}
use Rattle.std.proofs.lemmas.Bool.Decides.{nat_tests}
use Rattle.box_math.specs.Bounds.{Bounds, IsBox, Meets, Within, join_of}
use Rattle.box_math.specs.Measures.{sum_over, overlap_of}
use Rattle.box_math.proofs.BoxLaws.{Meets-sym, join_of-commutes, join_of-encloses, join_of-enclosing}
use Rattle.box_math.proofs.Growth.{sum_over-le, overlap_of-apart, overlap_of-grows}
use Rattle.tree_node.specs.Nodes.{Item}
use Rattle.tree_node.specs.Boxes.{box_at}
use Rattle.choose_subtree.specs.Choice.{overlap_with, overlap_at, overlap_growth}

-- the step of a sum of differences, of numbers f i that are no less than g i
sum_over-gain : (f g : ℕ → ℕ) (i s t : ℕ) → s + sum_over i g ≡ sum_over i f → t + g i ≡ f i
    → (s + t) + sum_over (i + 1) g ≡ sum_over (i + 1) f
sum_over-gain f g i s t e h = rw add-one (omega (arith, e, h))

-- a sum of differences is the difference of the sums at any later end
sum_over-gain_le : (f g : ℕ → ℕ) (i n s : ℕ) → i ≤ n → ((k : ℕ) → k < n → g k ≤ f k)
    → s + sum_over i g ≡ sum_over i f → s + sum_over n g ≤ sum_over n f
sum_over-gain_le f g i zero s h le e = let z : i ≡ 0 = omega arith in
    let u : s + sum_over 0 g ≡ sum_over 0 f = subst (λ k. s + sum_over k g ≡ sum_over k f) z e in
    omega (arith, u)
sum_over-gain_le f g i (suc n) s h le e =
    elim (cases_eq i (suc n)) [
      | inl z ↦ let u : s + sum_over (suc n) g ≡ sum_over (suc n) f =
          subst (λ k. s + sum_over k g ≡ sum_over k f) z e in omega (arith, u)
      | inr o ↦ omega
          (arith, le n (omega arith), sum_over-gain_le f g i n s (omega arith) (λ k l. le k (omega arith)) e)
    ]

-- a sum of differences stays over terms that are 0
sum_over-still : (f g : ℕ → ℕ) (i n s : ℕ) → i ≤ n → ((k : ℕ) → i ≤ k → k < n → (f k ≡ 0) × (g k ≡ 0))
    → s + sum_over i g ≡ sum_over i f → s + sum_over n g ≡ sum_over n f
sum_over-still f g i zero s up none e = let z : i ≡ 0 = omega arith in
    subst (λ k. s + sum_over k g ≡ sum_over k f) z e
sum_over-still f g i (suc n) s up none e =
    elim (cases_eq i (suc n)) [
      | inl z ↦ subst (λ k. s + sum_over k g ≡ sum_over k f) z e
      | inr o ↦ let last = none n (omega arith) (omega arith) in
          omega (
            arith,
            last.0,
            last.1,
            sum_over-still f g i n s (omega arith) (λ k u l. none k u (omega arith)) e,
          )
    ]

-- where no term falls, one of them grows by no more than the sum
sum_over-part : (f g : ℕ → ℕ) (i n : ℕ) → i < n → ((k : ℕ) → k < n → g k ≤ f k)
    → f i + sum_over n g ≤ g i + sum_over n f
sum_over-part f g i zero l le = absurd (omega arith)
sum_over-part f g i (suc n) l le =
    let before : (k : ℕ) → k < n → g k ≤ f k = λ k h. le k (omega arith) in
    elim (cases_eq i n) [
      | inl e ↦ let all = sum_over-le n g f before in
          subst (λ j. f j + sum_over (suc n) g ≤ g j + sum_over (suc n) f) (sym e) (omega (arith, all))
      | inr o ↦ omega (arith, le n (omega arith), sum_over-part f g i n (omega arith) before)
    ]

overlap_with-same : (dims : ℕ) (items : List Item) (k : ℕ) (b : Bounds) (i : ℕ) → i ≡ k
    → overlap_with dims items k b i ≡ 0
overlap_with-same dims items k b i e = let t : eqb i k ≡ true = grind (arith, nat_tests) in rw t

overlap_with-other : (dims : ℕ) (items : List Item) (k : ℕ) (b : Bounds) (i : ℕ) → i ≢ k
    → overlap_with dims items k b i ≡ overlap_of dims b (box_at items i)
overlap_with-other dims items k b i e = let t : eqb i k ≡ false = grind (arith, nat_tests) in rw t

-- no overlap of an entry falls when its box grows
overlap_with-grows : (dims : ℕ) (items : List Item) (k : ℕ) (a b : Bounds) (i : ℕ) → IsBox dims a
    → IsBox dims (box_at items i) → Within dims a b
    → overlap_with dims items k a i ≤ overlap_with dims items k b i
overlap_with-grows dims items k a b i p q w =
    elim (cases_eq i k) [
      | inl e ↦ rw (overlap_with-same dims items k a i e) (omega arith)
      | inr o ↦ rw (overlap_with-other dims items k a i o, overlap_with-other dims items k b i o)
          (overlap_of-grows dims a (box_at items i) b p q w)
    ]

-- over the first n entries the overlap of entry k grew by s
abbrev pub GrewBy : ℕ → List Item → Bounds → ℕ → ℕ → ℕ → Type 0
GrewBy dims items new k n s =
    s + sum_over n (overlap_with dims items k (box_at items k)) ≡ sum_over n
    (overlap_with dims items k (join_of dims (box_at items k) new))

-- the sums that are complete
pub overlap_growth-is : (dims : ℕ) (items : List Item) (new : Bounds) (k n s : ℕ) → n ≡ length items
    → GrewBy dims items new k n s → s ≡ overlap_growth dims items new k
unfolding overlap_at
overlap_growth-is dims items new k n s e h = let u : GrewBy dims items new k (length items) s =
    subst (λ m. GrewBy dims items new k m s) e h in omega (arith, u)

-- a sum over the first entries is no greater than the whole
pub overlap_growth-le : (dims : ℕ) (items : List Item) (new : Bounds) (k n s : ℕ) → n ≤ length items
    → ((i : ℕ) → i < length items → IsBox dims (box_at items i)) → k < length items
    → GrewBy dims items new k n s → s ≤ overlap_growth dims items new k
unfolding overlap_at
overlap_growth-le dims items new k n s le boxes within h =
    let f = overlap_with dims items k (join_of dims (box_at items k) new) in
    let g = overlap_with dims items k (box_at items k) in
    let u : s + sum_over (length items) g ≤ sum_over (length items) f =
    sum_over-gain_le f g n (length items) s le
    (λ i l. overlap_with-grows dims items k _ _ i (boxes k within) (boxes i l)
    (join_of-encloses dims (box_at items k) new).0) h in
    omega (arith, u)

-- one other entry's part is no greater than the whole
pub overlap_growth-part : (dims : ℕ) (items : List Item) (new : Bounds) (k i t : ℕ)
    (before after third : Bounds) → before ≡ box_at items k → after ≡ join_of dims before new
    → third ≡ box_at items i → i ≢ k → i < length items
    → ((j : ℕ) → j < length items → IsBox dims (box_at items j)) → k < length items
    → t + overlap_of dims before third ≡ overlap_of dims after third → t ≤ overlap_growth dims items new k
unfolding overlap_at
overlap_growth-part dims items new k i t before after third eb ea et ne within boxes at v =
    let joined = join_of dims (box_at items k) new in
    let f = overlap_with dims items k joined in
    let g = overlap_with dims items k (box_at items k) in
    let part =
    sum_over-part f g i (length items) within
    (λ j l. overlap_with-grows dims items k _ _ j (boxes k at) (boxes j l)
    (join_of-encloses dims (box_at items k) new).0) in
    let one : t + g i ≡ f i =
    rw (
      overlap_with-other dims items k (box_at items k) i ne,
      overlap_with-other dims items k joined i ne,
      ← eb,
      ← et,
      ← ea,
    ) v in
    omega (arith, part, one)

-- one more entry that is not k
pub overlap_more : (dims : ℕ) (items : List Item) (new : Bounds) (k i s t : ℕ) (before after third : Bounds)
    → before ≡ box_at items k → after ≡ join_of dims before new → third ≡ box_at items i → i ≢ k
    → GrewBy dims items new k i s
    → t + overlap_of dims before third ≡ overlap_of dims after third → GrewBy dims items new k (i + 1) (s + t)
overlap_more dims items new k i s t before after third eb ea et ne h v =
    sum_over-gain (overlap_with dims items k (join_of dims (box_at items k) new))
    (overlap_with dims items k (box_at items k)) i s t h
    (rw (
      overlap_with-other dims items k (box_at items k) i ne,
      overlap_with-other dims items k (join_of dims (box_at items k) new) i ne,
      ← eb,
      ← et,
      ← ea,
    ) v)

-- one more entry that is k
pub overlap_more-same : (dims : ℕ) (items : List Item) (new : Bounds) (k i s : ℕ) → i ≡ k
    → GrewBy dims items new k i s → GrewBy dims items new k (i + 1) s
overlap_more-same dims items new k i s z h =
    let a = overlap_with-same dims items k (box_at items k) i z in
    let b = overlap_with-same dims items k (join_of dims (box_at items k) new) i z in
    rw add-one (omega (arith, a, b, h))

-- entries that do not meet the greater box have nothing in common with either
pub overlap_passes : (dims : ℕ) (items : List Item) (new : Bounds) (k n next s : ℕ) (before after : Bounds)
    → before ≡ box_at items k → after ≡ join_of dims before new → IsBox dims before
    → ((j : ℕ) → j < length items → IsBox dims (box_at items j)) → n ≤ next → next ≤ length items
    → ((j : ℕ) → n ≤ j → j < next → Meets dims (box_at items j) after → ⊥)
    → GrewBy dims items new k n s → GrewBy dims items new k next s
overlap_passes dims items new k n next s before after eb ea box boxes up within apart h =
    let old = box_at items k in let joined = join_of dims old new in
    let same : after ≡ joined = ea ∙ ap (λ b. join_of dims b new) eb in
    let old_box : IsBox dims old = subst (IsBox dims) eb box in
    sum_over-still (overlap_with dims items k joined) (overlap_with dims items k old) n next s up
    (λ j from below. elim (cases_eq j k) [
      | inl e ↦ (overlap_with-same dims items k joined j e, overlap_with-same dims items k old j e)
      | inr o ↦
          let none : overlap_of dims joined (box_at items j) ≡ 0 =
          overlap_of-apart dims joined (box_at items j)
          (λ m. apart j from below
          (subst (λ b. Meets dims (box_at items j) b) (sym same) (Meets-sym dims joined (box_at items j) m))) in
          let less =
          overlap_of-grows dims old (box_at items j) joined old_box (boxes j (omega (arith, below, within)))
          (join_of-encloses dims old new).0 in (
            overlap_with-other dims items k joined j o ∙ none,
            omega (arith, overlap_with-other dims items k old j o, less, none),
          )
    ]) h

-- a box that holds the new one already does not grow, and neither does what it overlaps
pub overlap_growth-none : (dims : ℕ) (items : List Item) (new : Bounds) (k : ℕ) (before : Bounds)
    → before ≡ box_at items k → IsBox dims before → Within dims new before
    → 0 ≡ overlap_growth dims items new k
overlap_growth-none dims items new k before is box within =
    let stays : join_of dims (box_at items k) new ≡ box_at items k =
    subst (λ b. join_of dims b new ≡ b) is
    (join_of-commutes dims before new ∙ join_of-enclosing dims new before box within) in
    rw stays (omega arith)
