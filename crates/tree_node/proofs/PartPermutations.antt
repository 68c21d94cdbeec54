-- Two parts of the positions of a list: what is picked at them is together the list in another order.
use Rattle.std.proofs.Common.{◌≡◌, ◌∙◌, ℕ, zero, suc, ◌+◌, ◌<◌, true, eqb, List, [], ◌∷◌, ◌++◌, length, refl}
use Rattle.std.proofs.Common.{sym, subst, arith}
use Rattle.std.specs.Prelude.{IsPermutation}
use Rattle.std.specs.List.{range_with_len}
use Rattle.std.proofs.lemmas.Bool.Decides.{nat_tests}
use Rattle.std.proofs.lemmas.List.FromFn.{length-range_with_len, get_or-range_with_len}
use Rattle.std.proofs.lemmas.List.Sorted.{All-permutation, IsPermutation-refl}
use Rattle.box_math.specs.Measures.{sum_over}
use Rattle.tree_node.specs.Positions.{AreParts, pick, total}
use Rattle.tree_node.proofs.ObjectLemmas.{permutation_of_sums}
use Rattle.tree_node.proofs.PickLemmas.{pick-append, pick-permutation}
use Rattle.tree_node.proofs.PositionLemmas.{total-append}

total-range_from : (f : ℕ → ℕ) (a n : ℕ) → total f (range_with_len a n) + sum_over a f ≡ sum_over (a + n) f
total-range_from f a zero = let e : a + 0 ≡ a = omega arith in rw e (omega arith)
total-range_from f a (suc n) =
    let e : a + suc n ≡ suc a + n = omega arith in
    let b : a + 1 ≡ suc a = omega arith in
    let h : total f (range_with_len (a + 1) n) + sum_over (suc a) f ≡ sum_over (suc a + n) f =
    rw b (total-range_from f (suc a) n) in
    rw e (omega (arith, h))

-- the sum over the first positions
pub total-range : (f : ℕ → ℕ) (n : ℕ) → total f (range_with_len 0 n) ≡ sum_over n f
total-range f n = let e : 0 + n ≡ n = omega arith in
    let h : total f (range_with_len 0 n) + 0 ≡ sum_over n f = rw e at (total-range_from f 0 n) in
    omega (arith, h)

eqb-tells : (x y : ℕ) → eqb x y ≡ true → x ≡ y
eqb-tells x y e = grind (arith, nat_tests)

eqb-itself : (x : ℕ) → eqb x x ≡ true
eqb-itself x = grind (arith, nat_tests)

parts_permute : (a b : List ℕ) (n : ℕ) → AreParts a b n → IsPermutation (range_with_len 0 n) (a ++ b)
parts_permute a b n parts =
    permutation_of_sums eqb eqb-tells eqb-itself (range_with_len 0 n) (a ++ b)
    (λ f. total-range f n ∙ sym (parts f) ∙ sym (total-append f a b))

pick-none : {A : Type 0} (places : List ℕ) → pick {A = A} [] places ≡ []
pick-none [] = refl
pick-none (zero ∷ places) = pick-none places
pick-none (suc at ∷ places) = pick-none places

-- each element is once in what is picked at the two parts
pub parts_are_whole : {A : Type 0} (xs : List A) (a b : List ℕ) → AreParts a b (length xs)
    → IsPermutation xs (pick xs a ++ pick xs b)
parts_are_whole {A} [] a b parts =
    subst (IsPermutation []) (pick-append [] a b)
    (subst (IsPermutation []) (sym (pick-none (a ++ b))) (IsPermutation-refl []))
parts_are_whole (x ∷ xs) a b parts =
    let n = length (x ∷ xs) in
    let all = parts_permute a b n parts in
    let below =
    All-permutation (λ p. p < n) _ _ all
    (λ k d l. let h : k < n = omega (arith, length-range_with_len 0 n) in
    omega (arith, get_or-range_with_len 0 n k d h)) in
    subst (IsPermutation (x ∷ xs)) (pick-append (x ∷ xs) a b) (pick-permutation (x ∷ xs) x (a ++ b) below all)
