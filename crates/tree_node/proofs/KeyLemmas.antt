-- Keys, and the first position with the least.
use Rattle.std.proofs.Common.{◌≡◌, ℕ, ◌+◌, List, [], ◌∷◌, sym, arith, subst, inl, inr, below_more, length}
use Rattle.std.proofs.lemmas.Bool.{cases_lt}
use Rattle.tree_node.specs.Keys.{AtMost, IsFirstLeast}

pub AtMost-itself : (xs : List ℕ) → AtMost xs xs
AtMost-itself [] = tt
AtMost-itself (x ∷ xs) = (omega arith, λ _. AtMost-itself xs)

pub AtMost-trans : (xs ys zs : List ℕ) → AtMost xs ys → AtMost ys zs → AtMost xs zs
AtMost-trans [] ys zs p q = tt
AtMost-trans (x ∷ xs) [] zs p q = absurd p
AtMost-trans (x ∷ xs) (y ∷ ys) [] p q = absurd q
AtMost-trans (x ∷ xs) (y ∷ ys) (z ∷ zs) p q = (
  omega (arith, p.0, q.0),
  λ e. AtMost-trans xs ys zs (p.1 (omega (arith, p.0, q.0))) (q.1 (omega (arith, p.0, q.0))),
)

-- the first position alone
pub first_least_of_one : (key : ℕ → List ℕ) → IsFirstLeast 1 key 0
first_least_of_one key = record {
  within = omega arith;
  least = λ j h. let e : j ≡ 0 = omega arith in
      subst (λ k. AtMost (key 0) (key k)) (sym e) (AtMost-itself (key 0));
  first = λ j h. absurd (omega arith);
}

-- one more position, of a key that is fails less
pub first_least_keeps : (n : ℕ) (key : ℕ → List ℕ) (i : ℕ) → IsFirstLeast n key i → AtMost (key i) (key n)
    → IsFirstLeast (n + 1) key i
first_least_keeps n key i h m = record {
  within = omega (arith, h.within);
  least = below_more (λ j. AtMost (key i) (key j)) n h.least m;
  first = h.first;
}

-- one more position, of a lesser key
pub first_least_takes : (n : ℕ) (key : ℕ → List ℕ) (i : ℕ) → IsFirstLeast n key i → AtMost (key n) (key i)
    → (AtMost (key i) (key n) → ⊥) → IsFirstLeast (n + 1) key n
first_least_takes n key i h m less = record {
  within = omega arith;
  least = below_more (λ j. AtMost (key n) (key j)) n (λ j l. AtMost-trans _ _ _ m (h.least j l))
      (AtMost-itself (key n));
  first = λ j l e. less (subst (λ k. AtMost (key i) k) e (h.least j l));
}

-- of two keys of as many numbers one is at most the other
pub AtMost-other : (xs ys : List ℕ) → length xs ≡ length ys → (AtMost xs ys → ⊥) → AtMost ys xs
AtMost-other [] ys e fails = absurd (fails tt)
AtMost-other (x ∷ xs) [] e fails = absurd (omega arith)
AtMost-other (x ∷ xs) (y ∷ ys) e fails =
    elim (cases_lt x y) [
      | inl l ↦ absurd (fails (omega arith, λ s. absurd (omega arith)))
      | inr m ↦ (m, λ s. AtMost-other xs ys (omega arith) (λ h. fails (omega arith, λ _. h)))
    ]
