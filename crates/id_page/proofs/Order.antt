-- Keys that ascend from one child to the next ascend all over.
use Rattle.std.proofs.Common.{◌≡◌, ℕ, zero, suc, ◌-◌, ◌<◌, ◌≤◌, List, length, get_or, ap, subst, sym, arith}
use Rattle.std.proofs.Common.{⊎_elim}
use Rattle.std.proofs.lemmas.Bool.{cases_eq}
use Rattle.std.proofs.lemmas.List.{get_or_default}
use Rattle.id_page.specs.Fork.{AreAscending, Link}
use Rattle.id_page.proofs.ForkReading.{some_link}

module _ (links : List Link)
    (step : (k : ℕ) → 2 ≤ k → k < length links → (get_or links (k - 1) some_link).0
    < (get_or links k some_link).0) where
  some_ascend : (i k : ℕ) → 1 ≤ i → i < k → k < length links
      → (get_or links i some_link).0 < (get_or links k some_link).0
  some_ascend i zero some less within = absurd (omega (arith, less))
  some_ascend i (suc k) some less within =
      let back : suc k - 1 ≡ k = omega arith in
      let last : (get_or links k some_link).0 < (get_or links (suc k) some_link).0 =
      subst (λ (j : ℕ). (get_or links j some_link).0 < (get_or links (suc k) some_link).0) back
      (step (suc k) (omega (arith, some, less)) within) in
      ⊎_elim
      (λ (here : i ≡ k). subst (λ (j : ℕ). (get_or links j some_link).0 < (get_or links (suc k) some_link).0)
      (sym here) last)
      (λ (other : ¬ (i ≡ k)). let before : i < k = grind (arith, other, less) in
      omega (arith, some_ascend i k some before (omega (arith, within)), last))
      (cases_eq i k)

  pub all_ascend : AreAscending links
  all_ascend i k other some less within =
      let at_i : get_or links i other ≡ get_or links i some_link =
      get_or_default links i other some_link (omega (arith, less, within)) in
      let at_k : get_or links k other ≡ get_or links k some_link =
      get_or_default links k other some_link within in
      let key_i : (get_or links i other).0 ≡ (get_or links i some_link).0 = ap (λ (x : Link). x.0) at_i in
      let key_k : (get_or links k other).0 ≡ (get_or links k some_link).0 = ap (λ (x : Link). x.0) at_k in
      omega (arith, some_ascend i k some less within, key_i, key_k)
