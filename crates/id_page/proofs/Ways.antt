-- The way to an identifier: the child before the first whose key is greater.
use Rattle.std.proofs.Common.{◌≡◌, ℕ, zero, suc, ◌+◌, ◌-◌, ◌<◌, ◌≤◌, ◌⊎◌, Bool, true, false, cond, nat_lt}
use Rattle.std.proofs.Common.{List, [], ◌∷◌, length, get_or, drop, Some, refl, sym, ◌∙◌, ap, subst, arith}
use Rattle.std.proofs.Common.{⊎_elim}
use Rattle.std.proofs.lemmas.Bool.{cases_eq}
use Rattle.std.proofs.lemmas.Bool.Decides.{nat_tests}
use Rattle.std.proofs.lemmas.List.{drop_more, drop_all}
use Rattle.id_page.specs.Fork.{AreAscending, Link, child_from, passed_from, route, route_place}
use Rattle.id_page.proofs.ForkReading.{some_link}

pub is_less : (a b : ℕ) → a < b → nat_lt a b ≡ true
is_less a b h = grind (arith, nat_tests)

pub is_from : (a b : ℕ) → b ≤ a → nat_lt a b ≡ false
is_from a b h = grind (arith, nat_tests)

-- the child in a place is the one so far, before those from the next place on
abbrev pub ComesTo : ℕ → List Link → ℕ → Type 0
ComesTo id links place = route id links ≡ Some
    (child_from id (get_or links (place - 1) some_link).1 (drop place links))

-- and its place is this far on
abbrev pub Counts : ℕ → List Link → ℕ → Type 0
Counts id links place = route_place id links + 1 ≡ place + passed_from id (drop place links)

pub counts_first : (id : ℕ) (links : List Link) → 1 ≤ length links → Counts id links 1
counts_first id [] some = absurd (omega (arith, some))
counts_first id (x ∷ xs) some = omega arith

pub counts_on : (id place : ℕ) (links : List Link) → place < length links
    → (get_or links place some_link).0 ≤ id → Counts id links place → Counts id links (place + 1)
counts_on id place links lt le so_far =
    let x = get_or links place some_link in
    let here : passed_from id (drop place links) ≡ 1 + passed_from id (drop (place + 1) links) =
    ap (passed_from id) (drop_more links place some_link lt)
    ∙ ap (λ (b : Bool). cond b 0 (1 + passed_from id (drop (place + 1) links))) (is_from id x.0 le) in
    omega (arith, so_far, here)

pub counts_to : (id place : ℕ) (links : List Link) → place < length links
    → id < (get_or links place some_link).0 → Counts id links place → place - 1 ≡ route_place id links
counts_to id place links lt less so_far =
    let x = get_or links place some_link in
    let here : passed_from id (drop place links) ≡ 0 =
    ap (passed_from id) (drop_more links place some_link lt)
    ∙ ap (λ (b : Bool). cond b 0 (1 + passed_from id (drop (place + 1) links))) (is_less id x.0 less) in
    omega (arith, so_far, here)

pub counts_last : (id place : ℕ) (links : List Link) → length links ≤ place → Counts id links place
    → place - 1 ≡ route_place id links
counts_last id place links all so_far =
    let here : passed_from id (drop place links) ≡ 0 = ap (passed_from id) (drop_all place links all) in
    omega (arith, so_far, here)

pub comes_first : (id : ℕ) (links : List Link) → 1 ≤ length links → ComesTo id links 1
comes_first id [] some = absurd (omega (arith, some))
comes_first id (x ∷ xs) some = refl

pub comes_on : (id place : ℕ) (links : List Link) → 1 ≤ place → place < length links
    → (get_or links place some_link).0 ≤ id → ComesTo id links place → ComesTo id links (place + 1)
comes_on id place links some lt le so_far =
    let x = get_or links place some_link in
    let p = (get_or links (place - 1) some_link).1 in
    let here : (place + 1) - 1 ≡ place = omega arith in
    so_far
    ∙ ap (λ (xs : List Link). Some (child_from id p xs)) (drop_more links place some_link lt)
    ∙ ap (λ (b : Bool). Some (cond b p (child_from id x.1 (drop (place + 1) links)))) (is_from id x.0 le)
    ∙ ap (λ (k : ℕ). Some (child_from id (get_or links k some_link).1 (drop (place + 1) links))) (sym here)

pub comes_to : (id place : ℕ) (links : List Link) → place < length links
    → id < (get_or links place some_link).0 → ComesTo id links place
    → route id links ≡ Some (get_or links (place - 1) some_link).1
comes_to id place links lt less so_far =
    let x = get_or links place some_link in
    let p = (get_or links (place - 1) some_link).1 in
    so_far
    ∙ ap (λ (xs : List Link). Some (child_from id p xs)) (drop_more links place some_link lt)
    ∙ ap (λ (b : Bool). Some (cond b p (child_from id x.1 (drop (place + 1) links)))) (is_less id x.0 less)

pub comes_last : (id place : ℕ) (links : List Link) → length links ≤ place → ComesTo id links place
    → route id links ≡ Some (get_or links (place - 1) some_link).1
comes_last id place links all so_far =
    so_far ∙ ap (λ (xs : List Link). Some (child_from id (get_or links (place - 1) some_link).1 xs))
    (drop_all place links all)

-- ---- a place found by halves

module _ (id : ℕ) (links : List Link) (ascending : AreAscending links) where
  -- no key up to one that is not greater is greater
  from_before : (place k : ℕ) → place < length links → (get_or links place some_link).0 ≤ id → 1 ≤ k
      → k ≤ place → (get_or links k some_link).0 ≤ id
  from_before place k within le some upto = ⊎_elim
      (λ (here : k ≡ place). subst (λ (i : ℕ). (get_or links i some_link).0 ≤ id) (sym here) le)
      (λ (other : ¬ (k ≡ place)). let less : k < place = grind (arith, other, upto) in
      omega (arith, ascending k place some_link some less within, le))
      (cases_eq k place)

  counts_upto : (place k : ℕ) → place < length links → (place ≡ 0) ⊎ ((get_or links place some_link).0 ≤ id)
      → k ≤ place → Counts id links (k + 1)
  counts_upto place zero within from upto = counts_first id links (omega (arith, within))
  counts_upto place (suc k) within from upto =
      let on : suc k ≡ k + 1 = omega arith in
      let le : (get_or links (suc k) some_link).0 ≤ id = ⊎_elim
      (λ (none : place ≡ 0). absurd (omega (arith, none, upto)))
      (λ (h : (get_or links place some_link).0 ≤ id). from_before place (suc k) within h (omega arith) upto)
      from in
      let so_far : Counts id links (suc k) = subst (Counts id links) (sym on)
      (counts_upto place k within from (omega (arith, upto))) in
      counts_on id (suc k) links (omega (arith, upto, within)) le so_far

  comes_upto : (place k : ℕ) → place < length links → (place ≡ 0) ⊎ ((get_or links place some_link).0 ≤ id)
      → k ≤ place → ComesTo id links (k + 1)
  comes_upto place zero within from upto = comes_first id links (omega (arith, within))
  comes_upto place (suc k) within from upto =
      let on : suc k ≡ k + 1 = omega arith in
      let le : (get_or links (suc k) some_link).0 ≤ id = ⊎_elim
      (λ (none : place ≡ 0). absurd (omega (arith, none, upto)))
      (λ (h : (get_or links place some_link).0 ≤ id). from_before place (suc k) within h (omega arith) upto)
      from in
      let so_far : ComesTo id links (suc k) = subst (ComesTo id links) (sym on)
      (comes_upto place k within from (omega (arith, upto))) in
      comes_on id (suc k) links (omega arith) (omega (arith, upto, within)) le so_far

  pub place_found : (place : ℕ) → place < length links → (place ≡ 0) ⊎ ((get_or links place some_link).0 ≤ id)
      → (place + 1 ≡ length links)
      ⊎ ((place + 1 < length links) × (id < (get_or links (place + 1) some_link).0))
      → place ≡ route_place id links
  place_found place within from upto =
      let there = counts_upto place place within from (omega arith) in
      let back : place ≡ place + 1 - 1 = omega arith in
      back ∙ ⊎_elim
      (λ (last : place + 1 ≡ length links). counts_last id (place + 1) links (omega (arith, last)) there)
      (λ (h : (place + 1 < length links) × (id < (get_or links (place + 1) some_link).0)). counts_to id
      (place + 1) links h.0 h.1 there)
      upto

  pub child_found : (place : ℕ) → place < length links → (place ≡ 0) ⊎ ((get_or links place some_link).0 ≤ id)
      → (place + 1 ≡ length links)
      ⊎ ((place + 1 < length links) × (id < (get_or links (place + 1) some_link).0))
      → route id links ≡ Some (get_or links place some_link).1
  child_found place within from upto =
      let there = comes_upto place place within from (omega arith) in
      let back : place + 1 - 1 ≡ place = omega arith in
      ⊎_elim
      (λ (last : place + 1 ≡ length links). comes_last id (place + 1) links (omega (arith, last)) there)
      (λ (h : (place + 1 < length links) × (id < (get_or links (place + 1) some_link).0)). comes_to id
      (place + 1) links h.0 h.1 there)
      upto
      ∙ ap (λ (k : ℕ). Some (get_or links k some_link).1) back
