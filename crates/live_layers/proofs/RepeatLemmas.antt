-- The least number that stands twice in a list.
use Rattle.std.proofs.Common.{◌≡◌, ◌∙◌, ◌⊎◌, inl, inr, ⊎_elim, ℕ, zero, suc, ◌+◌, ◌-◌, ◌<◌, ◌≤◌, Bool, true}
use Rattle.std.proofs.Common.{false, cond, eqb, leb, List, [], ◌∷◌, length, get_or, set, Option, Some, None}
use Rattle.std.proofs.Common.{refl, sym, ap, subst, arith}
use Rattle.std.specs.Prelude.{IsPermutation, filter, min}
use Rattle.std.specs.List.{fold, reduce}
use Rattle.std.proofs.lemmas.Bool.Decides.{nat_tests}
use Rattle.std.proofs.lemmas.Bool.{cases_eq}
use Rattle.std.proofs.lemmas.Grind.{get_or-set_at}
use Rattle.std.proofs.lemmas.List.{get_or-set_other}
use Rattle.std.proofs.lemmas.List.Sorted.{sum_by-IsPermutation}
use Rattle.std.proofs.lemmas.List.Sums.{sum_by-cons}
use Rattle.plain_table.specs.Loads.{is_repeated, least_repeated}
use Rattle.live_layers.specs.Loading.{IsLeastTwice, times_in}

-- 1 for what is so
abbrev pub one_if : Bool → ℕ
one_if b = cond b 1 0

at_itself : (x : ℕ) → one_if (eqb x x) ≡ 1
at_itself x = grind (arith, nat_tests)

at_another : (x q : ℕ) → ¬ (x ≡ q) → one_if (eqb x q) ≡ 0
at_another x q other = grind (arith, nat_tests)

pub times_more : (q x : ℕ) (xs : List ℕ) → times_in q (x ∷ xs) ≡ one_if (eqb x q) + times_in q xs
times_more q x xs = sum_by-cons (λ other. one_if (eqb other q)) x xs

le_or_lt : (a b : ℕ) → (a ≤ b) ⊎ (b < a)
le_or_lt a b = case (leb a b) refl
  where
    case : (v : Bool) → leb a b ≡ v → (a ≤ b) ⊎ (b < a)
    case true e = inl (grind (arith, nat_tests))
    case false e = inr (grind (arith, nat_tests))

-- ---- the least of those that pass

-- the least of numbers among which it is
fold_is : (r a : ℕ) (xs : List ℕ) → r ≤ a → ((q : ℕ) → 0 < times_in q xs → r ≤ q)
    → (a ≡ r) ⊎ (0 < times_in r xs) → fold min a xs ≡ r
fold_is r a [] le least (inl e) = e
fold_is r a [] le least (inr some) = absurd (omega (arith, some))
fold_is r a (x ∷ xs) le least there =
    let below : r ≤ x = least x (omega (arith, times_more x x xs, at_itself x)) in
    fold_is r (min a x) xs (grind (arith, nat_tests))
    (λ q some. least q (omega (arith, times_more q x xs, some))) (⊎_elim
    (λ (e : a ≡ r). inl (grind (arith, nat_tests)))
    (λ (some : 0 < times_in r (x ∷ xs)). ⊎_elim
    (λ (e : x ≡ r). inl (grind (arith, nat_tests)))
    (λ (other : ¬ (x ≡ r)). inr (omega (arith, times_more r x xs, some, at_another x r other)))
    (cases_eq x r))
    there)

reduce_is : (r : ℕ) (xs : List ℕ) → 0 < times_in r xs → ((q : ℕ) → 0 < times_in q xs → r ≤ q)
    → reduce min xs ≡ Some r
reduce_is r [] some least = absurd (omega (arith, some))
reduce_is r (x ∷ xs) some least =
    ap (λ (n : ℕ). Some n)
    (fold_is r x xs (least x (omega (arith, times_more x x xs, at_itself x)))
    (λ q among. least q (omega (arith, times_more q x xs, among))) (⊎_elim
    (λ (e : x ≡ r). inl e)
    (λ (other : ¬ (x ≡ r)). inr (omega (arith, times_more r x xs, some, at_another x r other)))
    (cases_eq x r)))

not_none : (r : ℕ) (xs : List ℕ) → 0 < times_in r xs → reduce min xs ≡ None → ⊥
not_none r [] some none = absurd (omega (arith, some))
not_none r (x ∷ xs) some none = absurd (cc)

-- what passes a test stands among what passes as often as in the list
passing : (p : ℕ → Bool) (r : ℕ) (xs : List ℕ) → p r ≡ true → times_in r (filter p xs) ≡ times_in r xs
passing p r [] passes = refl
passing p r (x ∷ xs) passes = step (p x) refl (passing p r xs passes)
  where
    step : (b : Bool) → p x ≡ b → times_in r (filter p xs) ≡ times_in r xs
        → times_in r (cond b (x ∷ filter p xs) (filter p xs)) ≡ times_in r (x ∷ xs)
    step true e rest = omega (arith, times_more r x (filter p xs), times_more r x xs, rest)
    step false e rest =
        let other : ¬ (x ≡ r) = λ same. (let no : false ≡ true = sym e ∙ ap p same ∙ passes in absurd (cc)) in
        omega (arith, times_more r x xs, rest, at_another x r other)

passed : (p : ℕ → Bool) (q : ℕ) (xs : List ℕ) → 0 < times_in q (filter p xs) → p q ≡ true
passed p q [] some = absurd (omega (arith, some))
passed p q (x ∷ xs) some = step (p x) refl some (λ among. passed p q xs among)
  where
    step : (b : Bool) → p x ≡ b → 0 < times_in q (cond b (x ∷ filter p xs) (filter p xs))
        → (0 < times_in q (filter p xs) → p q ≡ true) → p q ≡ true
    step true e some rest = ⊎_elim
        (λ (same : x ≡ q). ap p (sym same) ∙ e)
        (λ (other : ¬ (x ≡ q)). rest
        (omega (arith, times_more q x (filter p xs), some, at_another x q other)))
        (cases_eq x q)
    step false e some rest = rest some

twice : (ids : List ℕ) (q : ℕ) → 1 < times_in q ids → is_repeated ids q ≡ true
twice ids q more = grind (arith, nat_tests)

is_twice : (ids : List ℕ) (q : ℕ) → is_repeated ids q ≡ true → 1 < times_in q ids
is_twice ids q e = grind (arith, nat_tests)

none_passes : (p : ℕ → Bool) (xs : List ℕ) → ((q : ℕ) → p q ≡ false) → filter p xs ≡ []
none_passes p [] none = refl
none_passes p (x ∷ xs) none = ap (λ (b : Bool). cond b (x ∷ filter p xs) (filter p xs)) (none x)
    ∙ none_passes p xs none

not_twice : (ids : List ℕ) (q : ℕ) → times_in q ids ≤ 1 → is_repeated ids q ≡ false
not_twice ids q few = grind (arith, nat_tests)

-- the least that stands twice is the one that is named
pub least_is : (ids : List ℕ) (o : Option ℕ) → IsLeastTwice ids o → o ≡ least_repeated ids
least_is ids None once =
    sym (ap (reduce min) (none_passes (is_repeated ids) ids (λ q. not_twice ids q (once q))))
least_is ids (Some r) least = sym (reduce_is r (filter (is_repeated ids) ids)
    (let more = passing (is_repeated ids) r ids (twice ids r least.0) in omega (arith, more, least.0))
    (λ q some. least.1 q (is_twice ids q (passed (is_repeated ids) q ids some))))

-- where none is named each stands once
pub each_once : (ids : List ℕ) → least_repeated ids ≡ None → (q : ℕ) → times_in q ids ≤ 1
each_once ids none q = ⊎_elim
    (λ (few : times_in q ids ≤ 1). few)
    (λ (more : 1 < times_in q ids). absurd
    (not_none q (filter (is_repeated ids) ids)
    (let many = passing (is_repeated ids) q ids (twice ids q more) in omega (arith, many, more)) none))
    (le_or_lt (times_in q ids) 1)

-- in another order it is the same
pub reordered : (ids sorted : List ℕ) (o : Option ℕ) → IsPermutation ids sorted → IsLeastTwice sorted o
    → IsLeastTwice ids o
reordered ids sorted None moved once =
    λ q. omega (arith, once q, sum_by-IsPermutation (λ x. one_if (eqb x q)) ids sorted moved)
reordered ids sorted (Some r) moved least = (
  omega (arith, least.0, sum_by-IsPermutation (λ x. one_if (eqb x r)) ids sorted moved),
  λ q more. least.1 q (omega (arith, more, sum_by-IsPermutation (λ x. one_if (eqb x q)) ids sorted moved)),
)

-- ---- marks

-- a mark for each of the first numbers, as far as it is from the least
abbrev pub Marked : List ℕ → ℕ → List Bool → ℕ → Type 0
Marked ids least marks place = (j : ℕ) → j < place → get_or marks (get_or ids j 0 - least) false ≡ true

-- no two of the first numbers are the same
abbrev pub Apart : List ℕ → ℕ → Type 0
Apart ids place = (i j : ℕ) → i < j → j < place → get_or ids i 0 ≡ get_or ids j 0 → ⊥

pub marked_more : (ids : List ℕ) (least : ℕ) (marks : List Bool) (place at : ℕ)
    → at ≡ get_or ids place 0 - least → at < length marks → Marked ids least marks place
    → Marked ids least (set marks at true) (place + 1)
marked_more ids least marks place at is within marked j below = ⊎_elim
    (λ (last : place ≤ j). let here : j ≡ place = omega (arith, last, below) in
    get_or-set_at marks at (get_or ids j 0 - least) true false
    (ap (λ (k : ℕ). get_or ids k 0 - least) here ∙ sym is) within)
    (λ (before : j < place). ⊎_elim
    (λ (same : get_or ids j 0 - least ≡ at). get_or-set_at marks at (get_or ids j 0 - least) true false same
    within)
    (λ (other : ¬ (get_or ids j 0 - least ≡ at)).
    get_or-set_other marks at (get_or ids j 0 - least) true false other ∙ marked j before)
    (cases_eq (get_or ids j 0 - least) at))
    (le_or_lt place j)

-- one that has no mark is another
pub apart_more : (ids : List ℕ) (least : ℕ) (marks : List Bool) (place at : ℕ)
    → at ≡ get_or ids place 0 - least → get_or marks at false ≡ false → Marked ids least marks place
    → Apart ids place → Apart ids (place + 1)
apart_more ids least marks place at is unmarked marked apart i j lt below same = ⊎_elim
    (λ (last : place ≤ j). let here : j ≡ place = omega (arith, last, below) in
    let there : get_or ids i 0 - least ≡ at =
    ap (λ (n : ℕ). n - least) (same ∙ ap (λ (k : ℕ). get_or ids k 0) here) ∙ sym is in
    let no = sym (marked i (omega (arith, lt, here))) ∙ ap (λ (k : ℕ). get_or marks k false) there ∙ unmarked in
    absurd (cc))
    (λ (before : j < place). apart i j lt before same)
    (le_or_lt place j)

-- ---- lists that ascend

nowhere : (xs : List ℕ) (q : ℕ) → ((j : ℕ) → j < length xs → get_or xs j 0 ≡ q → ⊥) → times_in q xs ≡ 0
nowhere [] q none = refl
nowhere (x ∷ xs) q none =
    omega (
      arith,
      times_more q x xs,
      at_another x q (none 0 (omega arith)),
      nowhere xs q (λ j lt. none (suc j) (omega (arith, lt))),
    )

in_one_place : (xs : List ℕ) (q : ℕ)
    → ((i j : ℕ) → i < j → j < length xs → get_or xs i 0 ≡ q → get_or xs j 0 ≡ q → ⊥) → times_in q xs ≤ 1
in_one_place [] q apart = omega arith
in_one_place (x ∷ xs) q apart = ⊎_elim
    (λ (same : x ≡ q). omega (
      arith,
      times_more q x xs,
      nowhere xs q (λ j lt e. apart 0 (suc j) (omega arith) (omega (arith, lt)) same e),
      subst (λ (y : ℕ). one_if (eqb x y) ≡ 1) same (at_itself x),
    ))
    (λ (other : ¬ (x ≡ q)). omega (
      arith,
      times_more q x xs,
      at_another x q other,
      in_one_place xs q
          (λ i j lt within. apart (suc i) (suc j) (omega (arith, lt)) (omega (arith, within))),
    ))
    (cases_eq x q)

at_a_place : (xs : List ℕ) (i : ℕ) → i < length xs → 0 < times_in (get_or xs i 0) xs
at_a_place [] i lt = absurd (omega (arith, lt))
at_a_place (x ∷ xs) zero lt = omega (arith, times_more x x xs, at_itself x)
at_a_place (x ∷ xs) (suc i) lt =
    omega (arith, times_more (get_or xs i 0) x xs, at_a_place xs i (omega (arith, lt)))

in_two_places : (xs : List ℕ) (i j : ℕ) → i < j → j < length xs → get_or xs i 0 ≡ get_or xs j 0
    → 1 < times_in (get_or xs j 0) xs
in_two_places [] i j lt within same = absurd (omega (arith, within))
in_two_places (x ∷ xs) i zero lt within same = absurd (omega (arith, lt))
in_two_places (x ∷ xs) zero (suc j) lt within same =
    omega (
      arith,
      times_more (get_or xs j 0) x xs,
      at_a_place xs j (omega (arith, within)),
      subst (λ (y : ℕ). one_if (eqb x y) ≡ 1) same (at_itself x),
    )
in_two_places (x ∷ xs) (suc i) (suc j) lt within same =
    omega (
      arith,
      times_more (get_or xs j 0) x xs,
      in_two_places xs i j (omega (arith, lt)) (omega (arith, within)) same,
    )

-- where none are the same, none stands twice
pub none_apart : (ids : List ℕ) → Apart ids (length ids) → IsLeastTwice ids None
none_apart ids apart = λ q. in_one_place ids q (λ i j lt within a b. apart i j lt within (a ∙ sym b))

-- the items below a place rise
abbrev pub Rise : List ℕ → ℕ → Type 0
Rise ids place = (i j : ℕ) → i < j → j < place → get_or ids i 0 < get_or ids j 0

-- all do, so none stands twice
pub none_twice : (ids : List ℕ) → Rise ids (length ids) → IsLeastTwice ids None
none_twice ids rise = λ q. in_one_place ids q (λ i j lt within a b. omega (arith, rise i j lt within, a, b))

-- the first two neighbours that are the same
pub twice_here : (ids : List ℕ) (place : ℕ)
    → ((i j : ℕ) → i ≤ j → j < length ids → get_or ids i 0 ≤ get_or ids j 0) → 0 < place → place < length ids
    → Rise ids place → get_or ids (place - 1) 0 ≡ get_or ids place 0
    → IsLeastTwice ids (Some (get_or ids place 0))
twice_here ids place up positive within rise same = (
  in_two_places ids (place - 1) place (omega (arith, positive)) within same,
  λ q more. ⊎_elim
      (λ (le : get_or ids place 0 ≤ q). le)
      (λ (lt : q < get_or ids place 0). absurd
      (let once = in_one_place ids q (apart q lt) in omega (arith, once, more)))
      (le_or_lt (get_or ids place 0) q),
)
  where
    apart : (q : ℕ) → q < get_or ids place 0 → (i j : ℕ) → i < j → j < length ids → get_or ids i 0 ≡ q
        → get_or ids j 0 ≡ q → ⊥
    apart q below i j lt inside a b = ⊎_elim
        (λ (later : place ≤ j). omega (arith, up place j later inside, below, b))
        (λ (before : j < place). omega (arith, rise i j lt before, a, b))
        (le_or_lt place j)

-- one place more
pub rise_more : (ids : List ℕ) (place : ℕ)
    → ((i j : ℕ) → i ≤ j → j < length ids → get_or ids i 0 ≤ get_or ids j 0) → 0 < place → place < length ids
    → Rise ids place → ¬ (get_or ids (place - 1) 0 ≡ get_or ids place 0) → Rise ids (place + 1)
rise_more ids place up positive within rise other i j lt below = ⊎_elim
    (λ (last : place ≤ j). let here : j ≡ place = omega (arith, last, below) in
    subst (λ (k : ℕ). get_or ids i 0 < get_or ids k 0) (sym here)
    (omega (
      arith,
      up i (place - 1) (omega (arith, lt, here)) (omega (arith, within)),
      up (place - 1) place (omega arith) within,
      other,
    )))
    (λ (before : j < place). rise i j lt before)
    (le_or_lt place j)
