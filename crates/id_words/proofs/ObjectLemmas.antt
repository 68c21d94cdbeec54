-- Objects by their identifiers, in lists that are joined or longer by one.
use Rattle.std.proofs.Common.{◌≡◌, ◌∙◌, ℕ, ◌+◌, ◌≤◌, All, Bool, true, false, cond, eqb, Option, Some, None}
use Rattle.std.proofs.Common.{List, [], ◌∷◌, ◌++◌, refl, ap, subst, ⊎_elim, arith}
use Rattle.std.proofs.lemmas.Bool.{cases_eq}
use Rattle.std.proofs.lemmas.Bool.Decides.{nat_tests}
use Rattle.std.proofs.lemmas.List.Elements.{All-cons, All-head, All-tail}
use Rattle.std.specs.FinMap.Entries.{find}
use Rattle.std.specs.Ordering.{eq_by_cmp, nat_cmp}
use Rattle.box_math.specs.Objects.{Object}
use Rattle.bucket_page.specs.Layout.{Entry}
use Rattle.id_words.specs.Objects.{kept_in, times_in}

pub same_key : (q k : ℕ) → eq_by_cmp nat_cmp q k ≡ eqb k q
same_key q k = grind (arith, nat_tests)

pub found_is : (q : ℕ) (es : List Entry) → find nat_cmp q es ≡ kept_in q es
found_is q [] = refl
found_is q (e ∷ es) = ap (λ b. cond b (Some e.1) (find nat_cmp q es)) (same_key q e.0)
    ∙ ap (λ o. cond (eqb e.0 q) (Some e.1) o) (found_is q es)

pub not_here : (q : ℕ) (xs ys : List Entry) → kept_in q xs ≡ None → kept_in q (xs ++ ys) ≡ kept_in q ys
not_here q [] ys none = refl
not_here q (x ∷ xs) ys none = step (eqb x.0 q) (kept_in q xs) (kept_in q (xs ++ ys)) (not_here q xs ys) none
  where
    step : (b : Bool) (front all : Option Object) → (front ≡ None → all ≡ kept_in q ys)
        → cond b (Some x.1) front ≡ None → cond b (Some x.1) all ≡ kept_in q ys
    step true front all later e = absurd (cc)
    step false front all later e = later e

pub not_behind : (q : ℕ) (xs ys : List Entry) → kept_in q ys ≡ None → kept_in q (xs ++ ys) ≡ kept_in q xs
not_behind q [] ys none = none
not_behind q (x ∷ xs) ys none = ap (λ o. cond (eqb x.0 q) (Some x.1) o) (not_behind q xs ys none)

pub not_there : (page n : ℕ) → ¬ (page ≡ n) → ◌≡◌ {A = ℕ} (cond (eqb page n) 1 0) 0
not_there page n other = grind (arith, nat_tests)

pub occurs_here : (page : ℕ) → ◌≡◌ {A = ℕ} (cond (eqb page page) 1 0) 1
occurs_here page = grind (arith, nat_tests)

pub times-append : (id : ℕ) (xs ys : List Entry) → times_in id (xs ++ ys) ≡ times_in id xs + times_in id ys
times-append id [] ys = omega arith
times-append id (x ∷ xs) ys = let rest = times-append id xs ys in omega (arith, rest)

-- objects with one more, wherever it is put
pub one_more : (q : ℕ) (x : Entry) (xs ys : List Entry) → kept_in x.0 (xs ++ ys) ≡ None
    → kept_in q (xs ++ x ∷ ys) ≡ cond (eqb x.0 q) (Some x.1) (kept_in q (xs ++ ys))
one_more q x [] ys none = refl
one_more q x (y ∷ xs) ys none =
    step (eqb y.0 x.0) (eqb y.0 q) (eqb x.0 q) (kept_in x.0 (xs ++ ys)) (kept_in q (xs ++ ys))
    (kept_in q (xs ++ x ∷ ys)) (differ y.0 x.0 q) (one_more q x xs ys) none
  where
    differ : (a b q : ℕ) → eqb a b ≡ false → eqb a q ≡ true → eqb b q ≡ false
    differ a b q h k = grind (arith, nat_tests)

    step : (yx yq xq : Bool) (there rest all : Option Object) → (yx ≡ false → yq ≡ true → xq ≡ false)
        → (there ≡ None → all ≡ cond xq (Some x.1) rest) → cond yx (Some y.1) there ≡ None
        → cond yq (Some y.1) all ≡ cond xq (Some x.1) (cond yq (Some y.1) rest)
    step true yq xq there rest all apart later e = absurd (cc)
    step false true xq there rest all apart later e = let no = apart refl refl in rw no refl
    step false false xq there rest all apart later e = later e

pub times_more : (q : ℕ) (x : Entry) (xs ys : List Entry)
    → times_in q (xs ++ x ∷ ys) ≡ (cond (eqb x.0 q) 1 0) + times_in q (xs ++ ys)
times_more q x [] ys = refl
times_more q x (y ∷ xs) ys = omega (arith, times_more q x xs ys)

pub none_times : (q : ℕ) (xs : List Entry) → kept_in q xs ≡ None → times_in q xs ≡ 0
none_times q [] none = refl
none_times q (x ∷ xs) none = step (eqb x.0 q) (kept_in q xs) (times_in q xs) (none_times q xs) none
  where
    step : (b : Bool) (there : Option Object) (n : ℕ) → (there ≡ None → n ≡ 0)
        → cond b (Some x.1) there ≡ None → (cond b 1 0) + n ≡ 0
    step true there n later e = absurd (cc)
    step false there n later e = omega (arith, later e)

pub all_more : (P : Entry → Type 0) (x : Entry) (xs ys : List Entry) → All P (xs ++ ys) → P x
    → All P (xs ++ x ∷ ys)
all_more P x [] ys all here = All-cons P x ys here all
all_more P x (y ∷ xs) ys all here =
    All-cons P y (xs ++ x ∷ ys) (All-head P y (xs ++ ys) all)
    (all_more P x xs ys (All-tail P y (xs ++ ys) all) here)

pub single_more : (id : ℕ) (x : Entry) (xs ys : List Entry) → times_in id (xs ++ ys) ≤ 1
    → kept_in x.0 (xs ++ ys) ≡ None → times_in id (xs ++ x ∷ ys) ≤ 1
single_more id x xs ys single none = ⊎_elim
    (λ (is : x.0 ≡ id). let zero_times =
    none_times id (xs ++ ys) (subst (λ k. kept_in k (xs ++ ys) ≡ None) is none) in
    let few = at_most (eqb x.0 id) in omega (arith, zero_times, few, times_more id x xs ys))
    (λ (other : ¬ (x.0 ≡ id)). let no = not_there x.0 id other in
    omega (arith, no, single, times_more id x xs ys))
    (cases_eq x.0 id)
  where
    at_most : (b : Bool) → cond b 1 0 ≤ 1
    at_most true = omega arith
    at_most false = omega arith

-- ---- a bucket put before a chain
