-- The first k of the objects seen so far, as they are kept while more are seen.
use Rattle.std.proofs.Common.{◌≡◌, ◌∙◌, ◌⊎◌, ℕ, zero, suc, ◌+◌, ◌<◌, ◌≤◌, Bool, true, false, cond, List, []}
use Rattle.std.proofs.Common.{◌∷◌, ◌++◌, length, take, get_or, map, sum_by, IsPermutation, refl, sym, ap}
use Rattle.std.proofs.Common.{subst, inl, inr, ⊎_elim, arith}
use Rattle.std.specs.Prelude.{⊤}
use Rattle.std.proofs.lemmas.Bool.{cases_lt}
use Rattle.std.proofs.lemmas.List.{map_more, take_all, take_at}
use Rattle.std.proofs.lemmas.List.Sums.{sum_by-cons}
use Rattle.std.proofs.lemmas.List.Sorted.{sum_by-IsPermutation}
use Rattle.box_math.specs.Nearest.{comes_first, put_nearest_first, nearest_first}
use Rattle.nearest.specs.Candidates.{Past, offered}
use Rattle.nearest.proofs.OrderLemmas.{Ascends, Ascends-nearest_first, Ascends-push, first_nearer, listed}
use Rattle.nearest.proofs.OrderLemmas.{listed-append, listed-nearest_first, listed_here, one_order, same_row}
use Rattle.nearest.proofs.OrderLemmas.{same_row-is}

-- ---- the first k, and one object more

take_less : (k : ℕ) (ys : List (ℕ × ℕ)) → take k (take (suc k) ys) ≡ take k ys
take_less zero ys = refl
take_less (suc k) [] = refl
take_less (suc k) (y ∷ ys) = ap (λ (zs : List (ℕ × ℕ)). y ∷ zs) (take_less k ys)

take_twice : (k : ℕ) (y : ℕ × ℕ) (ys : List (ℕ × ℕ)) → take k (y ∷ take k ys) ≡ take k (y ∷ ys)
take_twice zero y ys = refl
take_twice (suc k) y ys = ap (λ (zs : List (ℕ × ℕ)). y ∷ zs) (take_less k ys)

pub put_take : (k : ℕ) (x : ℕ × ℕ) (ys : List (ℕ × ℕ))
    → take k (put_nearest_first x (take k ys)) ≡ take k (put_nearest_first x ys)
put_take zero x ys = refl
put_take (suc k) x [] = refl
put_take (suc k) x (y ∷ ys) =
    elim (comes_first x y) as
    (λ (b : Bool). take (suc k) (cond b (x ∷ y ∷ take k ys) (y ∷ put_nearest_first x (take k ys))) ≡ take
    (suc k) (cond b (x ∷ y ∷ ys) (y ∷ put_nearest_first x ys))) [
      | true ↦ ap (λ (zs : List (ℕ × ℕ)). x ∷ zs) (take_twice k y ys)
      | false ↦ ap (λ (zs : List (ℕ × ℕ)). y ∷ zs) (put_take k x ys)
    ]

-- ---- whether the first k are nearer than a distance

past_less : (d k : ℕ) (ys : List (ℕ × ℕ)) → Past d (suc k) ys → Past d k ys
past_less d zero ys h = tt
past_less d (suc k) [] h = absurd h
past_less d (suc k) (y ∷ ys) h = (h.0, past_less d k ys h.1)

pub past_le : (d e k : ℕ) (ys : List (ℕ × ℕ)) → d ≤ e → Past d k ys → Past e k ys
past_le d e zero ys le h = tt
past_le d e (suc k) [] le h = absurd h
past_le d e (suc k) (y ∷ ys) le h = (omega (arith, h.0, le), past_le d e k ys le h.1)

pub past_or_not : (d k : ℕ) (ys : List (ℕ × ℕ)) → Past d k ys ⊎ (Past d k ys → ⊥)
past_or_not d zero ys = inl tt
past_or_not d (suc k) [] = inr (λ h. h)
past_or_not d (suc k) (y ∷ ys) =
    ⊎_elim (λ (near : y.1 < d). ⊎_elim (λ (later : Past d k ys). inl (near, later))
    (λ (no : Past d k ys → ⊥). inr (λ h. no h.1)) (past_or_not d k ys))
    (λ (far : d ≤ y.1). inr (λ h. absurd (omega (arith, far, h.0)))) (cases_lt y.1 d)

pub past_put : (d k : ℕ) (x : ℕ × ℕ) (ys : List (ℕ × ℕ)) → Past d k ys → Past d k (put_nearest_first x ys)
past_put d zero x ys h = tt
past_put d (suc k) x [] h = absurd h
past_put d (suc k) x (y ∷ ys) h = at (past_put d k x ys h.1) (comes_first x y) refl
  where
    at : Past d k (put_nearest_first x ys) → (b : Bool) → comes_first x y ≡ b
        → Past d (suc k) (cond b (x ∷ y ∷ ys) (y ∷ put_nearest_first x ys))
    at later true e = (omega (arith, first_nearer x y e, h.0), past_less d k (y ∷ ys) h)
    at later false e = (h.0, later)

pub put_past : (d k : ℕ) (x : ℕ × ℕ) (ys : List (ℕ × ℕ)) → d ≤ x.1 → Past d k (put_nearest_first x ys)
    → Past d k ys
put_past d zero x ys far h = tt
put_past d (suc k) x [] far h = absurd (omega (arith, far, h.0))
put_past d (suc k) x (y ∷ ys) far h = at (put_past d k x ys far) (comes_first x y) h
  where
    at : (Past d k (put_nearest_first x ys) → Past d k ys) → (b : Bool)
        → Past d (suc k) (cond b (x ∷ y ∷ ys) (y ∷ put_nearest_first x ys)) → Past d (suc k) (y ∷ ys)
    at later true g = absurd (omega (arith, far, g.0))
    at later false g = (g.0, later g.1)

-- one that is farther changes nothing
pub put_far : (k : ℕ) (x : ℕ × ℕ) (ys : List (ℕ × ℕ)) → Past x.1 k ys
    → take k (put_nearest_first x ys) ≡ take k ys
put_far zero x ys h = refl
put_far (suc k) x [] h = absurd h
put_far (suc k) x (y ∷ ys) h = at (put_far k x ys h.1) (comes_first x y) refl
  where
    at : take k (put_nearest_first x ys) ≡ take k ys → (b : Bool) → comes_first x y ≡ b
        → take (suc k) (cond b (x ∷ y ∷ ys) (y ∷ put_nearest_first x ys)) ≡ take (suc k) (y ∷ ys)
    at later true e = absurd (omega (arith, first_nearer x y e, h.0))
    at later false e = ap (λ (zs : List (ℕ × ℕ)). y ∷ zs) later

pub past_take : (d k : ℕ) (ys : List (ℕ × ℕ)) → Past d k ys → Past d k (take k ys)
past_take d zero ys h = tt
past_take d (suc k) [] h = absurd h
past_take d (suc k) (y ∷ ys) h = (h.0, past_take d k ys h.1)

pub take_past : (d k : ℕ) (ys : List (ℕ × ℕ)) → Past d k (take k ys) → Past d k ys
take_past d zero ys h = tt
take_past d (suc k) [] h = absurd h
take_past d (suc k) (y ∷ ys) h = (h.0, take_past d k ys h.1)

-- ---- the last of the first k

pub past_length : (d k : ℕ) (ys : List (ℕ × ℕ)) → Past d k ys → length (take k ys) ≡ k
past_length d zero ys h = refl
past_length d (suc k) [] h = absurd h
past_length d (suc k) (y ∷ ys) h = omega (arith, past_length d k ys h.1)

pub past_last : (d j : ℕ) (ys : List (ℕ × ℕ)) (e : ℕ × ℕ) → Past d (suc j) ys
    → (get_or (take (suc j) ys) j e).1 < d
past_last d j [] e h = absurd h
past_last d zero (y ∷ ys) e h = h.0
past_last d (suc j) (y ∷ ys) e h = past_last d j ys e h.1

pub last_past : (d j : ℕ) (ys : List (ℕ × ℕ)) (e : ℕ × ℕ) → Ascends ys → suc j ≤ length (take (suc j) ys)
    → (get_or (take (suc j) ys) j e).1 < d → Past d (suc j) ys
last_past d j [] e up long near = absurd (omega (arith, long))
last_past d zero (y ∷ ys) e up long near = (near, tt)
last_past d (suc j) (y ∷ []) e up long near = absurd (omega (arith, long))
last_past d (suc j) (x ∷ y ∷ ys) e up long near =
    let later = last_past d j (y ∷ ys) e up.1 (omega (arith, long)) near in
    (omega (arith, later.0, first_nearer x y up.0.0), later)

-- ---- the order of all that was seen

pub nearest_same : (xs ys : List (ℕ × ℕ)) → ((z : ℕ × ℕ) → listed z xs ≡ listed z ys)
    → nearest_first xs ≡ nearest_first ys
nearest_same xs ys same =
    one_order (nearest_first xs) (nearest_first ys) (Ascends-nearest_first xs) (Ascends-nearest_first ys)
    (λ z. listed-nearest_first z xs ∙ same z ∙ sym (listed-nearest_first z ys))

-- each of these is farther than the first k
abbrev pub AllPast : ℕ → List (ℕ × ℕ) → List (ℕ × ℕ) → Type 0
AllPast k seen [] = ⊤
AllPast k seen (y ∷ ys) = Past y.1 k seen × AllPast k seen ys

pub AllPast-append : (k : ℕ) (seen xs ys : List (ℕ × ℕ)) → AllPast k seen xs → AllPast k seen ys
    → AllPast k seen (xs ++ ys)
AllPast-append k seen [] ys g h = h
AllPast-append k seen (x ∷ xs) ys g h = (g.0, AllPast-append k seen xs ys g.1 h)

past_more : (d k : ℕ) (seen ys : List (ℕ × ℕ)) → Past d k (nearest_first seen)
    → Past d k (nearest_first (ys ++ seen))
past_more d k seen [] h = h
past_more d k seen (y ∷ ys) h = past_put d k y (nearest_first (ys ++ seen)) (past_more d k seen ys h)

-- where all the rest is farther, the first k that were seen are the first k of all
pub first_of_all : (k : ℕ) (seen rest : List (ℕ × ℕ)) → AllPast k (nearest_first seen) rest
    → take k (nearest_first (rest ++ seen)) ≡ take k (nearest_first seen)
first_of_all k seen [] h = refl
first_of_all k seen (y ∷ ys) h = put_far k y (nearest_first (ys ++ seen)) (past_more y.1 k seen ys h.0)
    ∙ first_of_all k seen ys h.1

-- ---- objects offered one after the other

-- what was seen before, and these
abbrev pub and_then : List (ℕ × ℕ) → List (ℕ × ℕ) → List (ℕ × ℕ)
and_then [] seen = seen
and_then (x ∷ xs) seen = and_then xs (x ∷ seen)

pub and_then-listed : (z : ℕ × ℕ) (xs seen : List (ℕ × ℕ))
    → listed z (and_then xs seen) ≡ listed z xs + listed z seen
and_then-listed z [] seen = omega arith
and_then-listed z (x ∷ xs) seen = omega (arith, and_then-listed z xs (x ∷ seen))

pub offered_are_first : (k : ℕ) (best xs seen : List (ℕ × ℕ)) → best ≡ take k (nearest_first seen)
    → offered k best xs ≡ take k (nearest_first (and_then xs seen))
offered_are_first k best [] seen is = is
offered_are_first k best (x ∷ xs) seen is =
    offered_are_first k (take k (put_nearest_first x best)) xs (x ∷ seen)
    (ap (λ (b : List (ℕ × ℕ)). take k (put_nearest_first x b)) is ∙ put_take k x (nearest_first seen))

pub offered_more : (k : ℕ) (best xs : List (ℕ × ℕ)) (x : ℕ × ℕ)
    → offered k best (xs ++ x ∷ []) ≡ take k (put_nearest_first x (offered k best xs))
offered_more k best [] x = refl
offered_more k best (y ∷ ys) x = offered_more k (take k (put_nearest_first y best)) ys x

pub take_few : (k : ℕ) (ys : List (ℕ × ℕ)) → length (take k ys) ≤ k
take_few zero ys = omega arith
take_few (suc k) [] = omega arith
take_few (suc k) (y ∷ ys) = omega (arith, take_few k ys)

-- one entry of a leaf more is offered
pub entry_offered : {X : Type 0} (f : X → ℕ × ℕ) (k : ℕ) (before best next : List (ℕ × ℕ)) (items : List X)
    (i : ℕ) (item : X) (x : ℕ × ℕ) → i < length items → item ≡ get_or items i item → x ≡ f item
    → best ≡ offered k before (map f (take i items)) → next ≡ take k (put_nearest_first x best)
    → (length next ≤ k) × (next ≡ offered k before (map f (take (i + 1) items)))
entry_offered {X} f k before best next items i item x within is at so_far now =
    let here : x ≡ f (get_or items i item) = at ∙ ap f is in
    let more = map_more f items i item within in (
      subst (λ (b : List (ℕ × ℕ)). length b ≤ k) (sym now) (take_few k (put_nearest_first x best)),
      now ∙ ap (λ (b : List (ℕ × ℕ)). take k (put_nearest_first x b)) so_far
          ∙ sym (offered_more k before (map f (take i items)) x)
          ∙ ap (λ (y : ℕ × ℕ). offered k before (map f (take i items) ++ y ∷ [])) here
          ∙ ap (offered k before) (sym more),
    )

pub past_offered : (d k : ℕ) (xs seen : List (ℕ × ℕ)) → Past d k (nearest_first seen)
    → Past d k (nearest_first (and_then xs seen))
past_offered d k [] seen h = h
past_offered d k (x ∷ xs) seen h = past_offered d k xs (x ∷ seen) (past_put d k x (nearest_first seen) h)

-- none of these is nearer than the distance
abbrev pub NoneNearer : ℕ → List (ℕ × ℕ) → Type 0
NoneNearer d [] = ⊤
NoneNearer d (x ∷ xs) = (d ≤ x.1) × NoneNearer d xs

pub offered_past : (d k : ℕ) (xs seen : List (ℕ × ℕ)) → NoneNearer d xs
    → Past d k (nearest_first (and_then xs seen)) → Past d k (nearest_first seen)
offered_past d k [] seen far h = h
offered_past d k (x ∷ xs) seen far h =
    put_past d k x (nearest_first seen) far.0 (offered_past d k xs (x ∷ seen) far.1 h)

-- ---- the k best, in any order

length-put : (x : ℕ × ℕ) (ys : List (ℕ × ℕ)) → length (put_nearest_first x ys) ≡ suc (length ys)
length-put x [] = refl
length-put x (y ∷ ys) =
    elim (comes_first x y) as
    (λ (b : Bool). length (cond b (x ∷ y ∷ ys) (y ∷ put_nearest_first x ys)) ≡ suc (suc (length ys))) [
      | true ↦ refl
      | false ↦ ap suc (length-put x ys)
    ]

pub length-nearest_first : (xs : List (ℕ × ℕ)) → length (nearest_first xs) ≡ length xs
length-nearest_first [] = refl
length-nearest_first (x ∷ xs) = length-put x (nearest_first xs) ∙ ap suc (length-nearest_first xs)

listed_sum : (z : ℕ × ℕ) (xs : List (ℕ × ℕ)) → listed z xs ≡ sum_by (λ x. cond (same_row z x) 1 0) xs
listed_sum z [] = refl
listed_sum z (x ∷ xs) = omega (arith, listed_sum z xs, sum_by-cons (λ y. cond (same_row z y) 1 0) x xs)

pub listed-permutation : (z : ℕ × ℕ) (xs ys : List (ℕ × ℕ)) → IsPermutation xs ys → listed z xs ≡ listed z ys
listed-permutation z xs ys perm = listed_sum z xs
    ∙ sym (sum_by-IsPermutation (λ x. cond (same_row z x) 1 0) xs ys perm) ∙ sym (listed_sum z ys)

-- each of these comes before the object, or is the same
abbrev pub Ends : List (ℕ × ℕ) → ℕ × ℕ → Type 0
Ends xs t = (z : ℕ × ℕ) → 0 < listed z xs → comes_first z t ≡ true

-- the last of k + 1 objects is left out
pub cut : (k : ℕ) (xs : List (ℕ × ℕ)) (t : ℕ × ℕ) → length xs ≡ k → Ends xs t
    → take k (nearest_first (t ∷ xs)) ≡ nearest_first xs
cut k xs t many ends =
    let same : nearest_first (t ∷ xs) ≡ nearest_first xs ++ t ∷ [] =
    one_order (nearest_first (t ∷ xs)) (nearest_first xs ++ t ∷ []) (Ascends-nearest_first (t ∷ xs))
    (Ascends-push (nearest_first xs) t (Ascends-nearest_first xs)
    (λ z there. ends z (omega (arith, there, listed-nearest_first z xs))))
    (λ z. omega (
      arith,
      listed-nearest_first z (t ∷ xs),
      listed-append z (nearest_first xs) (t ∷ []),
      listed-nearest_first z xs,
    )) in
    ap (take k) same ∙ take_at (nearest_first xs) (t ∷ []) k (length-nearest_first xs ∙ many)

-- there is room for one more
pub offer_added : (k : ℕ) (old new : List (ℕ × ℕ)) (x : ℕ × ℕ) → IsPermutation (x ∷ old) new → length old < k
    → nearest_first new ≡ take k (put_nearest_first x (nearest_first old))
offer_added k old new x perm few =
    nearest_same new (x ∷ old) (λ z. sym (listed-permutation z (x ∷ old) new perm))
    ∙ sym (take_all k (nearest_first (x ∷ old)) (omega (arith, length-nearest_first (x ∷ old), few)))

-- it comes after all
pub offer_refused : (k : ℕ) (old : List (ℕ × ℕ)) (x : ℕ × ℕ) → length old ≡ k → Ends old x
    → nearest_first old ≡ take k (put_nearest_first x (nearest_first old))
offer_refused k old x many ends = sym (cut k old x many ends)

-- it takes the place of the last
pub offer_replaced : (k : ℕ) (old rest new : List (ℕ × ℕ)) (x t : ℕ × ℕ) → IsPermutation old (t ∷ rest)
    → IsPermutation (x ∷ rest) new → length rest + 1 ≡ k → Ends old t → comes_first x t ≡ true
    → nearest_first new ≡ take k (put_nearest_first x (nearest_first old))
offer_replaced k old rest new x t out perm many ends first =
    let kept : nearest_first new ≡ nearest_first (x ∷ rest) =
    nearest_same new (x ∷ rest) (λ z. sym (listed-permutation z (x ∷ rest) new perm)) in
    let all : nearest_first (x ∷ old) ≡ nearest_first (t ∷ x ∷ rest) =
    nearest_same (x ∷ old) (t ∷ x ∷ rest)
    (λ z. let was : listed z old ≡ listed z (t ∷ rest) = listed-permutation z old (t ∷ rest) out in
    omega (arith, was)) in
    let shorter =
    cut k (x ∷ rest) t (omega (arith, many))
    (ends_both rest (λ z. listed-permutation z old (t ∷ rest) out)) in
    kept ∙ sym (ap (take k) all ∙ shorter)
  where
    ends_both : (rest : List (ℕ × ℕ))
        → ((z : ℕ × ℕ) → listed z old ≡ cond (same_row z t) 1 0 + listed z rest) → Ends (x ∷ rest) t
    ends_both rest was z there = at (same_row z x) refl
      where
        at : (b : Bool) → same_row z x ≡ b → comes_first z t ≡ true
        at true e = subst (λ (w : ℕ × ℕ). comes_first w t ≡ true) (sym (same_row-is z x e)) first
        at false e = ends z (omega (arith, was z, rw e at there))

-- ---- whether all are nearer

pub past_long : (d k : ℕ) (ys : List (ℕ × ℕ)) → Past d k ys → k ≤ length ys
past_long d zero ys h = omega arith
past_long d (suc k) [] h = absurd h
past_long d (suc k) (y ∷ ys) h = omega (arith, past_long d k ys h.1)

pub past_all : (d k : ℕ) (ys : List (ℕ × ℕ)) → k ≤ length ys → ((z : ℕ × ℕ) → 0 < listed z ys → z.1 < d)
    → Past d k ys
past_all d zero ys long near = tt
past_all d (suc k) [] long near = absurd (omega (arith, long))
past_all d (suc k) (y ∷ ys) long near =
    (near y (listed_here y ys), past_all d k ys (omega (arith, long)) (λ z there. near z (omega arith)))

pub all_past : (d k : ℕ) (ys : List (ℕ × ℕ)) (z : ℕ × ℕ) → length ys ≤ k → Past d k ys → 0 < listed z ys
    → z.1 < d
all_past d k [] z few h there = absurd (omega (arith, there))
all_past d zero (y ∷ ys) z few h there = absurd (omega (arith, few))
all_past d (suc k) (y ∷ ys) z few h there =
    at (all_past d k ys z (omega (arith, few)) h.1) (same_row z y) refl
  where
    at : (0 < listed z ys → z.1 < d) → (b : Bool) → same_row z y ≡ b → z.1 < d
    at later true e = subst (λ (w : ℕ × ℕ). w.1 < d) (sym (same_row-is z y e)) h.0
    at later false e = later (omega (arith, rw e at there))
