-- The far set and the rest have each position once.
use Rattle.std.proofs.Common.{◌≡◌, ℕ, zero, suc, ◌+◌, ◌<◌, ◌≤◌, Bool, true, false, cond, eqb, not, List, []}
use Rattle.std.proofs.Common.{◌∷◌, length, take, drop, reverse, filter, refl, ◌∙◌, ⊎_elim, arith}
use Rattle.std.specs.Prelude.{◌||◌, ◌==◌}
use Rattle.std.proofs.lemmas.Bool.{cases_eq}
use Rattle.std.specs.List.{list_any, range_with_len}
use Rattle.std.proofs.lemmas.Bool.Decides.{nat_tests}
use Rattle.std.proofs.lemmas.List.{reverse-append}
use Rattle.box_math.specs.Measures.{sum_over}
use Rattle.tree_node.specs.Nodes.{Item}
use Rattle.tree_node.specs.Positions.{total, AreParts}
use Rattle.tree_node.specs.Orders.{in_order}
use Rattle.tree_node.proofs.PositionLemmas.{total-append}
use Rattle.tree_node.proofs.OrderSums.{total-take_drop, total-in_order}
use Rattle.tree_node.proofs.PartPermutations.{total-range}
use Rattle.reinsert.specs.Far.{far_places, near_places, farther, far_order}

zero_there : (a b : ℕ) → ¬ (a ≡ b) → ◌≡◌ {A = ℕ} (cond (eqb a b) 1 0) 0
zero_there a b differs = grind (arith, nat_tests)

one_at_most : (a b : ℕ) → cond (eqb a b) 1 0 ≤ 1
one_at_most a b = grind (arith, nat_tests)

-- how often a position occurs
abbrev count : ℕ → List ℕ → ℕ
count i xs = total (λ k. cond (eqb k i) 1 0) xs

here : (i : ℕ) → ◌≡◌ {A = ℕ} (cond (eqb i i) 1 0) 1
here i = grind (arith, nat_tests)

-- a function that is 0 on a list
none_of : (h : ℕ → ℕ) (xs : List ℕ) → ((i : ℕ) → 0 < count i xs → h i ≡ 0) → total h xs ≡ 0
none_of h [] z = refl
none_of h (x ∷ xs) z =
    omega (arith, z x (omega (arith, here x)), none_of h xs (λ i p. z i (omega (arith, p))))

-- two functions that are the same on a list
same_on : (h f : ℕ → ℕ) (xs : List ℕ) → ((i : ℕ) → 0 < count i xs → h i ≡ f i) → total h xs ≡ total f xs
same_on h f [] z = refl
same_on h f (x ∷ xs) z =
    omega (arith, z x (omega (arith, here x)), same_on h f xs (λ i p. z i (omega (arith, p))))

among_test : (b : Bool) (c : ℕ) (rest : Bool) → 0 < cond b 1 0 + c → (0 < c → rest ≡ true)
    → (b || rest) ≡ true
among_test true c rest p h = refl
among_test false c rest p h = h (omega (arith, p))

among : (i : ℕ) (xs : List ℕ) → 0 < count i xs → list_any (λ k. k == i) xs ≡ true
among i [] p = absurd (omega (arith, p))
among i (x ∷ xs) p = among_test (eqb x i) (count i xs) (list_any (λ k. k == i) xs) p (among i xs)

not_among_test : (b : Bool) (c : ℕ) (rest : Bool) → cond b 1 0 + c ≡ 0 → (c ≡ 0 → rest ≡ false)
    → (b || rest) ≡ false
not_among_test true c rest p h = absurd (omega (arith, p))
not_among_test false c rest p h = h (omega (arith, p))

not_among : (i : ℕ) (xs : List ℕ) → count i xs ≡ 0 → list_any (λ k. k == i) xs ≡ false
not_among i [] p = refl
not_among i (x ∷ xs) p = not_among_test (eqb x i) (count i xs) (list_any (λ k. k == i) xs) p (not_among i xs)

total-filter_test : (f : ℕ → ℕ) (b : Bool) (x k : ℕ) (ys : List ℕ) → total f ys ≡ k
    → total f (cond b (x ∷ ys) ys) ≡ cond b (f x) 0 + k
total-filter_test f true x k ys h = omega (arith, h)
total-filter_test f false x k ys h = omega (arith, h)

total-filter : (f : ℕ → ℕ) (t : ℕ → Bool) (xs : List ℕ)
    → total f (filter t xs) ≡ total (λ i. cond (t i) (f i) 0) xs
total-filter f t [] = refl
total-filter f t (x ∷ xs) =
    total-filter_test f (t x) x (total (λ i. cond (t i) (f i) 0) xs) (filter t xs) (total-filter f t xs)

total-reverse : (f : ℕ → ℕ) (xs : List ℕ) → total f (reverse xs) ≡ total f xs
total-reverse f [] = refl
total-reverse f (x ∷ xs) =
    rw (reverse-append (x ∷ []) xs) (omega (arith, total-append f (reverse xs) (x ∷ []), total-reverse f xs))

-- a position is below the count at most once
none_past : (i n : ℕ) → n ≤ i → sum_over n (λ k. cond (eqb k i) 1 0) ≡ 0
none_past i zero h = refl
none_past i (suc n) h = let differs : ◌≡◌ {A = ℕ} (cond (eqb n i) 1 0) 0 = grind (arith, nat_tests, h) in
    omega (arith, differs, none_past i n (omega (arith, h)))

at_most_once : (i n : ℕ) → sum_over n (λ k. cond (eqb k i) 1 0) ≤ 1
at_most_once i zero = omega arith
at_most_once i (suc n) = ⊎_elim
    (λ is. omega (arith, none_past i n (omega (arith, is)), one_at_most n i))
    (λ differs. omega (arith, zero_there n i differs, at_most_once i n))
    (cases_eq n i)

pub far_parts : (dims p : ℕ) (items : List Item)
    → AreParts (near_places dims p items) (far_places dims p items) (length items)
unfolding near_places far_places far_order
far_parts dims p items f =
    let n = length items in
    let order = in_order (farther dims items) n in
    let c = take p order in
    let d = drop p order in
    let far = reverse c in
    let h : ℕ → ℕ = λ i. cond (not (list_any (λ k. k == i) far)) (f i) 0 in
    let whole : (g : ℕ → ℕ)
    → total g c + total g d ≡ sum_over n g = λ g. total-take_drop g p order
    ∙ total-in_order g (farther dims items) n in
    let on_c : (i : ℕ) → 0 < count i c
    → h i ≡ 0 =
    λ i p. rw (among i far (omega (arith, p, total-reverse (λ k. cond (eqb k i) 1 0) c))) refl in
    let on_d : (i : ℕ) → 0 < count i d → h i ≡ f i =
    λ i p. rw
    (not_among i far
    (omega (
      arith,
      p,
      total-reverse (λ k. cond (eqb k i) 1 0) c,
      whole (λ k. cond (eqb k i) 1 0),
      at_most_once i n,
    ))) refl in
    omega (
      arith,
      total-filter f (λ i. not (list_any (λ k. k == i) far)) (range_with_len 0 n),
      total-range h n,
      whole h,
      whole f,
      none_of h c on_c,
      same_on h f d on_d,
      total-reverse f c,
    )
