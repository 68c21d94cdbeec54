-- Sums over lists, and over the elements at positions of one.
use Rattle.std.proofs.Common.{◌≡◌, ◌∙◌, ℕ, zero, suc, ◌+◌, ◌*◌, ◌≤◌, List, [], ◌∷◌, ◌++◌, length, take, drop}
use Rattle.std.proofs.Common.{map, All, refl, sym, ap, arith}
use Rattle.std.proofs.lemmas.List.{map-append, take_all}
use Rattle.std.proofs.lemmas.List.Elements.{All-append, All-take, All-drop}
use Rattle.box_math.specs.Measures.{sum_over}
use Rattle.tree_node.specs.Positions.{pick, total}
use Rattle.tree_node.specs.Laws.{PartsHaveAll}

-- ---- sums

pub total-append : {A : Type 0} (f : A → ℕ) (xs ys : List A) → total f (xs ++ ys) ≡ total f xs + total f ys
total-append f [] ys = omega arith
total-append f (x ∷ xs) ys = omega (arith, total-append f xs ys)

pub total-none : {A : Type 0} (xs : List A) → total (λ x. 0) xs ≡ 0
total-none [] = refl
total-none (x ∷ xs) = omega (arith, total-none xs)

pub total-ones : {A : Type 0} (xs : List A) → total (λ x. 1) xs ≡ length xs
total-ones [] = refl
total-ones (x ∷ xs) = omega (arith, total-ones xs)

-- the sum of two numbers of each element
pub total-both : {A : Type 0} (f g : A → ℕ) (xs : List A)
    → total (λ x. f x + g x) xs ≡ total f xs + total g xs
total-both f g [] = refl
total-both f g (x ∷ xs) = omega (arith, total-both f g xs)

pub total-same : {A : Type 0} (f g : A → ℕ) (xs : List A) → ((x : A) → f x ≡ g x) → total f xs ≡ total g xs
total-same f g [] same = refl
total-same f g (x ∷ xs) same = omega (arith, same x, total-same f g xs same)

-- a number of each pair may be added either way round
pub total-turned : {A B : Type 0} (f : A → B → ℕ) (xs : List A) (ys : List B)
    → total (λ x. total (f x) ys) xs ≡ total (λ y. total (λ x. f x y) xs) ys
total-turned f [] ys = sym (total-none ys)
total-turned f (x ∷ xs) ys = ap (λ k. total (f x) ys + k) (total-turned f xs ys)
    ∙ sym (total-both (f x) (λ y. total (λ z. f z y) xs) ys)

-- of numbers that are each at most a bound
pub total-at_most : {A : Type 0} (f : A → ℕ) (bound : ℕ) (xs : List A) → ((x : A) → f x ≤ bound)
    → total f xs ≤ length xs * bound
total-at_most f bound [] each = omega arith
total-at_most f bound (x ∷ xs) each = grind (arith, each x, total-at_most f bound xs each)

-- ---- positions

map-at : {A B : Type 0} (f : A → B) (i : ℕ) (xs : List A)
    → map f (take 1 (drop i xs)) ≡ take 1 (drop i (map f xs))
map-at f zero [] = refl
map-at f zero (x ∷ xs) = refl
map-at f (suc i) [] = refl
map-at f (suc i) (x ∷ xs) = map-at f i xs

pub map-pick : {A B : Type 0} (f : A → B) (xs : List A) (places : List ℕ)
    → map f (pick xs places) ≡ pick (map f xs) places
map-pick f xs [] = refl
map-pick f xs (at ∷ places) = map-append f (take 1 (drop at xs)) (pick xs places)
    ∙ rw (map-at f at xs, map-pick f xs places) refl

total-pick : {A : Type 0} (f : A → ℕ) (xs : List A) (places : List ℕ)
    → total f (pick xs places) ≡ total (λ i. total f (take 1 (drop i xs))) places
total-pick f xs [] = refl
total-pick f xs (at ∷ places) = total-append f (take 1 (drop at xs)) (pick xs places)
    ∙ ap (λ k. total f (take 1 (drop at xs)) + k) (total-pick f xs places)

total-take_more : {A : Type 0} (f : A → ℕ) (n : ℕ) (xs : List A)
    → total f (take (suc n) xs) ≡ total f (take n xs) + total f (take 1 (drop n xs))
total-take_more f zero [] = refl
total-take_more f zero (x ∷ xs) = omega arith
total-take_more f (suc n) [] = refl
total-take_more f (suc n) (x ∷ xs) = omega (arith, total-take_more f n xs)

sum_over-take : {A : Type 0} (f : A → ℕ) (xs : List A) (n : ℕ)
    → sum_over n (λ i. total f (take 1 (drop i xs))) ≡ total f (take n xs)
sum_over-take f xs zero = refl
sum_over-take f xs (suc n) = omega (arith, sum_over-take f xs n, total-take_more f n xs)

pub parts_have_all : {A : Type 0} → PartsHaveAll A
parts_have_all f xs a b parts =
    let all = parts (λ i. total f (take 1 (drop i xs))) in
    omega (
      arith,
      total-pick f xs a,
      total-pick f xs b,
      all,
      sum_over-take f xs (length xs),
      ap (total f) (take_all (length xs) xs (omega arith)),
    )

pub All-pick : {A : Type 0} (P : A → Type 0) (xs : List A) (places : List ℕ) → All P xs
    → All P (pick xs places)
All-pick P xs [] h = λ k d lt. absurd (omega (arith, lt))
All-pick P xs (at ∷ places) h =
    All-append P (take 1 (drop at xs)) (pick xs places) (All-take P 1 (drop at xs) (All-drop P at xs h))
    (All-pick P xs places h)
