-- Two lists of objects of which each sum over the elements is the same have the same elements.
use Rattle.std.proofs.Common.{◌≡◌, ℕ, ◌+◌, ◌<◌, ℤ, Bool, true, false, cond, eqb, int_le, ◌&&◌, List, [], ◌∷◌}
use Rattle.std.proofs.Common.{refl, ap, subst, arith}
use Rattle.std.proofs.lemmas.Bool.{false≢true}
use Rattle.std.proofs.lemmas.Bool.Decides.{nat_tests}
use Rattle.std.proofs.lemmas.Int.{ints}
use Rattle.std.specs.List.Sorted.{IsPermutation}
use Rattle.std.proofs.lemmas.List.Sorted.{IsPermutation-refl, IsPermutation-cons, IsPermutation-trans}
use Rattle.std.proofs.lemmas.List.Sorted.{IsPermutation-to_front, IsPermutation-append_left}
use Rattle.box_math.specs.Bounds.{Bounds}
use Rattle.box_math.specs.Objects.{Object, bounds_of, tag_of}
use Rattle.box_math.proofs.BoxLaws.{bounds_same}
use Rattle.tree_node.specs.Laws.{EqualSumsPermute}
use Rattle.tree_node.specs.Positions.{total}

module _ {X : Type 0} (same : X → X → Bool) (tells : (x y : X) → same x y ≡ true → x ≡ y)
    (itself : (x : X) → same x x ≡ true) where
  -- how often an element occurs
  abbrev count : X → List X → ℕ
  count x ys = total (λ y. cond (same x y) 1 0) ys

  -- an element that occurs can be put to the front
  record Front (x : X) (ys : List X) : Type 0 where
    others : List X
    moved : IsPermutation (x ∷ others) ys
    sums : (f : X → ℕ) → total f ys ≡ f x + total f others

  swapped : (x y : X) (zs : List X) → IsPermutation (x ∷ y ∷ zs) (y ∷ x ∷ zs)
  swapped x y zs = IsPermutation-append_left zs (x ∷ y ∷ []) (y ∷ x ∷ []) (IsPermutation-to_front (x ∷ []) y)

  front_test : (b : Bool) (x y : X) (ys : List X) → (b ≡ true → x ≡ y) → 0 < cond b 1 0 + count x ys
      → (0 < count x ys → Front x ys) → Front x (y ∷ ys)
  front_test true x y ys is there later = record {
    others = ys;
    moved = subst (λ z. IsPermutation (x ∷ ys) (z ∷ ys)) (is refl) (IsPermutation-refl (x ∷ ys));
    sums = λ f. omega (arith, ap f (is refl));
  }
  front_test false x y ys is there later =
      let f = later (omega (arith, there)) in
      record {
        others = y ∷ f.others;
        moved = IsPermutation-trans (x ∷ y ∷ f.others) (y ∷ x ∷ f.others) (y ∷ ys) (swapped x y f.others)
            (IsPermutation-cons y (x ∷ f.others) ys f.moved);
        sums = λ g. omega (arith, f.sums g);
      }

  front : (x : X) (ys : List X) → 0 < count x ys → Front x ys
  front x [] there = absurd (omega (arith, there))
  front x (y ∷ ys) there = front_test (same x y) x y ys (tells x y) there (front x ys)

  pub permutation_of_sums : (xs ys : List X) → ((f : X → ℕ) → total f xs ≡ total f ys) → IsPermutation xs ys
  permutation_of_sums [] [] sums = IsPermutation-refl []
  permutation_of_sums [] (y ∷ ys) sums = absurd (omega (arith, sums (λ x. 1)))
  permutation_of_sums (x ∷ xs) ys sums =
      let once : ◌≡◌ {A = ℕ} (cond (same x x) 1 0) 1 = rw (itself x) refl in
      let f = front x ys (omega (arith, sums (λ y. cond (same x y) 1 0), once)) in
      let rest : (g : X → ℕ) → total g xs ≡ total g f.others = λ g. omega (arith, sums g, f.sums g) in
      IsPermutation-trans (x ∷ xs) (x ∷ f.others) ys
      (IsPermutation-cons x xs f.others (permutation_of_sums xs f.others rest)) f.moved

-- ---- a test of objects

both : (a b : Bool) → a && b ≡ true → (a ≡ true) × (b ≡ true)
both true true e = (refl, refl)
both true false e = absurd (false≢true e)
both false b e = absurd (false≢true e)

abbrev same_number : ℤ → ℤ → Bool
same_number a b = int_le a b && int_le b a

same_number-tells : (a b : ℤ) → same_number a b ≡ true → a ≡ b
same_number-tells a b e = let u = both (int_le a b) (int_le b a) e in let low = u.0 in let high = u.1 in
    grind (arith, ints)

same_number-itself : (a : ℤ) → same_number a a ≡ true
same_number-itself a = let e : int_le a a ≡ true = grind (arith, ints) in rw e refl

abbrev same_point : List ℤ → List ℤ → Bool
same_point [] [] = true
same_point [] (q ∷ qs) = false
same_point (p ∷ ps) [] = false
same_point (p ∷ ps) (q ∷ qs) = same_number p q && same_point ps qs

same_point-tells : (ps qs : List ℤ) → same_point ps qs ≡ true → ps ≡ qs
same_point-tells [] [] e = refl
same_point-tells [] (q ∷ qs) e = absurd (false≢true e)
same_point-tells (p ∷ ps) [] e = absurd (false≢true e)
same_point-tells (p ∷ ps) (q ∷ qs) e =
    let u = both (same_number p q) (same_point ps qs) e in
    let first = same_number-tells p q u.0 in
    let rest = same_point-tells ps qs u.1 in
    cc

same_point-itself : (ps : List ℤ) → same_point ps ps ≡ true
same_point-itself [] = refl
same_point-itself (p ∷ ps) = rw (same_number-itself p) (same_point-itself ps)

abbrev same_kept : Object → Object → Bool
same_kept o p = eqb (tag_of o) (tag_of p)
    && (same_point (bounds_of o).low (bounds_of p).low && same_point (bounds_of o).high (bounds_of p).high)

kept_of : (s t : ℕ) (a b : Bounds) → s ≡ t → a.low ≡ b.low → a.high ≡ b.high → ◌≡◌ {A = Object} (a, s) (b, t)
kept_of s t a b e low high = let corners = bounds_same a b low high in cc

same_kept-tells : (o p : Object) → same_kept o p ≡ true → o ≡ p
same_kept-tells o p e =
    let a = bounds_of o in
    let b = bounds_of p in
    let u = both (eqb (tag_of o) (tag_of p)) (same_point a.low b.low && same_point a.high b.high) e in
    let v = both (same_point a.low b.low) (same_point a.high b.high) u.1 in
    let tag = u.0 in
    kept_of (tag_of o) (tag_of p) a b (grind (arith, nat_tests)) (same_point-tells a.low b.low v.0)
    (same_point-tells a.high b.high v.1)

same_kept-itself : (o : Object) → same_kept o o ≡ true
same_kept-itself o =
    let e : eqb (tag_of o) (tag_of o) ≡ true = grind (arith, nat_tests) in
    rw (e, same_point-itself (bounds_of o).low) (same_point-itself (bounds_of o).high)

abbrev same_object : ℕ × Object → ℕ × Object → Bool
same_object x y = eqb x.0 y.0 && same_kept x.1 y.1

object_of : (i j : ℕ) (o p : Object) → i ≡ j → o ≡ p → ◌≡◌ {A = ℕ × Object} (i, o) (j, p)
object_of i j o p e f = cc

same_object-tells : (x y : ℕ × Object) → same_object x y ≡ true → x ≡ y
same_object-tells x y e =
    let u = both (eqb x.0 y.0) (same_kept x.1 y.1) e in
    let id = u.0 in
    object_of x.0 y.0 x.1 y.1 (grind (arith, nat_tests)) (same_kept-tells x.1 y.1 u.1)

same_object-itself : (x : ℕ × Object) → same_object x x ≡ true
same_object-itself x = let e : eqb x.0 x.0 ≡ true = grind (arith, nat_tests) in rw e (same_kept-itself x.1)

pub equal_sums_permute : EqualSumsPermute
equal_sums_permute xs ys sums =
    permutation_of_sums same_object same_object-tells same_object-itself xs ys sums

pub ruleset object_laws = (equal_sums_permute)
