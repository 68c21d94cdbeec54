-- The elements at some positions, one by one, and all of them in another order.
use Rattle.std.proofs.Common.{◌≡◌, ℕ, suc, ◌+◌, ◌<◌, List, [], ◌∷◌, ◌++◌, length, get_or, take, drop, refl}
use Rattle.std.proofs.Common.{ap, arith, subst, sym, ◌∙◌, append_assoc, append-nil, drop-cons}
use Rattle.std.specs.Prelude.{map, IsPermutation}
use Rattle.std.specs.List.{All, range_with_len}
use Rattle.std.proofs.lemmas.Grind.{take_at_read}
use Rattle.std.proofs.lemmas.List.{length-map}
use Rattle.std.proofs.lemmas.List.FromFn.{fill_by_all}
use Rattle.std.proofs.lemmas.List.Sorted.{IsPermutation-map}
use Rattle.tree_node.specs.Positions.{pick}

pub pick-append : {A : Type 0} (xs : List A) (ps qs : List ℕ) → pick xs (ps ++ qs) ≡ pick xs ps ++ pick xs qs
pick-append xs [] qs = refl
pick-append xs (p ∷ ps) qs = ap (λ ys. take 1 (drop p xs) ++ ys) (pick-append xs ps qs)
    ∙ sym (append_assoc (take 1 (drop p xs)) (pick xs ps) (pick xs qs))

pub one_at : {A : Type 0} (xs : List A) (p : ℕ) (d : A) → p < length xs
    → take 1 (drop p xs) ≡ get_or xs p d ∷ []
one_at xs p d h = rw (drop-cons xs p d)

pub pick-more : {A : Type 0} (xs : List A) (ps : List ℕ) (i : ℕ) (x : A) → i < length ps
    → get_or ps i 0 < length xs → x ≡ get_or xs (get_or ps i 0) x
    → pick xs (take i ps) ++ x ∷ [] ≡ pick xs (take (i + 1) ps)
pick-more xs ps i x within below is =
    let one : take 1 (drop (get_or ps i 0) xs) ≡ x ∷ [] = one_at xs (get_or ps i 0) x below
    ∙ ap (λ y. y ∷ []) (sym is) in
    sym (ap (pick xs) (take_at_read ps i 0 within).1 ∙ pick-append xs (take i ps) (get_or ps i 0 ∷ [])
    ∙ ap (λ ys. pick xs (take i ps) ++ ys) (append-nil _ ∙ one))

pub pick-map : {A : Type 0} (xs : List A) (d : A) (ps : List ℕ) → All (λ p. p < length xs) ps
    → pick xs ps ≡ map (λ p. get_or xs p d) ps
pick-map xs d [] all = refl
pick-map xs d (p ∷ ps) all =
    ap (λ ys. ys ++ pick xs ps) (one_at xs p d (all 0 0 (omega arith)))
    ∙ ap (λ ys. get_or xs p d ∷ ys) (pick-map xs d ps (λ k e h. all (suc k) e (omega arith)))

-- the elements at all places, in any order, are those of the whole
pub pick-permutation : {A : Type 0} (xs : List A) (d : A) (ps : List ℕ) → All (λ p. p < length xs) ps
    → IsPermutation (range_with_len 0 (length xs)) ps → IsPermutation xs (pick xs ps)
pick-permutation xs d ps all perm =
    let whole : xs ≡ map (λ p. get_or xs p d) (range_with_len 0 (length xs)) =
    fill_by_all (λ p. get_or xs p d) xs (length xs) d refl (λ k h. refl) in
    subst (λ ys. IsPermutation ys (pick xs ps)) (sym whole)
    (subst (IsPermutation (map (λ p. get_or xs p d) (range_with_len 0 (length xs))))
    (sym (pick-map xs d ps all)) (IsPermutation-map (λ p. get_or xs p d) _ _ perm))

-- there is one for each position
pub length-pick : {A : Type 0} (xs : List A) (d : A) (ps : List ℕ) → All (λ p. p < length xs) ps
    → length (pick xs ps) ≡ length ps
length-pick xs d ps all = ap length (pick-map xs d ps all) ∙ length-map ps (λ p. get_or xs p d)
