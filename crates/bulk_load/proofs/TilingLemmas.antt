-- The runs of a tiling: what they hold together, and how long they are.
use Rattle.std.proofs.Common.{◌≡◌, ◌∙◌, ℕ, zero, suc, ◌+◌, ◌-◌, ◌/◌, ◌<◌, ◌≤◌, List, [], ◌∷◌, ◌++◌, length}
use Rattle.std.proofs.Common.{map, All, IsPermutation, refl, sym, ap, subst, ⊎_elim, arith}
use Rattle.std.specs.Int.{div_ceil}
use Rattle.std.proofs.lemmas.Bool.{cases_lt}
use Rattle.std.proofs.lemmas.List.{append-nil}
use Rattle.std.proofs.lemmas.List.Concat.{flat_map-append}
use Rattle.std.proofs.lemmas.List.Elements.{All-append, All-cons, All-nil, All-tail}
use Rattle.std.proofs.lemmas.List.Sorted.{IsPermutation-append, IsPermutation-refl, IsPermutation-trans}
use Rattle.std.proofs.Math.Nat.{mul-le-mul_left}
use Rattle.tree_node.specs.Nodes.{Item}
use Rattle.bulk_load.specs.Sorting.{sorted_on}
use Rattle.bulk_load.specs.Tiling.{EachTiled, IsLeastRoot, IsTiledOn, even_sizes, joined, one_run}
use Rattle.bulk_load.specs.TilingLaws.{IsFair, RunsAreFair, RunsHoldEach}
use Rattle.bulk_load.proofs.SortLemmas.{sorted_permutes, length-sorted}
use Rattle.bulk_load.proofs.CutLemmas.{cells_enough, cells_fewest, cells_two, even_lower, even_upper}
use Rattle.bulk_load.proofs.CutLemmas.{fewer_are_larger, half_full, root_few, root_of_one, root_some}

pub one_run_holds : {A : Type 0} (xs : List A) → joined (one_run xs) ≡ xs
one_run_holds [] = refl
one_run_holds (x ∷ xs) = append-nil (x ∷ xs)

pub one_run_is : {A : Type 0} (xs : List A) → 0 < length xs → one_run xs ≡ xs ∷ []
one_run_is [] some = absurd (omega (arith, some))
one_run_is (x ∷ xs) some = refl

-- ---- each element once

pub joined_append : {A : Type 0} (xs ys : List (List A)) → joined (xs ++ ys) ≡ joined xs ++ joined ys
joined_append xs ys = flat_map-append (λ run. run) xs ys

each_holds : {A : Type 0} (tiled : List A → List (List A) → Type 0)
    → ((slab : List A) (runs : List (List A)) → tiled slab runs → IsPermutation slab (joined runs))
    → (slabs runs : List (List A)) → EachTiled tiled slabs runs → IsPermutation (joined slabs) (joined runs)
each_holds {A} tiled one [] runs each =
    subst (λ (rs : List (List A)). IsPermutation [] (joined rs)) (sym each) (IsPermutation-refl [])
each_holds {A} tiled one (slab ∷ slabs) runs each =
    let first = each.0 in
    let later = each.1.0 in
    subst (λ (rs : List A). IsPermutation (slab ++ joined slabs) rs)
    (sym (joined_append first later) ∙ ap (λ (rs : List (List A)). joined rs) (sym each.1.1.0))
    (IsPermutation-append slab (joined first) (joined slabs) (joined later) (one slab first each.1.1.1)
    (each_holds tiled one slabs later each.1.1.2))

pub holds_on : {A : Type 0} (item : A → Item) (dims most axes : ℕ) (xs : List A) (runs : List (List A))
    → IsTiledOn item dims most axes xs runs → IsPermutation xs (joined runs)
holds_on {A} item dims most zero xs runs tiled =
    subst (λ (rs : List (List A)). IsPermutation xs (joined rs)) (sym tiled)
    (subst (λ (ys : List A). IsPermutation xs ys) (sym (append-nil xs)) (IsPermutation-refl xs))
holds_on {A} item dims most (suc axes) xs runs tiled = ⊎_elim
    (λ (more : most < length xs). let s = tiled.1 more in
    let order = sorted_on item dims (dims - suc axes) xs in
    IsPermutation-trans xs order (joined runs) (sorted_permutes item dims (dims - suc axes) xs)
    (subst (λ (ys : List A). IsPermutation ys (joined runs)) s.cut.whole
    (each_holds (IsTiledOn item dims most axes) (λ slab rs t. holds_on item dims most axes slab rs t) s.slabs
    runs s.each)))
    (λ (few : length xs ≤ most). subst (λ (rs : List (List A)). IsPermutation xs (joined rs))
    (sym (tiled.0 few))
    (subst (λ (ys : List A). IsPermutation xs ys) (sym (one_run_holds xs)) (IsPermutation-refl xs)))
    (cases_lt most (length xs))

pub runs_hold_each : RunsHoldEach
runs_hold_each dims most xs runs tiled = holds_on (λ x. x) dims most dims xs runs tiled

-- ---- how long they are

each_fair : {A : Type 0} (most : ℕ) (tiled : List A → List (List A) → Type 0) (P : ℕ → Type 0)
    → ((slab : List A) (runs : List (List A)) → P (length slab) → tiled slab runs → All (IsFair most) runs)
    → (slabs runs : List (List A)) → All P (map length slabs) → EachTiled tiled slabs runs
    → All (IsFair most) runs
each_fair {A} most tiled P one [] runs long each =
    subst (λ (rs : List (List A)). All (IsFair most) rs) (sym each) (All-nil (IsFair most))
each_fair {A} most tiled P one (slab ∷ slabs) runs long each =
    let first = each.0 in
    let later = each.1.0 in
    subst (λ (rs : List (List A)). All (IsFair most) rs) (sym each.1.1.0)
    (All-append (IsFair most) first later (one slab first (long 0 0 (omega arith)) each.1.1.1)
    (each_fair most tiled P one slabs later (All-tail P (length slab) (map length slabs) long) each.1.1.2))

-- a slab is at least half a node, and on no further axis at most one
abbrev IsSlabSize : ℕ → ℕ → ℕ → Type 0
IsSlabSize most axes k = ((most + 1) / 2 ≤ k) × (axes ≡ 0 → k ≤ most)

pub slab_sizes : (n most axes count : ℕ) → 0 < most → most < n
    → IsLeastRoot (suc axes) (div_ceil n most) count → All (IsSlabSize most axes) (even_sizes n count)
slab_sizes n most axes count some more root =
    let cells = div_ceil n most in
    let two = cells_two n most some more in
    let here : 0 < cells = omega (arith, two) in
    let least = root_some axes cells count here root in
    let half : (most + 1) / 2 ≤ n / count =
    omega (
      arith,
      half_full n cells most two (cells_fewest n most some (omega arith)),
      fewer_are_larger n count cells least (root_few axes cells count here root),
    ) in
    λ k d below. (
      omega (arith, half, even_lower n count k d below),
      λ last. even_upper n count most least
          (let enough =
          root_of_one cells count (subst (λ (a : ℕ). IsLeastRoot (suc a) cells count) last root) in
          omega (arith, mul-le-mul_left most enough, cells_enough n most some)) k d below,
    )

pub fair_on : {A : Type 0} (item : A → Item) (dims most axes : ℕ) (xs : List A) (runs : List (List A))
    → 0 < most → IsSlabSize most axes (length xs)
    → IsTiledOn item dims most axes xs runs → All (IsFair most) runs
fair_on {A} item dims most zero xs runs some size tiled =
    subst (λ (rs : List (List A)). All (IsFair most) rs) (sym tiled)
    (All-cons (IsFair most) xs [] (size.0, size.1 refl) (All-nil (IsFair most)))
fair_on {A} item dims most (suc axes) xs runs some size tiled = ⊎_elim
    (λ (more : most < length xs). let s = tiled.1 more in
    let sizes : map length s.slabs ≡ even_sizes (length xs) s.count = s.cut.sizes
    ∙ ap (λ (n : ℕ). even_sizes n s.count) (length-sorted item dims (dims - suc axes) xs) in
    each_fair most (IsTiledOn item dims most axes) (IsSlabSize most axes)
    (λ slab rs p t. fair_on item dims most axes slab rs some p t) s.slabs runs
    (subst (λ (ks : List ℕ). All (IsSlabSize most axes) ks) (sym sizes)
    (slab_sizes (length xs) most axes s.count some more s.root)) s.each)
    (λ (few : length xs ≤ most). subst (λ (rs : List (List A)). All (IsFair most) rs)
    (sym (tiled.0 few ∙ one_run_is xs (omega arith)))
    (All-cons (IsFair most) xs [] (size.0, few) (All-nil (IsFair most))))
    (cases_lt most (length xs))

one_run_few : {A : Type 0} (xs : List A) → length (one_run xs) ≤ 1
one_run_few [] = omega arith
one_run_few (x ∷ xs) = omega arith

-- more than one run is of more than the most elements
pub many_runs : {A : Type 0} (item : A → Item) (dims most axes : ℕ) (xs : List A) (runs : List (List A))
    → 0 < axes → IsTiledOn item dims most axes xs runs → 1 < length runs → most < length xs
many_runs {A} item dims most zero xs runs some tiled many = absurd (omega (arith, some))
many_runs {A} item dims most (suc axes) xs runs some tiled many = ⊎_elim
    (λ (more : most < length xs). more)
    (λ (few : length xs ≤ most). absurd
    (omega (arith, many, one_run_few xs, ap (λ (rs : List (List A)). length rs) (tiled.0 few))))
    (cases_lt most (length xs))

pub runs_are_fair : RunsAreFair
runs_are_fair dims most xs runs is some tiled many =
    let more = many_runs (λ (x : Item). x) dims most dims xs runs (omega (arith, is.0)) tiled many in
    fair_on (λ x. x) dims most dims xs runs some (omega arith, λ none. absurd (omega (arith, is.0, none)))
    tiled
