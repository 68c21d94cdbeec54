-- Lists in the order of identifiers are the same where they have the same objects, each once.
use Rattle.std.proofs.Common.{◌∙◌, ℕ, List, rules, sym, subst}
use Rattle.std.specs.Prelude.{IsPermutation}
use Rattle.std.proofs.lemmas.List.Sorted.{All-permutation, IsNonDecreasingBy-from_sort_by_key}
use Rattle.std.proofs.lemmas.List.Sorted.{IsPermutation-sym, IsPermutation-trans}
use Rattle.box_math.specs.Bounds.{IsBox}
use Rattle.box_math.specs.Objects.{bounds_of}
use Rattle.bucket_page.specs.Layout.{Entry}
use Rattle.layer_pages.proofs.CheckLemmas.{in_order}
use Rattle.layer_pages.proofs.checking.have_same.Goals as goal

pub returns-clause-same : goal.returns-clause-same
returns-clause-same g c = λ yes.
    let held = c.sort_unstable_by_key.new.self in
    let listed = c.sort_unstable_by_key-2.new.self in
    IsPermutation-trans c.args.held.now held c.args.listed.now c.sort_unstable_by_key.ensures.permutation
    (subst (λ (os : List Entry). IsPermutation os c.args.listed.now) (sym (c.are_equal.ensures.equal.0 yes))
    (IsPermutation-sym c.args.listed.now listed c.sort_unstable_by_key-2.ensures.permutation))

pub returns-clause-boxes : goal.returns-clause-boxes
returns-clause-boxes g c = λ yes.
    let P : Entry → Type 0 = λ o. IsBox g.row.D (bounds_of o.1) in
    let held = c.sort_unstable_by_key.new.self in
    All-permutation P held c.args.held.now
    (IsPermutation-sym c.args.held.now held c.sort_unstable_by_key.ensures.permutation)
    (c.are_equal.ensures.boxes yes)

pub returns-clause-found : goal.returns-clause-found
returns-clause-found g c = λ objects held_are listed_are.
    let id_of : Entry → ℕ = λ o. o.0 in
    c.are_equal.ensures.equal.1
    (in_order c.args.held.now c.sort_unstable_by_key.new.self objects
    c.sort_unstable_by_key.ensures.permutation
    (IsNonDecreasingBy-from_sort_by_key id_of _ c.sort_unstable_by_key.ensures.sorted
    (λ a r q k. search rules)) held_are
    ∙ sym (in_order c.args.listed.now c.sort_unstable_by_key-2.new.self objects
    c.sort_unstable_by_key-2.ensures.permutation
    (IsNonDecreasingBy-from_sort_by_key id_of _ c.sort_unstable_by_key-2.ensures.sorted
    (λ a r q k. search rules)) listed_are))
