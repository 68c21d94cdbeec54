-- The goals of `push_nearest` that are proved by hand.
use Rattle.std.proofs.Common.{◌<◌, ◌∷◌, List, All, IsPermutation, get_or, length, sym, subst}
use Rattle.std.proofs.lemmas.List.Sorted.{IsPermutation-swap_remove}
use Rattle.nearest.specs.declared.candidate.Candidate.{Candidate}
use Rattle.nearest.specs.Candidates.{IsAsFar}
use Rattle.nearest.proofs.SearchLemmas.{nearest_leads, nearest_moved}
use Rattle.nearest.proofs.search.push_nearest.Goals as goal

pub returns-clause-all : goal.returns-clause-all
returns-clause-all g c =
    let fresh = c.args.fresh.now.items in
    let x = c.swap_remove.result in
    let within : c.nearest_place-place.result < length fresh =
    subst (λ (cs : List Candidate). c.nearest_place-place.result < length cs) c.as_slice.ensures.value
    c.nearest_place-place.ensures.within in
    let out =
    IsPermutation-swap_remove fresh c.nearest_place-place.result x within c.swap_remove.ensures.value in
    nearest_moved fresh c.swap_remove.new.self.items c.args.queue.now c.push.new.self x
    (subst (λ (cs : List Candidate). IsPermutation fresh (x ∷ cs)) (sym c.swap_remove.ensures.items) out)
    c.in_ok-push.ensures.ok

pub returns-clause-led : goal.returns-clause-led
returns-clause-led g c = λ d.
    let fresh = c.args.fresh.now.items in
    let x = c.swap_remove.result in
    let within : c.nearest_place-place.result < length fresh =
    subst (λ (cs : List Candidate). c.nearest_place-place.result < length cs) c.as_slice.ensures.value
    c.nearest_place-place.ensures.within in
    let out =
    IsPermutation-swap_remove fresh c.nearest_place-place.result x within c.swap_remove.ensures.value in
    let least : All (IsAsFar (get_or fresh c.nearest_place-place.result x).distance) fresh =
    subst (λ (cs : List Candidate). All (IsAsFar (get_or cs c.nearest_place-place.result x).distance) cs)
    c.as_slice.ensures.value (c.nearest_place-place.ensures.nearest x) in
    nearest_leads fresh c.swap_remove.new.self.items c.args.queue.now c.push.new.self x d
    (subst (λ (y : Candidate). All (IsAsFar y.distance) fresh) (sym c.swap_remove.ensures.value) least)
    (subst (λ (cs : List Candidate). IsPermutation fresh (x ∷ cs)) (sym c.swap_remove.ensures.items) out)
    c.in_ok-push.ensures.ok
