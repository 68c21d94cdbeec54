-- The goals of `into_rows` that are proved by hand.
use Rattle.std.proofs.Common.{◌∙◌, ◌∷◌, ◌++◌, ◌<◌, ℕ, List, [], length, map, take, ap, sym, arith}
use Rattle.std.proofs.lemmas.List.{map_more, take_all}
use Rattle.nearest.specs.declared.candidate.Object.{Object}
use Rattle.nearest.proofs.QueueLemmas.{row_of, rows_in_order}
use Rattle.nearest.proofs.best.Best.into_rows.Goals as goal

pub loop-place-preserved : goal.loop-place-preserved
loop-place-preserved g c =
    let objects = c.into_sorted_vec-objects.result.items in
    let within : c.loop-place.place < length objects =
    omega (
      arith,
      c.loop-place-test.true,
      c.len-place-end.ensures,
      c.into_sorted_vec-objects.result.ok.0,
    ) in
    let more = map_more row_of objects c.loop-place.place c.index-object.result.now within in
    c.in_ok-push.ensures.items
    ∙ ap (λ (rs : List (ℕ × ℕ)). rs ++ row_of c.index-object.result.now ∷ []) c.loop-place.invariant
    ∙ ap (λ (o : Object). map row_of (take c.loop-place.place objects) ++ row_of o ∷ [])
    c.index-object.ensures ∙ sym more

pub returns-clause-rows : goal.returns-clause-rows
returns-clause-rows g c =
    let sorted = c.into_sorted_vec-objects.result.items in
    let all =
    take_all c.loop-place.place sorted
    (omega (
      arith,
      c.loop-place-test.false,
      c.len-place-end.ensures,
      c.into_sorted_vec-objects.result.ok.0,
    )) in
    c.loop-place.invariant ∙ ap (map row_of) all
    ∙ rows_in_order c.self.inside.heap.data.items sorted c.into_sorted_vec-objects.ensures.permutation
    (c.into_sorted_vec-objects.ensures.sorted c.self.invariant) ∙ c.self.view_is
