-- Each object that is below the key is counted.
use Rattle.std.proofs.Common.{◌∙◌, ◌<◌, ◌≤◌, ◌∷◌, [], List, length, get_or, take, ap, arith, length-append}
use Rattle.std.proofs.lemmas.List.{take_all}
use Rattle.bucket_page.specs.Layout.{Entry}
use Rattle.id_tree.specs.Halving.{under_key}
use Rattle.id_tree.proofs.PartingLemmas.{some_object, under_next, under_skip}
use Rattle.id_tree.proofs.parting.count_under.Goals as goal
use Rattle.id_tree.proofs.parting.count_under.Goals.{then-id_at-key, else-id_at-key}

pub loop-place-preserved : goal.loop-place-preserved
loop-place-preserved g c =
    let place = c.loop-place.place in
    let key = c.args.key in
    record {
      counted = λ objects is.
          let within : place < length objects =
          omega (arith, c.loop-place-test.true, c.count_at-place-end.ensures.of_leaf g.row.D objects is)
          in
          let before = c.loop-place.invariant.counted objects is in
          let read = c.id_at.ensures.of_leaf objects some_object is within in
          elim c.if-id_at-key.branch [
            | then-id_at-key w ↦
                let more =
                ap length (under_next key place objects within (omega (arith, read, w.if-id_at-key))) in
                omega (
                  arith,
                  before,
                  more,
                  w.count-is,
                  length-append (under_key key (take place objects))
                      (get_or objects place some_object ∷ []),
                )
            | else-id_at-key w ↦
                let same =
                ap length (under_skip key place objects within (omega (arith, read, w.if-id_at-key))) in
                omega (arith, before, same, w.count-is)
          ];
      few = elim c.if-id_at-key.branch [
        | then-id_at-key w ↦ omega (arith, w.count-is, c.loop-place.invariant.few)
        | else-id_at-key w ↦ omega (arith, w.count-is, c.loop-place.invariant.few)
      ];
    }

pub returns-clause-count : goal.returns-clause-count
returns-clause-count g c = λ objects is.
    let all : length objects ≤ c.loop-place.place =
    omega (arith, c.loop-place-test.false, c.count_at-place-end.ensures.of_leaf g.row.D objects is) in
    c.loop-place.invariant.counted objects is ∙ ap (λ (xs : List Entry). length (under_key c.args.key xs))
    (take_all c.loop-place.place objects all)
