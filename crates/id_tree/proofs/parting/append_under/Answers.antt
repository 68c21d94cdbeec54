-- Each object that is below the key comes behind those before it.
use Rattle.std.proofs.Common.{◌∙◌, ◌<◌, ◌≤◌, ◌++◌, ◌∷◌, [], List, Some, length, get_or, take, sym, ap, arith}
use Rattle.std.proofs.Common.{append_assoc, length-append, subst}
use Rattle.std.proofs.lemmas.List.{take_all}
use Rattle.bucket_page.specs.Layout.{Entry}
use Rattle.id_page.specs.Leaf.{leaf_at, IsTidyLeaf}
use Rattle.id_tree.specs.Halving.{under_key}
use Rattle.id_tree.proofs.PartingLemmas.{some_object, under_next, under_room, under_skip}
use Rattle.id_tree.proofs.parting.append_under.Goals as goal
use Rattle.id_tree.proofs.parting.append_under.Goals.{then-id_at-key, else-id_at-key}

pub loop-place-preserved : goal.loop-place-preserved
loop-place-preserved g c = record {
  appended = λ objects more is there room.
      let place = c.loop-place.place in
      let key = c.args.key in
      let within : place < length more =
      omega (arith, c.loop-place-test.true, c.count_at-place-end.ensures.of_leaf g.row.D more there) in
      let before = c.loop-place.invariant.appended objects more is there room in
      let read = c.id_at.ensures.of_leaf more some_object there within in
      let so_far = under_key key (take place more) in
      elim c.if-id_at-key.branch [
        | then-id_at-key w ↦
            let less : (get_or more place some_object).0 < key = omega (arith, read, w.if-id_at-key) in
            let fits = under_room key place more within less in
            ap (leaf_at g.row.D) w.page-is
            ∙ w.push_from.ensures.pushed (objects ++ so_far) more some_object before there within
            (omega (arith, room, fits, length-append objects so_far))
            ∙ ap (λ (xs : List Entry). Some xs)
            (append_assoc objects so_far (get_or more place some_object ∷ [])
            ∙ ap (λ (xs : List Entry). objects ++ xs) (sym (under_next key place more within less)))
        | else-id_at-key w ↦
            ap (leaf_at g.row.D) w.page-is ∙ before
            ∙ ap (λ (xs : List Entry). Some (objects ++ xs))
            (sym (under_skip key place more within (omega (arith, read, w.if-id_at-key))))
      ];
  tidy = λ tidy. elim c.if-id_at-key.branch [
    | then-id_at-key w ↦ subst (IsTidyLeaf g.row.D) (sym w.page-is)
        (w.push_from.ensures.tidy (c.loop-place.invariant.tidy tidy))
    | else-id_at-key w ↦ subst (IsTidyLeaf g.row.D) (sym w.page-is) (c.loop-place.invariant.tidy tidy)
  ];
}

pub returns-clause-appended : goal.returns-clause-appended
returns-clause-appended g c = λ objects more is there room.
    let all : length more ≤ c.loop-place.place = omega
    (arith, c.loop-place-test.false, c.count_at-place-end.ensures.of_leaf g.row.D more there) in
    c.loop-place.invariant.appended objects more is there room
    ∙ ap (λ (xs : List Entry). Some (objects ++ under_key c.args.key xs))
    (take_all c.loop-place.place more all)

pub returns-clause-tidy : goal.returns-clause-tidy
returns-clause-tidy g c = c.loop-place.invariant.tidy
