-- Each object of the leaf comes behind those before it.
use Rattle.std.proofs.Common.{◌≡◌, ◌∙◌, ◌<◌, ◌≤◌, ◌++◌, ◌∷◌, [], ℕ, cond, eqb, List, Some, get_or, take}
use Rattle.std.proofs.Common.{length, sym, ap, subst, arith}
use Rattle.std.proofs.lemmas.List.{take_all, take_more}
use Rattle.std.proofs.lemmas.List.Elements.{All-get_or}
use Rattle.bucket_page.specs.Layout.{Entry}
use Rattle.id_page.proofs.LeafReading.{count_of_leaf}
use Rattle.id_tree.specs.Checked.{AddsObjects, most_identifier}
use Rattle.id_tree.proofs.CheckLemmas.{objects_none, objects_one, place_times}
use Rattle.id_tree.proofs.NodeLemmas.{occurs_here}
use Rattle.id_tree.proofs.PartingLemmas.{some_object}
use Rattle.id_tree.proofs.check.add_objects.Goals as goal

pub loop-place-init : goal.loop-place-init
loop-place-init g c = λ objects is. objects_none c.args.low c.args.top c.args.pairs.now.items c.args.seen.now

same_object : (x y : Entry) → ◌≡◌ {A = _} (Some x) (Some y) → x ≡ y
same_object x y e = cc

pub returns-in_default-clause-stands : goal.returns-in_default-clause-stands
returns-in_default-clause-stands g c = λ objects is from upto single.
    let place = c.loop-place.place in
    let within : place < length objects =
    omega (
      arith,
      c.loop-place-test.true,
      c.count_at-place-end.ensures.value,
      count_of_leaf g.row.D
          c.args.page.now objects is,
    ) in
    let some = c.object_at.ensures.of_leaf objects some_object is within in
    let none = c.in_default.is in
    absurd (cc)

pub returns-then-not-new-clause-stands : goal.returns-then-not-new-clause-stands
returns-then-not-new-clause-stands g c = λ objects is from upto single.
    let place = c.loop-place.place in
    let within : place < length objects =
    omega (
      arith,
      c.loop-place-test.true,
      c.count_at-place-end.ensures.value,
      count_of_leaf g.row.D
          c.args.page.now objects is,
    ) in
    let x = get_or objects place some_object in
    let some = c.object_at.ensures.of_leaf objects some_object is within in
    let here : c.in-Some.object ≡ x = same_object c.in-Some.object x (sym c.in-Some.is ∙ some) in
    let id = c.in-Some.object.0 in
    let low : c.args.low ≤ id = subst (λ (o : Entry). c.args.low ≤ o.0) (sym here)
    (All-get_or (λ (o : Entry). c.args.low ≤ o.0) objects place some_object within from) in
    let top : c.args.top < most_identifier → id ≤ c.args.top =
    λ small. subst (λ (o : Entry). o.0 ≤ c.args.top) (sym here)
    (All-get_or (λ (o : Entry). o.0 ≤ c.args.top) objects place some_object within (upto small)) in
    let seen = c.in_ok-new.ensures.known c.if-not-new.true low top in
    let so_far = c.loop-place.invariant objects is in
    let one : ◌≡◌ {A = ℕ} (cond (eqb x.0 id) 1 0) 1 = ap (λ (o : Entry). cond (eqb o.0 id) 1 0) (sym here)
    ∙ occurs_here id in
    absurd (omega
    (arith, seen, so_far.seen_are id, place_times id place objects some_object within, one, single id))

pub loop-place-preserved : goal.loop-place-preserved
loop-place-preserved g c = λ objects is.
    let place = c.loop-place.place in
    let within : place < length objects =
    omega (
      arith,
      c.loop-place-test.true,
      c.count_at-place-end.ensures.value,
      count_of_leaf g.row.D
          c.args.page.now objects is,
    ) in
    let x = get_or objects place some_object in
    let some = c.object_at.ensures.of_leaf objects some_object is within in
    let here : c.in-Some.object ≡ x = same_object c.in-Some.object x (sym c.in-Some.is ∙ some) in
    let in_range = c.in_ok-new.ensures.within c.if-not-new.false in
    let sees = c.in_ok-new.ensures.new c.if-not-new.false in
    subst (λ (os : List Entry). AddsObjects c.args.low c.args.top os c.args.pairs.now.items
    c.push.new.self.items c.args.seen.now c.sees_new.new.seen)
    (ap (λ (o : Entry). take place objects ++ o ∷ []) here ∙ sym (take_more objects place some_object within))
    (objects_one c.args.low c.args.top (take place objects) c.args.pairs.now.items c.loop-place.pairs.items
    c.push.new.self.items c.args.seen.now c.loop-place.seen c.sees_new.new.seen c.in-Some.object
    (c.loop-place.invariant objects is) in_range.0 in_range.1 c.in_ok-push.ensures.items sees)

pub returns-clause-found : goal.returns-clause-found
returns-clause-found g c = λ objects is.
    let all : length objects ≤ c.loop-place.place =
    omega (
      arith,
      c.loop-place-test.false,
      c.count_at-place-end.ensures.value,
      count_of_leaf g.row.D
          c.args.page.now objects is,
    ) in
    subst (λ (os : List Entry). AddsObjects c.args.low c.args.top os c.args.pairs.now.items
    c.loop-place.pairs.items c.args.seen.now c.loop-place.seen) (take_all c.loop-place.place objects all)
    (c.loop-place.invariant objects is)
