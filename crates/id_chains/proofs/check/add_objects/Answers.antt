-- The goals of `add_objects` that are proved by hand: an object more, and one that cannot be of a chain.
use Rattle.std.proofs.Common.{◌≡◌, ◌∙◌, ◌+◌, ◌<◌, ◌++◌, ◌∷◌, [], All, ap, arith, below_more, refl, subst, sym}
use Rattle.block_bytes.specs.Numbers.{number_at}
use Rattle.block_bytes.specs.PlaceLaws.{first_places-more, first_places-none}
use Rattle.bucket_page.specs.Layout.{HasOrderedBox, object_at, objects_at, Entry}
use Rattle.bucket_page.proofs.Reading.{spells}
use Rattle.id_words.specs.Objects.{times_in}
use Rattle.id_chains.specs.Table.{class_of}
use Rattle.id_chains.proofs.CheckLemmas.{adds_none, adds_one, placed_at, times_places}
use Rattle.id_chains.proofs.PlaceLemmas.{here_at}
use Rattle.id_chains.proofs.check.add_objects.Goals as goal

pub loop-place-init : goal.loop-place-init
loop-place-init g c = record {
  ordered = λ k lt. absurd (omega (arith, lt));
  added = adds_none c.args.class (objects_at g.row.D c.args.page.now 0) c.args.pairs.now.items
      c.args.seen.now (first_places-none (object_at g.row.D c.args.page.now));
}

pub returns-then-not-branch-clause-stands : goal.returns-then-not-branch-clause-stands
returns-then-not-branch-clause-stands g c = λ content is placed single.
    let page = c.args.page.now in
    let at = object_at g.row.D page in
    let count = number_at 2 2 page in
    let place = c.loop-place.place in
    let lt : place < count = omega (arith, c.loop-place-test.true, c.count_at-place-end.ensures.value) in
    let entries = (spells g.row.D page content is).entries in
    let class_is =
    placed_at (λ (object : Entry). class_of object.0 ≡ c.args.class) at place count lt
    (subst (All (λ (object : Entry). class_of object.0 ≡ c.args.class)) entries placed) in
    let object_is = c.in-Some.ensures.value in
    let id = c.in-Some.object.0 in
    let seen =
    c.in_ok-sees_new.ensures.known c.if-not-branch.true
    (ap (λ (object : Entry). class_of object.0) object_is ∙ class_is) in
    let here = here_at (at place).0 id (ap (λ (object : Entry). object.0) (sym object_is)) in
    let times = ap (times_in id) entries in
    absurd (omega (
      arith,
      seen,
      c.loop-place.invariant.added.seen_are id,
      times_places id at place count lt,
      here,
      times,
      single id,
    ))

pub loop-place-preserved : goal.loop-place-preserved
loop-place-preserved g c =
    let page = c.args.page.now in
    let place = c.loop-place.place in
    let before = c.loop-place.invariant in
    let x = c.in-Some.object in
    let sees = c.in_ok-sees_new.ensures.new c.if-not-branch.false in
    record {
      ordered =
          below_more (λ k. HasOrderedBox g.row.D (object_at g.row.D page k)) place before.ordered
          (c.in-Some.ensures.some.0 refl);
      added = adds_one c.args.class (objects_at g.row.D page place) (objects_at g.row.D page (place + 1))
          c.args.pairs.now.items c.loop-place.pairs.items c.push.new.self.items c.args.seen.now
          c.loop-place.seen c.sees_new.new.seen x
          before.added sees.0 c.in_ok-push.ensures.items sees.1
          (first_places-more (object_at g.row.D page) place
          ∙ ap (λ (y : Entry). objects_at g.row.D page place ++ y ∷ []) (sym c.in-Some.ensures.value));
    }
