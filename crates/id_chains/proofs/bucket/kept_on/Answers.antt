-- The goals of `kept_on` that are proved by hand.
use Rattle.std.proofs.Common.{◌<◌, Some, length, ap, arith}
use Rattle.bucket_page.proofs.Reading.{no_head}
use Rattle.id_chains.proofs.BucketLemmas.{met, passed, some_object}
use Rattle.id_chains.proofs.bucket.kept_on.Goals as goal

pub returns-then-not-has_bucket_head : goal.returns-then-not-has_bucket_head
returns-then-not-has_bucket_head g c =
    record {
      of_bucket = λ content is. let none = no_head g.row.D c.args.page.now
          (λ head. let yes = c.has_bucket_head.ensures.1 head in absurd (cc)) in absurd (cc);
      head = tt;
    }

pub returns-in-Some : goal.returns-in-Some
returns-in-Some g c = record {
  of_bucket = λ content is.
      let within : c.loop-place.place < length content.entries =
      omega (arith, c.loop-place-test.true, c.count_at-place-end.ensures.of_bucket g.row.D content is) in
      ap Some (met c.args.id c.id_at.result c.loop-place.place content.entries c.in-Some.object within
      (c.id_at.ensures.of_bucket content some_object is within) c.if-id_at-id.true
      (c.in-Some.ensures.of_bucket content some_object is within) (c.loop-place.invariant content is));
  head = c.has_bucket_head.ensures.0 c.if-not-has_bucket_head.false;
}

pub loop-place-preserved : goal.loop-place-preserved
loop-place-preserved g c = λ content is.
    let within : c.loop-place.place < length content.entries =
    omega (arith, c.loop-place-test.true, c.count_at-place-end.ensures.of_bucket g.row.D content is) in
    passed c.args.id c.id_at.result c.loop-place.place content.entries within
    (c.id_at.ensures.of_bucket content some_object is within) c.if-id_at-id.false
    (c.loop-place.invariant content is)
