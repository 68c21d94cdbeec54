-- Without its head, or with an object without a box, the page spells no bucket, and else that of its places.
use Rattle.std.proofs.Common.{◌≡◌, ◌+◌, ◌++◌, ◌∷◌, ℕ, List, [], length, true, false, refl, sym, ◌∙◌, ap}
use Rattle.std.proofs.Common.{arith, rules, below_more, Some, slice_index, ◌<◌}
use Rattle.block_bytes.specs.PlaceLaws.{first_places-more, first_places-none, length-first_places}
use Rattle.bucket_page.specs.Layout.{BucketContent, Entry, object_at, objects_at, HasOrderedBox}
use Rattle.bucket_page.proofs.Named.{spells_buckets}
use Rattle.bucket_page.proofs.Reading.{spells, no_head, no_place, all_places}
use Rattle.bucket_page.proofs.page.decode.Goals as goal

pub returns-then-not-has_bucket_head-clause-spelled : goal.returns-then-not-has_bucket_head-clause-spelled
returns-then-not-has_bucket_head-clause-spelled g c =
    sym (no_head g.row.D c.args.page.now
    (λ head. let found : c.has_bucket_head.result ≡ true = c.has_bucket_head.ensures.1 head in cc))

pub loop-place-init : goal.loop-place-init
loop-place-init g c = record {
  read = c.new-entries.ensures ∙ sym (first_places-none (object_at g.row.D c.args.page.now));
  many = ap length c.new-entries.ensures;
  ordered = λ k lt. absurd (omega arith);
}

pub returns-in-None-clause-spelled : goal.returns-in-None-clause-spelled
returns-in-None-clause-spelled g c =
    sym (no_place g.row.D c.loop-place.place c.args.page.now (omega arith)
    (λ is. let found : false ≡ true = c.in-None.ensures.some.1 is in cc))

pub loop-place-preserved : goal.loop-place-preserved
loop-place-preserved g c =
    let before = c.loop-place.invariant in
    let D = g.row.D in
    let page = c.args.page.now in
    let place = c.loop-place.place in
    let all : c.push.new.self.items ≡ objects_at D page (place + 1) =
    c.push.ensures.items ∙ ap (λ (xs : List (Entry)). xs ++ c.in-Some.entry ∷ []) before.read
    ∙ ap (λ (x : Entry). objects_at D page place ++ x ∷ []) c.in-Some.ensures.value
    ∙ sym (first_places-more (object_at D page) place) in record {
      read = all;
      many = ap length all ∙ length-first_places (object_at D page) (place + 1);
      ordered =
          below_more (λ k. HasOrderedBox D (object_at D page k)) place before.ordered
          (c.in-Some.ensures.some.0 refl);
    }

pub returns-clause-spelled : goal.returns-clause-spelled
returns-clause-spelled g c =
    ap (λ (es : List (Entry)). Some (record { next = c.next_at.result; entries = es }))
    c.loop-place.invariant.read
    ∙ sym (all_places g.row.D c.loop-place.place c.next_at.result c.args.page.now
    (c.has_bucket_head.ensures.0 c.if-not-has_bucket_head.false) (omega arith) c.next_at.ensures.value
    c.loop-place.invariant.ordered)

pub returns-clause-is_bucket : goal.returns-clause-is_bucket
returns-clause-is_bucket g c =
    let bytes : (k : ℕ) → slice_index c.args.page.now k < 256 = search rules in
    let bucket : BucketContent = record { next = c.next_at.result; entries = c.loop-place.entries.items } in
    spells_buckets g.row.D c.args.page.now bucket bytes
    (spells g.row.D c.args.page.now bucket (sym (returns-clause-spelled g c)))
