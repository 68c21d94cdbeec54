-- The goals of `add_bucket` that are proved by hand: what the page spells.
use Rattle.std.proofs.Common.{◌∙◌, ap, refl}
use Rattle.block_bytes.specs.Numbers.{number_at}
use Rattle.block_bytes.specs.PlaceLaws.{length-first_places}
use Rattle.bucket_page.specs.Layout.{object_at, objects_at}
use Rattle.bucket_page.proofs.Reading.{all_places, count_of_bucket, spells}
use Rattle.page_cache.specs.Cache.{given, next_of}
use Rattle.node_page.proofs.NodeLemmas.{at_error, page_refused}
use Rattle.id_chains.specs.Table.{bucket_in}
use Rattle.id_chains.proofs.BucketLemmas.{bucket_bytes}
use Rattle.id_chains.proofs.DamageLemmas.{damaged_or_memory}
use Rattle.id_chains.proofs.check.add_bucket.Goals as goal

pub returns-then-not-is_in_chain-clause-stands : goal.returns-then-not-is_in_chain-clause-stands
returns-then-not-is_in_chain-clause-stands g c = λ h content there follows.
    let is =
    bucket_bytes g.row.D (given c.args.cache.now c.args.bucket.number) c.in_ok-page.page.now content
    (c.in_ok-page.ensures.given_bytes h) there in
    let s = spells g.row.D c.in_ok-page.page.now content is in
    let good =
    c.is_in_chain.ensures.1
    (s.head, λ yes. count_of_bucket g.row.D c.in_ok-page.page.now content is ∙ follows.full yes) in
    absurd (cc)

pub returns-clause-found : goal.returns-clause-found
returns-clause-found g c = λ h.
    let page = c.in_ok-page.page.now in
    let count = number_at 2 2 page in
    let head = c.is_in_chain.ensures.0 c.if-not-is_in_chain.false in
    record {
      entries = objects_at g.row.D page count;
      low = c.in_ok-come_to.ensures.low;
      there = ap (bucket_in g.row.D) (c.in_ok-page.ensures.given_bytes h)
          ∙ all_places g.row.D count c.next_at.result page head.0 refl c.next_at.ensures.value
          c.in_ok-add_objects.ensures.ordered;
      full = λ yes. length-first_places (object_at g.row.D page) count ∙ head.1 yes;
      objects = c.in_ok-add_objects.ensures.found;
      visited = c.in_ok-come_to.ensures.added;
    }

pub returns-in_err-come_to-clause-damage : goal.returns-in_err-come_to-clause-damage
returns-in_err-come_to-clause-damage g c = λ h.
    let n = c.args.bucket.number in
    at_error c.from_residual.result c.in_err-come_to.field-0.0 _
    c.from_residual.ensures.1
    (damaged_or_memory c.in_err-come_to.field-0.0 n c.in_err-come_to.ensures.faults)

pub returns-in_err-page-clause-damage : goal.returns-in_err-page-clause-damage
returns-in_err-page-clause-damage g c = λ h.
    let n = c.args.bucket.number in
    at_error c.from_residual-in_err-page.result c.in_err-page.field-0.0
    _ c.from_residual-in_err-page.ensures.1
    (page_refused n (next_of c.args.cache.now) c.in_err-page.field-0.0 (c.in_err-page.ensures.faults h)
    (λ outside. let is = c.in_err-page.ensures.outside outside in cc))

pub returns-in_err-add_objects-clause-damage : goal.returns-in_err-add_objects-clause-damage
returns-in_err-add_objects-clause-damage g c = λ h.
    let n = c.args.bucket.number in
    at_error c.from_residual-in_err-add_objects.result c.in_err-add_objects.field-0.0
    _ c.from_residual-in_err-add_objects.ensures.1
    (damaged_or_memory c.in_err-add_objects.field-0.0 n c.in_err-add_objects.ensures.faults)
