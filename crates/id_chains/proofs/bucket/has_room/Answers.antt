-- The goals of `has_room` that are proved by hand: a chain that stands begins with a bucket.
use Rattle.std.proofs.Common.{◌≡◌, ◌∙◌, ap, arith, length, refl, subst, sym}
use Rattle.bucket_page.proofs.Reading.{no_head}
use Rattle.page_file.specs.Fault.{IsOfDevice}
use Rattle.page_cache.specs.Cache.{next_of, pages}
use Rattle.page_cache.specs.Laws.{a_live_page_was_given_out}
use Rattle.node_page.proofs.NodeLemmas.{at_error, page_refused}
use Rattle.id_chains.specs.Pages.{BeginsFull}
use Rattle.id_chains.proofs.BucketLemmas.{bucket_bytes, page_of_bucket}
use Rattle.id_chains.proofs.WalkLemmas.{begins_at}
use Rattle.id_chains.proofs.bucket.has_room.Goals as goal

pub returns-in_err-page-clause-there : goal.returns-in_err-page-clause-there
returns-in_err-page-clause-there g c = λ h chain stands.
    let page = pages c.args.cache.now c.args.first in
    let b = begins_at g.row.D (pages c.args.cache.now) c.args.first chain stands c.if-first-eq0.false in
    let given =
    a_live_page_was_given_out c.args.cache.now c.args.first
    (page_of_bucket g.row.D page b.content b.there) in
    at_error c.from_residual.result c.in_err-page.field-0.0 IsOfDevice c.from_residual.ensures.1
    (c.in_err-page.ensures.faults h given.0 given.1)

pub returns-then-not-has_bucket_head-clause-there : goal.returns-then-not-has_bucket_head-clause-there
returns-then-not-has_bucket_head-clause-there g c = λ h chain stands.
    let page = pages c.args.cache.now c.args.first in
    let b = begins_at g.row.D (pages c.args.cache.now) c.args.first chain stands c.if-first-eq0.false in
    let is =
    bucket_bytes g.row.D page _ b.content
    (c.in_ok-page.ensures.bytes h (page_of_bucket g.row.D page b.content b.there)) b.there in
    let none = no_head g.row.D _ (λ head. let yes = c.has_bucket_head.ensures.1 head in absurd (cc)) in
    absurd (cc (is, none))

pub returns-then-count_at-eq100-clause-full : goal.returns-then-count_at-eq100-clause-full
returns-then-count_at-eq100-clause-full g c = λ h chain stands none.
    let page = pages c.args.cache.now c.args.first in
    let b = begins_at g.row.D (pages c.args.cache.now) c.args.first chain stands c.if-first-eq0.false in
    let is =
    bucket_bytes g.row.D page _ b.content
    (c.in_ok-page.ensures.bytes h (page_of_bucket g.row.D page b.content b.there)) b.there in
    let full : length b.bucket.entries ≡ 100 = ap length (sym b.entries)
    ∙ sym (c.count_at.ensures.of_bucket g.row.D b.content is) ∙ c.if-count_at-eq100.true in
    subst BeginsFull (sym b.is) full

pub returns-clause-room : goal.returns-clause-room
returns-clause-room g c = λ h content there room.
    let page = pages c.args.cache.now c.args.first in
    let is =
    bucket_bytes g.row.D page _ content
    (c.in_ok-page.ensures.bytes h (page_of_bucket g.row.D page content there)) there in
    let few = (c.has_bucket_head.ensures.0 c.if-not-has_bucket_head.false).few in
    omega (
      arith,
      c.count_at.ensures.of_bucket g.row.D content is,
      few,
      c.count_at.ensures.value,
      c.if-count_at-eq100.false,
    )

pub returns-in_err-page-clause-damage : goal.returns-in_err-page-clause-damage
returns-in_err-page-clause-damage g c = λ h.
    let n = c.args.first in
    at_error c.from_residual.result c.in_err-page.field-0.0 _
    c.from_residual.ensures.1
    (page_refused n (next_of c.args.cache.now) c.in_err-page.field-0.0 (c.in_err-page.ensures.faults h)
    (λ outside. let is = c.in_err-page.ensures.outside outside in cc))

pub returns-in_err-page-clause-met : goal.returns-in_err-page-clause-met
returns-in_err-page-clause-met g c =
    at_error c.from_residual.result c.in_err-page.field-0.0 _
    c.from_residual.ensures.1 c.if-first-eq0.false

pub returns-clause-head : goal.returns-clause-head
returns-clause-head g c = λ h room. (
  _,
  (
    _,
    c.in_ok-page.ensures.given_bytes h,
    c.has_bucket_head.ensures.0 c.if-not-has_bucket_head.false,
    refl,
  ),
)

pub returns-in_err-page-clause-spelled : goal.returns-in_err-page-clause-spelled
returns-in_err-page-clause-spelled g c = λ h content there.
    let page = pages c.args.cache.now c.args.first in
    let given =
    a_live_page_was_given_out c.args.cache.now c.args.first (page_of_bucket g.row.D page content there) in
    at_error c.from_residual.result c.in_err-page.field-0.0 IsOfDevice c.from_residual.ensures.1
    (c.in_err-page.ensures.faults h given.0 given.1)

pub returns-then-not-has_bucket_head-clause-spelled : goal.returns-then-not-has_bucket_head-clause-spelled
returns-then-not-has_bucket_head-clause-spelled g c = λ h content there.
    let page = pages c.args.cache.now c.args.first in
    let is =
    bucket_bytes g.row.D page _ content
    (c.in_ok-page.ensures.bytes h (page_of_bucket g.row.D page content there)) there in
    let none = no_head g.row.D _ (λ head. let yes = c.has_bucket_head.ensures.1 head in absurd (cc)) in
    absurd (cc (is, none))
