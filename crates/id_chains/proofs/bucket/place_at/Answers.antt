-- The goals of `place_at` that are proved by hand.
use Rattle.page_cache.specs.Cache.{next_of, pages}
use Rattle.node_page.proofs.NodeLemmas.{at_error, page_refused}
use Rattle.id_chains.proofs.BucketLemmas.{bucket_bytes, page_of_bucket}
use Rattle.id_chains.proofs.bucket.place_at.Goals as goal

pub returns-in-Some-clause-found : goal.returns-in-Some-clause-found
returns-in-Some-clause-found g c = λ h content there.
    let page = pages c.args.cache.now c.args.number in
    let is =
    bucket_bytes g.row.D page _ content
    (c.in_ok-page.ensures.bytes h (page_of_bucket g.row.D page content there)) there in
    (c.in-Some.ensures.of_bucket content is, c.next_at.ensures.of_bucket g.row.D content is)

pub returns-in_err-page-clause-damage : goal.returns-in_err-page-clause-damage
returns-in_err-page-clause-damage g c = λ h.
    let n = c.args.number in
    at_error c.from_residual.result c.in_err-page.field-0.0 _
    c.from_residual.ensures.1
    (page_refused n (next_of c.args.cache.now) c.in_err-page.field-0.0 (c.in_err-page.ensures.faults h)
    (λ outside. let is = c.in_err-page.ensures.outside outside in cc))
