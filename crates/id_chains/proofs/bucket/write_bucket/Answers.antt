-- The goals of `write_bucket` that are proved by hand.
use Rattle.std.proofs.Common.{◌∙◌, List, Option, ap, subst, sym, ℕ}
use Rattle.std.specs.Prelude.{IsSomeAnd}
use Rattle.bucket_page.proofs.Reading.{spelled}
use Rattle.bucket_page.specs.Layout.{bucket_at, content_of}
use Rattle.page_cache.specs.Laws.{a_live_page_was_given_out}
use Rattle.node_page.proofs.NodeLemmas.{on_ok}
use Rattle.id_chains.specs.Table.{bucket_in}
use Rattle.id_chains.specs.Tidy.{IsTidyPage}
use Rattle.id_chains.proofs.bucket.write_bucket.Goals as goal

pub returns-clause-written : goal.returns-clause-written
returns-clause-written g c = λ h live.
    on_ok c.refill.result
    (λ did. ap (bucket_in g.row.D) (did.3 live) ∙ ap (bucket_at g.row.D) (sym did.4.leaves)
    ∙ spelled g.row.D _ (content_of c.args.bucket.now) did.4.met.0) (c.refill.ensures.filled h)

pub returns-clause-tidy : goal.returns-clause-tidy
returns-clause-tidy g c =
    λ h live. on_ok c.refill.result
    (λ did. subst (λ (o : Option (List ℕ)). IsSomeAnd o (IsTidyPage g.row.D)) (sym (did.3 live))
    (subst (IsTidyPage g.row.D) did.4.leaves did.4.met.1)) (c.refill.ensures.filled h)

pub returns-clause-faults : goal.returns-clause-faults
returns-clause-faults g c = λ h live.
    let out = a_live_page_was_given_out c.args.cache.now c.args.number live in
    c.refill.ensures.faults h out.0 out.1

pub returns-clause-given_faults : goal.returns-clause-given_faults
returns-clause-given_faults g c = λ h low below. c.refill.ensures.faults h low below
