-- The goals of `move_at` that are proved by hand.
use Rattle.std.proofs.Common.{◌∙◌, ap, subst, sym}
use Rattle.bucket_page.specs.Layout.{bucket_at}
use Rattle.page_cache.specs.Cache.{next_of, pages}
use Rattle.page_cache.specs.Laws.{a_live_page_is_given}
use Rattle.id_chains.specs.Table.{bucket_in}
use Rattle.id_chains.specs.Tidy.{IsTidyPage}
use Rattle.id_chains.proofs.BucketLemmas.{bytes_of_bucket, page_of_bucket}
use Rattle.id_words.proofs.WriteLemmas.{write_refused}
use Rattle.id_words.proofs.Results.{ok_of}
use Rattle.id_chains.proofs.TidyLemmas.{page_keeps}
use Rattle.id_chains.proofs.places.move_at.Goals as goal

pub returns-clause-written : goal.returns-clause-written
returns-clause-written g c = λ h content other there within.
    let D = g.row.D in
    let old = c.args.cache.now in
    let n = c.args.number in
    let was = bytes_of_bucket D (pages old n) content there in
    ok_of c.edit.result (c.edit.ensures.edited h was.0 (a_live_page_is_given old n was.0 was.1))
    (λ answer did.
    ap (bucket_in D) (did.2 (page_of_bucket D (pages old n) content there))
    ∙ ap (bucket_at D) (sym did.3.leaves)
    ∙ did.3.met.0 content other (ap (bucket_at D) did.3.shows ∙ was.2) within)

pub returns-clause-tidy : goal.returns-clause-tidy
returns-clause-tidy g c = λ h content there within.
    let D = g.row.D in
    let old = c.args.cache.now in
    let n = c.args.number in
    let was = bytes_of_bucket D (pages old n) content there in
    let live = page_of_bucket D (pages old n) content there in
    ok_of c.edit.result (c.edit.ensures.edited h was.0 (a_live_page_is_given old n was.0 was.1))
    (λ answer did.
    page_keeps D (pages old) (pages c.edit.new.self) n was.0 did.0 was.1 (did.2 live)
    (c.edit.ensures.others h live)
    (λ tidy. subst (IsTidyPage D) did.3.leaves
    (did.3.met.1 content (ap (bucket_at D) did.3.shows ∙ was.2) within
    (subst (IsTidyPage D) (sym did.3.shows) tidy))))

pub returns-clause-damage : goal.returns-clause-damage
returns-clause-damage g c = λ h.
    write_refused c.edit.result c.args.number (next_of c.args.cache.now) (c.edit.ensures.faults h)
    (λ out. (c.edit.ensures.outside out).0)
