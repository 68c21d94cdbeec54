-- The goals of `put_in` that are proved by hand: a page that gets objects stays tidy.
use Rattle.std.proofs.Common.{◌∙◌, ap, subst, sym}
use Rattle.bucket_page.specs.Layout.{bucket_at}
use Rattle.page_file.specs.Fault.{IsOfDevice}
use Rattle.page_cache.specs.Cache.{next_of, pages, touched_of}
use Rattle.page_cache.specs.Laws.{a_live_page_is_given, a_live_page_was_given_out}
use Rattle.node_page.proofs.NodeLemmas.{at_error, page_refused}
use Rattle.id_chains.specs.Tidy.{IsTidyPage}
use Rattle.id_chains.proofs.BucketLemmas.{bytes_of_bucket, page_of_bucket}
use Rattle.id_words.proofs.WriteLemmas.{touched_so}
use Rattle.id_chains.proofs.TidyLemmas.{page_keeps}
use Rattle.id_chains.proofs.adding.put_in.Goals as goal

pub returns-in-Some-clause-tidy : goal.returns-in-Some-clause-tidy
returns-in-Some-clause-tidy g c = λ h content there.
    let D = g.row.D in
    let old = c.args.cache.now in
    let n = c.args.number in
    let was = bytes_of_bucket D (pages old n) content there in
    let live = page_of_bucket D (pages old n) content there in
    let did = c.in_ok-pushed.ensures.edited h was.0 (a_live_page_is_given old n was.0 was.1) in
    page_keeps D (pages old) (pages c.edit.new.self) n was.0 did.0 was.1 (did.2 live)
    (c.edit.ensures.others h live)
    (λ tidy. subst (IsTidyPage D) did.3.leaves
    (did.3.met.tidy content (ap (bucket_at D) did.3.shows ∙ was.2)
    (subst (IsTidyPage D) (sym did.3.shows) tidy)))

pub returns-in_err-pushed-clause-damage : goal.returns-in_err-pushed-clause-damage
returns-in_err-pushed-clause-damage g c = λ h.
    let n = c.args.number in
    at_error c.from_residual.result c.in_err-pushed.field-0.0 _
    c.from_residual.ensures.1
    (page_refused n (next_of c.args.cache.now) c.in_err-pushed.field-0.0 (c.in_err-pushed.ensures.faults h)
    (λ outside. let is = (c.in_err-pushed.ensures.outside outside).0 in cc))

pub returns-in-Some-clause-touched : goal.returns-in-Some-clause-touched
returns-in-Some-clause-touched g c =
    touched_so (touched_of c.args.cache.now) (touched_of c.edit.new.self)
    c.in_ok-pushed.ensures.in_memory.touched

pub returns-in_err-pushed-clause-faults : goal.returns-in_err-pushed-clause-faults
returns-in_err-pushed-clause-faults g c = λ h content there room.
    let was = bytes_of_bucket g.row.D (pages c.args.cache.now c.args.number) content there in
    let given = a_live_page_was_given_out c.args.cache.now c.args.number
    (page_of_bucket g.row.D (pages c.args.cache.now c.args.number) content there) in
    at_error c.from_residual.result c.in_err-pushed.field-0.0 IsOfDevice c.from_residual.ensures.1
    (c.in_err-pushed.ensures.faults h given.0 given.1)
