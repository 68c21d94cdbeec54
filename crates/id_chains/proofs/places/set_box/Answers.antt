-- The object in the place is read, and written with the other box.
use Rattle.std.proofs.Common.{◌≡◌, ◌∙◌, Some, ap, get_or, inr}
use Rattle.bucket_page.specs.Layout.{Entry, replaced}
use Rattle.id_chains.specs.Pages.{moved}
use Rattle.id_chains.proofs.TidyLemmas.{bucket_kept}
use Rattle.id_chains.proofs.places.set_box.Goals as goal

pub returns-in-Some-clause-moved : goal.returns-in-Some-clause-moved
returns-in-Some-clause-moved g c = λ content other is within.
    let read = c.entry_at.ensures.of_bucket content other is within in
    let object : ◌≡◌ {A = Entry} (c.in-Some.id, (c.in-Some.field-0-1-0, c.in-Some.tag))
    (get_or content.entries c.args.place other) = cc (read, c.in-Some.is) in
    c.set_entry.ensures.replaced content is within
    ∙ ap (λ (o : Entry). Some (replaced content c.args.place (moved o c.args.bounds.now))) object

pub returns-in-Some-clause-tidy : goal.returns-in-Some-clause-tidy
returns-in-Some-clause-tidy g c = λ content is within.
    bucket_kept g.row.D c.args.page.now c.set_entry.new.page content is (c.set_entry.ensures.kind content is)
    (λ tidy. c.set_entry.ensures.tidy content is within (inr tidy))
