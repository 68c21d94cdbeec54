-- Each object is written after those before it.
use Rattle.std.proofs.Common.{◌≡◌, ◌<◌, List, length, get_or, sym, ◌∙◌, ap, arith}
use Rattle.std.proofs.lemmas.List.{get_or_default}
use Rattle.bucket_page.specs.Layout.{Entry}
use Rattle.bucket_page.proofs.Writing.{written_more, written_spells, written_tidy}
use Rattle.bucket_page.proofs.page.encode.Goals as goal

pub loop-place-preserved : goal.loop-place-preserved
loop-place-preserved g c =
    let items = c.args.bucket.now.entries.items in
    let place = c.loop-place.place in
    let object = c.index-deref-place.result in
    let below : place < length items = omega arith in
    let is : object ≡ get_or items place object = c.index-deref-place.is
    ∙ ap (λ (xs : List (Entry)). get_or xs place object) c.deref.ensures.0 in
    written_more g.row.D c.args.bucket.now.next items place c.loop-place.page c.write_entry.new.page object
    c.loop-place.invariant c.write_entry.array_long
    c.write_entry.ensures.written c.write_entry.ensures.is_box
    (λ other. get_or_default items place other object below ∙ sym is) c.write_entry.ensures.others

pub returns-clause-spelled : goal.returns-clause-spelled
returns-clause-spelled g c =
    let bucket = c.args.bucket.now in
    written_spells g.row.D bucket.next bucket.entries.items c.loop-place.place c.loop-place.page
    c.loop-place.invariant (omega arith) (omega arith) c.requires.some

pub returns-clause-rest : goal.returns-clause-rest
returns-clause-rest g c =
    let bucket = c.args.bucket.now in
    written_tidy g.row.D bucket.next bucket.entries.items c.loop-place.place c.loop-place.page
    c.loop-place.invariant (omega arith)
