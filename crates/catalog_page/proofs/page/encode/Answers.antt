-- Each record is written after those before it.
use Rattle.std.proofs.Common.{◌≡◌, ◌<◌, List, length, map, get_or, sym, ◌∙◌, ap, arith}
use Rattle.std.proofs.lemmas.List.{get_or-map, length-map}
use Rattle.catalog_page.specs.declared.layer_record.LayerRecord.{LayerRecord}
use Rattle.catalog_page.specs.Layout.{Record, HasName, record_of, records_of}
use Rattle.catalog_page.proofs.Reading.{spelled}
use Rattle.catalog_page.proofs.Writing.{written_first, written_more, written_spells, written_rest}
use Rattle.catalog_page.proofs.page.encode.Goals as goal

pub loop-place-init : goal.loop-place-init
loop-place-init c =
    let items = c.args.layers.now.items in
    let size : c.len-count.result ≡ length (map record_of items) = c.len-count.ensures.value
    ∙ sym (length-map items record_of) in
    rw (c.write_u8-2.ensures, c.write_u8.ensures, c.zero_block.ensures, size)
    (written_first (map record_of items) (omega arith))

pub loop-place-preserved : goal.loop-place-preserved
loop-place-preserved c =
    let items = c.args.layers.now.items in
    let place = c.loop-place.place in
    let object = c.index-deref-place.result in
    let below : place < length items = omega arith in
    let within : place < length (map record_of items) = omega (arith, length-map items record_of) in
    let is : object ≡ get_or items place object = c.index-deref-place.is
    ∙ ap (λ (xs : List LayerRecord). get_or xs place object) c.deref.ensures.0 in
    let item : (other : Record)
    → get_or (map record_of items) place other ≡ record_of object =
    λ other. get_or-map record_of items place object other below ∙ ap record_of (sym is) in
    let some : 0 < length object.name.items = rw item at (c.requires place (record_of object) within) in
    let has : HasName (record_of object) =
    record { some = omega arith; short = c.write_record.ensures.short } in
    written_more (map record_of items) place c.loop-place.page c.write_record.new.page (record_of object)
    c.loop-place.invariant c.write_record.array_long
    c.write_record.ensures.written has item c.write_record.ensures.others

pub returns-clause-spelled : goal.returns-clause-spelled
returns-clause-spelled c =
    let layers = records_of c.args.layers.now in
    let size = length-map c.args.layers.now.items record_of in
    written_spells layers c.loop-place.place c.loop-place.page c.loop-place.invariant (omega arith)
    (omega arith)

pub returns-clause-rest : goal.returns-clause-rest
returns-clause-rest c =
    let size = length-map c.args.layers.now.items record_of in
    written_rest (records_of c.args.layers.now) c.loop-place.place c.loop-place.page c.loop-place.invariant
    (omega arith)

pub returns-clause-read_back : goal.returns-clause-read_back
returns-clause-read_back c =
    spelled c.loop-place.page (records_of c.args.layers.now) (returns-clause-spelled c)
