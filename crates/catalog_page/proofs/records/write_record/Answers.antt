-- The name stays where the numbers are written after it, and nothing outside the record changes.
use Rattle.std.proofs.Common.{ℕ, sym, ◌∙◌, ap}
use Rattle.catalog_page.specs.Layout.{record_of, record_from}
use Rattle.catalog_page.proofs.Places.{record_written}
use Rattle.catalog_page.proofs.records.write_record.Goals as goal

pub returns-clause-written : goal.returns-clause-written
returns-clause-written c =
    ap (λ (at : ℕ). record_from at c.write_numbers.new.page) (sym c.place_of-at.ensures.value)
    ∙ record_written c.place_of-at.result c.write_name.new.page c.write_numbers.new.page
    (record_of c.args.layer.now)
    c.write_name.ensures.short c.write_name.ensures.size c.write_name.ensures.bytes
    c.write_numbers.ensures.others c.write_numbers.ensures.written
