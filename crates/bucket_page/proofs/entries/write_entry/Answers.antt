-- The identifier and the box stay where the tag is written after them, and nothing outside the entry changes.
use Rattle.std.proofs.Common.{◌≡◌, ◌∙◌, ℕ, ap, arith, sym}
use Rattle.bucket_page.specs.Layout.{entry_place, entry_size}
use Rattle.bucket_page.proofs.Places.{entry_keeps, entry_size-written, object_written}
use Rattle.bucket_page.proofs.entries.write_entry.Goals as goal

pub returns-clause-written : goal.returns-clause-written
returns-clause-written g c =
    let at : c.place_of-at.result ≡ entry_place (entry_size g.row.D 7) c.args.place
    = c.place_of-at.ensures.value
    ∙ ap (λ (size : ℕ). entry_place size c.args.place) (sym (entry_size-written g.row.D)) in
    rw c.write_u32.ensures
    (object_written g.row.D c.args.place c.place_of-at.result c.args.entry.now.0 c.args.entry.now.1.1
    c.args.page.now c.write_u64.new.block c.write_box.new.block c.args.entry.now.1.0 at
    (omega arith) (omega (arith, c.told-page, c.write_box.array_long)) c.write_u64.ensures
    c.write_box.ensures.others (omega arith) (omega arith) c.write_box.ensures.written)

pub returns-clause-others : goal.returns-clause-others
returns-clause-others g c =
    let at : c.place_of-at.result ≡ entry_place (entry_size g.row.D 7) c.args.place
    = c.place_of-at.ensures.value
    ∙ ap (λ (size : ℕ). entry_place size c.args.place) (sym (entry_size-written g.row.D)) in
    rw c.write_u32.ensures
    (entry_keeps g.row.D c.args.place c.place_of-at.result c.args.entry.now.0 c.args.entry.now.1.1
    c.args.page.now c.write_u64.new.block c.write_box.new.block at
    (omega arith) (omega (arith, c.told-page, c.write_box.array_long)) c.write_u64.ensures
    c.write_box.ensures.others)
