-- The page is that with the object in the place.
use Rattle.std.proofs.Common.{arith, refl}
use Rattle.block_bytes.specs.Numbers.{number_at}
use Rattle.id_page.proofs.LeafEdits.{leaf_replaced}
use Rattle.id_page.proofs.Rows.{edits_kept, tidy_grown}
use Rattle.id_page.specs.Leaf.{object_size}
use Rattle.id_page.proofs.leaf.set_object.Goals as goal

pub returns-clause-count : goal.returns-clause-count
returns-clause-count g c =
    (edits_kept (object_size g.row.D) c.args.place c.args.page.now c.write_object.new.page
    c.write_object.ensures.others).counted

pub returns-clause-replaced : goal.returns-clause-replaced
returns-clause-replaced g c = λ objects is within.
    leaf_replaced g.row.D c.args.place c.args.page.now c.write_object.new.page objects c.args.object.now is
    within
    (edits_kept (object_size g.row.D) c.args.place c.args.page.now c.write_object.new.page
    c.write_object.ensures.others) c.write_object.ensures.written c.write_object.ensures.is_box

pub returns-clause-tidy : goal.returns-clause-tidy
returns-clause-tidy g c = λ within before.
    let n = number_at 2 2 c.args.page.now in
    tidy_grown 4 (object_size g.row.D) c.args.place n n c.args.page.now c.write_object.new.page (omega arith)
    (edits_kept (object_size g.row.D) c.args.place c.args.page.now c.write_object.new.page
    c.write_object.ensures.others) refl (omega arith) within before
