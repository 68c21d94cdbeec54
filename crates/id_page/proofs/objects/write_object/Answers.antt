-- The identifier and the box stay where the tag is written after them, and nothing outside the object
-- changes.
use Rattle.std.proofs.Common.{arith, rules}
use Rattle.bucket_page.proofs.Places.{entry_keeps, object_written}
use Rattle.box_math.specs.Bounds.{IsDims}
use Rattle.id_page.proofs.ObjectPlaces.{dims_there}
use Rattle.id_page.proofs.objects.write_object.Goals as goal

pub returns-clause-written : goal.returns-clause-written
returns-clause-written g c =
    rw c.write_u32.ensures
    (object_written g.row.D c.args.place c.object_place-at.result c.args.object.now.0
    c.args.object.now.1.1 c.args.page.now c.write_u64.new.block c.write_box.new.block
    c.args.object.now.1.0 c.object_place-at.ensures.value
    (omega arith) (omega (arith, c.told-page, c.write_box.array_long)) c.write_u64.ensures
    c.write_box.ensures.others (omega arith) (omega arith) c.write_box.ensures.written)

pub returns-clause-others : goal.returns-clause-others
returns-clause-others g c =
    rw c.write_u32.ensures
    (entry_keeps g.row.D c.args.place c.object_place-at.result c.args.object.now.0 c.args.object.now.1.1
    c.args.page.now c.write_u64.new.block c.write_box.new.block c.object_place-at.ensures.value
    (omega arith) (omega (arith, c.told-page, c.write_box.array_long)) c.write_u64.ensures
    c.write_box.ensures.others)

pub write_box-requires : goal.write_box-requires
write_box-requires g c =
    let dims : IsDims g.row.D = dims_there g.row.D c.args.place c.requires.within in search rules
