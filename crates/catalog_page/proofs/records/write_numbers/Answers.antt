-- Six numbers, one after the other.
use Rattle.std.proofs.Common.{◌<◌, ◌^◌, arith}
use Rattle.catalog_page.specs.Layout.{record_of}
use Rattle.catalog_page.proofs.NumbersWritten.{numbers_written, numbers_change}
use Rattle.catalog_page.proofs.records.write_numbers.Goals as goal

pub returns-clause-written : goal.returns-clause-written
returns-clause-written c =
    let layer = c.args.layer.now in
    let dims : layer.dims < 256 = omega arith in
    let fanout : layer.fanout < 256 = omega arith in
    let level : layer.level < 256 = omega arith in
    let root : layer.root < 2 ^ 32 = omega arith in
    let ids_root : layer.ids_root < 2 ^ 32 = omega arith in
    let count : layer.count < 2 ^ 64 = omega arith in
    rw (
      c.write_u64.ensures,
      c.write_u32-2.ensures,
      c.write_u32.ensures,
      c.write_u8-3.ensures,
      c.write_u8-2.ensures,
      c.write_u8.ensures,
    )
    (numbers_written c.args.at (record_of layer) c.args.page.now c.told-page c.requires dims fanout level
    root ids_root count)

pub returns-clause-others : goal.returns-clause-others
returns-clause-others c =
    rw (
      c.write_u64.ensures,
      c.write_u32-2.ensures,
      c.write_u32.ensures,
      c.write_u8-3.ensures,
      c.write_u8-2.ensures,
      c.write_u8.ensures,
    )
    (numbers_change c.args.at (record_of c.args.layer.now) c.args.page.now c.told-page c.requires)
