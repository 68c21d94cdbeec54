-- One home more stands in the page.
use Rattle.std.proofs.Common.{◌<◌, ◌+◌, ◌^◌, refl, rules, subst, sym}
use Rattle.std.specs.Prelude.{slice_index}
use Rattle.logged_pair.proofs.Indexing.{IsPageTo, page_step}
use Rattle.logged_pair.proofs.pair.record.index_page.Goals as goal

pub loop-m-preserved : goal.loop-m-preserved
loop-m-preserved c =
    let lt : c.loop-m.m < 1024 = search rules in
    let small : slice_index c.args.homes.now (c.args.from + c.loop-m.m) < 2 ^ 32 = search rules in
    subst (IsPageTo c.args.homes.now c.args.from (c.loop-m.m + 1)) (sym c.write_u32.ensures)
    (page_step c.args.homes.now c.args.from c.loop-m.m _ c.loop-m.page lt small refl c.loop-m.invariant)
