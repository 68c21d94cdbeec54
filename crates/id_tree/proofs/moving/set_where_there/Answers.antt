-- A leaf page has no more objects than fit.
use Rattle.std.proofs.Common.{arith}
use Rattle.id_page.proofs.LeafReading.{leaf_spells}
use Rattle.id_tree.proofs.moving.set_where_there.Goals as goal

pub returns-then-count_at-objects_that_fit : goal.returns-then-count_at-objects_that_fit
returns-then-count_at-objects_that_fit g c = record {
  replaced = λ objects is within.
      let spells = leaf_spells g.row.D c.args.page.now objects is in
      absurd (omega (
        arith,
        spells.head.few,
        c.count_at.ensures.value,
        c.objects_that_fit.ensures,
        c.if-count_at-objects_that_fit.true,
      ));
  tidy = λ tidy. tidy;
}
