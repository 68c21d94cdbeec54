-- The goals of `begin` that are proved by hand.
use Rattle.std.proofs.Common.{length, ap, arith}
use Rattle.node_bytes.specs.Layout.{IsOfLevel}
use Rattle.reinsert.specs.Called.{free_levels}
use Rattle.reinsert.specs.declared.waiting.Wait.{Wait}
use Rattle.reinsert.proofs.CalledLemmas.{free_levels_from}
use Rattle.reinsert.proofs.WaitLemmas.{All-none}
use Rattle.reinsert.proofs.waiting.Waiting.begin.Goals as goal

pub invariant_of-self-clause-room : goal.invariant_of-self-clause-room
invariant_of-self-clause-room g c =
    omega (
      arith,
      ap length c.clear.ensures,
      ap free_levels c.levels_from-self.ensures,
      free_levels_from c.args.top,
      c.requires,
    )

pub invariant_of-self-clause-refers : goal.invariant_of-self-clause-refers
invariant_of-self-clause-refers g c =
    All-none (λ (w : Wait g.row.D). IsOfLevel w.level w.entry.reference w.entry.tag)
    c.clear.new.self.items c.clear.ensures

pub returns-clause-measure : goal.returns-clause-measure
returns-clause-measure g c =
    omega (
      arith,
      ap length c.clear.ensures,
      ap free_levels c.levels_from-self.ensures,
      free_levels_from c.args.top,
      c.requires,
    )
