-- One that is refused, which has the right axes.
use Rattle.std.proofs.Common.{inl, rules, arith}
use Rattle.live_layers.proofs.LoadLemmas.{bad_box_there}
use Rattle.live_layers.proofs.objects.entries_in.Goals as goal

pub returns-in_default-clause-allowed : goal.returns-in_default-clause-allowed
returns-in_default-clause-allowed g c =
    inl (bad_box_there g.row.D c.args.objects.now c.loop-object.object-index _ c.in_default.field-0
    (omega (arith, c.loop-object-test.true)) (search rules) c.in_default.ensures)
