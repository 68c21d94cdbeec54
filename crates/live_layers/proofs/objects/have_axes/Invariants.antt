use Rattle.std.proofs.Common.{◌≡◌, take, true}
use Rattle.plain_table.specs.Loads.{have_dims}
use Rattle.live_layers.proofs.objects.have_axes.Given as goal

abbrev pub invariant-loop-object : goal.invariant-loop-object
invariant-loop-object g l = have_dims g.row.D (take l.object-index l.objects) ≡ true
