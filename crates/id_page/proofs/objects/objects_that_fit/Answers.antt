-- The most of each dimension.
use Rattle.std.proofs.Common.{arith}
use Rattle.id_page.proofs.ObjectPlaces.{most_flat, most_none, most_solid}
use Rattle.id_page.proofs.objects.objects_that_fit.Goals as goal

pub returns-then-this-eq2 : goal.returns-then-this-eq2
returns-then-this-eq2 g c = most_flat g.row.D (omega arith)

pub returns-then-this-eq3 : goal.returns-then-this-eq3
returns-then-this-eq3 g c = most_solid g.row.D (omega arith)

pub returns : goal.returns
returns g c = most_none g.row.D (λ flat. absurd (omega (arith, flat))) (λ solid. absurd (omega (arith, solid)))
