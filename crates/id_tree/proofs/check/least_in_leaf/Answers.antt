-- A quarter of the places of a leaf.
use Rattle.std.proofs.Common.{arith}
use Rattle.id_tree.proofs.CheckLemmas.{least_flat, least_solid}
use Rattle.id_tree.proofs.check.least_in_leaf.Goals as goal

pub returns-then-this-eq2 : goal.returns-then-this-eq2
returns-then-this-eq2 g c = least_flat g.row.D (omega arith)

pub returns : goal.returns
returns g c = least_solid g.row.D (λ is. absurd (omega (arith, is)))
