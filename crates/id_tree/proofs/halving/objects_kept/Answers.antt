-- Half of the places, or all but one, are enough.
use Rattle.std.proofs.Common.{arith}
use Rattle.id_tree.proofs.CutLemmas.{least_some, sizes_there}
use Rattle.id_tree.proofs.halving.objects_kept.Goals as goal

pub overflow_sub-result : goal.overflow_sub-result
overflow_sub-result g c = let size = sizes_there g.row.D _ c.requires.some c.requires.few in
    omega (arith, least_some g.row.D, size.half, c.objects_that_fit-most.ensures)

pub returns-then-below-most-clause-large : goal.returns-then-below-most-clause-large
returns-then-below-most-clause-large g c = let size = sizes_there g.row.D _ c.requires.some c.requires.few in
    omega (arith, least_some g.row.D, size.half, c.objects_that_fit-most.ensures)

pub returns-then-below-most-clause-some : goal.returns-then-below-most-clause-some
returns-then-below-most-clause-some g c = let size = sizes_there g.row.D _ c.requires.some c.requires.few in
    omega (arith, least_some g.row.D, size.half, c.objects_that_fit-most.ensures)

pub returns-clause-large : goal.returns-clause-large
returns-clause-large g c = let size = sizes_there g.row.D _ c.requires.some c.requires.few in
    omega (arith, least_some g.row.D, size.half, c.objects_that_fit-most.ensures)

pub returns-clause-some : goal.returns-clause-some
returns-clause-some g c = let size = sizes_there g.row.D _ c.requires.some c.requires.few in
    omega (arith, least_some g.row.D, size.half, c.objects_that_fit-most.ensures)

pub returns-clause-rest : goal.returns-clause-rest
returns-clause-rest g c = λ off. let size = sizes_there g.row.D _ c.requires.some c.requires.few in
    omega (arith, least_some g.row.D, size.half, c.objects_that_fit-most.ensures)
