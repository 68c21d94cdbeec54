-- The object's place, which lies within the page.
use Rattle.std.proofs.Common.{arith}
use Rattle.id_page.proofs.ObjectPlaces.{dims_there, object_place-is, object_within}
use Rattle.id_page.proofs.objects.object_place.Goals as goal

pub overflow_mul-result : goal.overflow_mul-result
overflow_mul-result g c = let dims = dims_there g.row.D c.args.place c.requires.within in omega (arith, dims.1)

pub overflow_add-result : goal.overflow_add-result
overflow_add-result g c = let dims = dims_there g.row.D c.args.place c.requires.within in omega (arith, dims.1)

pub overflow_mul-result-2 : goal.overflow_mul-result-2
overflow_mul-result-2 g c =
    omega (arith, object_within g.row.D c.args.place c.requires.within)

pub overflow_add-result-2 : goal.overflow_add-result-2
overflow_add-result-2 g c =
    omega (arith, object_within g.row.D c.args.place c.requires.within)

pub returns-clause-value : goal.returns-clause-value
returns-clause-value g c = object_place-is g.row.D c.args.place

pub returns-clause-bound : goal.returns-clause-bound
returns-clause-bound g c = omega (arith, object_within g.row.D c.args.place c.requires.within)
