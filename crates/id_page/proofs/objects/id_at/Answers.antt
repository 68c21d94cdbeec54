-- The identifier of an object is the number in its place.
use Rattle.std.proofs.Common.{◌∙◌}
use Rattle.id_page.proofs.LeafReading.{id_of_leaf}
use Rattle.id_page.proofs.ObjectPlaces.{id_is}
use Rattle.id_page.proofs.objects.id_at.Goals as goal

pub returns-clause-value : goal.returns-clause-value
returns-clause-value g c = id_is g.row.D c.args.place c.object_place.result c.args.page.now c.read_u64.result
    c.object_place.ensures.value c.read_u64.ensures

pub returns-clause-of_leaf : goal.returns-clause-of_leaf
returns-clause-of_leaf g c = λ objects other is lt. returns-clause-value g c
    ∙ id_of_leaf g.row.D c.args.page.now objects c.args.place other is lt
