-- A place tells the dimension, so a box fits into memory.
use Rattle.std.proofs.Common.{rules}
use Rattle.box_math.specs.Bounds.{IsDims}
use Rattle.id_page.proofs.ObjectPlaces.{dims_there}
use Rattle.id_tree.proofs.parting.push_from.Goals as goal

pub object_at-requires : goal.object_at-requires
object_at-requires g c =
    let dims : IsDims g.row.D = dims_there g.row.D c.args.place c.requires.within in search rules

pub push_object-requires : goal.push_object-requires
push_object-requires g c =
    let dims : IsDims g.row.D = dims_there g.row.D c.args.place c.requires.within in search rules
