-- The object is added where the other leaf has it.
use Rattle.std.proofs.Common.{◌≡◌, ◌∙◌, ◌∷◌, ◌++◌, [], Some, ap, arith, sym, false, true, rules}
use Rattle.bucket_page.specs.Layout.{Entry}
use Rattle.id_page.proofs.LeafReading.{box_of_leaf, count_of_leaf, object_of_leaf}
use Rattle.box_math.specs.Bounds.{IsDims}
use Rattle.id_page.proofs.ObjectPlaces.{dims_there}
use Rattle.id_page.proofs.leaf_parts.push_from.Goals as goal

pub returns-in-Some-clause-pushed : goal.returns-in-Some-clause-pushed
returns-in-Some-clause-pushed g c = λ objects more other is in_other.
    let long = count_of_leaf g.row.D c.args.other.now more in_other in
    c.push_object.ensures.pushed objects is
    ∙ ap (λ (x : Entry). Some (objects ++ x ∷ []))
    (c.in-Some.ensures.value
    ∙ sym (object_of_leaf g.row.D c.args.other.now more c.args.place other in_other (omega (arith, long))))

pub returns-in-None-clause-pushed : goal.returns-in-None-clause-pushed
returns-in-None-clause-pushed g c = λ objects more other is in_other.
    let long = count_of_leaf g.row.D c.args.other.now more in_other in
    let never : false ≡ true = c.in-None.ensures.some.1
    (box_of_leaf g.row.D c.args.other.now more c.args.place in_other (omega (arith, long))) in absurd (cc)

pub object_at-requires : goal.object_at-requires
object_at-requires g c =
    let dims : IsDims g.row.D = dims_there g.row.D c.args.place (omega arith) in search rules

pub push_object-requires : goal.push_object-requires
push_object-requires g c =
    let dims : IsDims g.row.D = dims_there g.row.D c.args.place (omega arith) in search rules
