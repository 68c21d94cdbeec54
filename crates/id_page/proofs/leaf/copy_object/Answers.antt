-- The object is written where the leaf has it.
use Rattle.std.proofs.Common.{◌≡◌, ◌∙◌, Some, ap, arith, set, sym, false, true, rules}
use Rattle.bucket_page.specs.Layout.{Entry}
use Rattle.id_page.proofs.LeafReading.{box_of_leaf, count_of_leaf, object_of_leaf}
use Rattle.box_math.specs.Bounds.{IsDims}
use Rattle.id_page.proofs.ObjectPlaces.{dims_there}
use Rattle.id_page.proofs.leaf.copy_object.Goals as goal

pub returns-in-Some-clause-copied : goal.returns-in-Some-clause-copied
returns-in-Some-clause-copied g c = λ objects other is.
    let long = count_of_leaf g.row.D c.args.page.now objects is in
    c.set_object.ensures.replaced objects is (omega (arith, long))
    ∙ ap (λ (x : Entry). Some (set objects c.args.to x))
    (c.in-Some.ensures.value
    ∙ sym (object_of_leaf g.row.D c.args.page.now objects c.args.from other is (omega (arith, long))))

pub returns-in-None-clause-copied : goal.returns-in-None-clause-copied
returns-in-None-clause-copied g c = λ objects other is.
    let long = count_of_leaf g.row.D c.args.page.now objects is in
    let never : false ≡ true = c.in-None.ensures.some.1
    (box_of_leaf g.row.D c.args.page.now objects c.args.from is (omega (arith, long))) in absurd (cc)

pub object_at-requires : goal.object_at-requires
object_at-requires g c =
    let dims : IsDims g.row.D = dims_there g.row.D c.args.from (omega arith) in search rules

pub set_object-requires : goal.set_object-requires
set_object-requires g c =
    let dims : IsDims g.row.D = dims_there g.row.D c.args.to (omega arith) in search rules
