-- Where no place has the identifier, no object has it.
use Rattle.std.proofs.Common.{◌∙◌, arith}
use Rattle.id_page.proofs.LeafReading.{count_of_leaf, id_of_leaf}
use Rattle.id_page.proofs.leaf.place_of_id.Goals as goal

pub returns-clause-absent : goal.returns-clause-absent
returns-clause-absent g c = λ objects is none k other lt same.
    c.loop-place.invariant k (omega (arith, lt, count_of_leaf g.row.D c.args.page.now objects is))
    (id_of_leaf g.row.D c.args.page.now objects k other is lt ∙ same)
