-- The object comes into an empty leaf.
use Rattle.std.proofs.Common.{[], arith, rules}
use Rattle.id_tree.proofs.CutLemmas.{least_some, sizes}
use Rattle.id_tree.proofs.rooting.leaf_of.Goals as goal

pub push_object-requires : goal.push_object-requires
push_object-requires g c = let size = sizes g.row.D c.requires.dims in
    (search rules, omega (arith, least_some g.row.D, size.half, c.start_leaf.ensures.count))

pub returns-clause-spelled : goal.returns-clause-spelled
returns-clause-spelled g c = c.push_object.ensures.pushed [] (c.start_leaf.ensures.empty c.requires.dims)

pub returns-clause-tidy : goal.returns-clause-tidy
returns-clause-tidy g c = c.push_object.ensures.tidy (c.start_leaf.ensures.tidy g.row.D)
