-- An empty leaf has room for all that are below the key.
use Rattle.std.proofs.Common.{[], arith}
use Rattle.id_page.proofs.LeafReading.{count_of_leaf}
use Rattle.id_tree.proofs.HalvingLemmas.{both_lengths}
use Rattle.id_tree.proofs.PartingLemmas.{leaf_like}
use Rattle.id_tree.proofs.parting.leaf_under.Goals as goal

pub returns-clause-under : goal.returns-clause-under
returns-clause-under g c = λ objects is.
    let count = count_of_leaf g.row.D c.args.page.now objects is in
    let both = both_lengths c.args.key objects in
    let empty = leaf_like g.row.D c.dims_at.result c.args.page.now c.start_leaf.new.page objects is
    (c.dims_at.ensures.of_leaf g.row.D objects is) c.start_leaf.ensures.empty in
    c.append_under.ensures.appended [] objects empty is
    (omega (arith, count, both, c.requires.few))

pub returns-clause-tidy : goal.returns-clause-tidy
returns-clause-tidy g c = c.append_under.ensures.tidy (c.start_leaf.ensures.tidy g.row.D)
