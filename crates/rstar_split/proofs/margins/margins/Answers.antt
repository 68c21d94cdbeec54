use Rattle.std.proofs.Common.{length, arith}
use Rattle.tree_node.specs.Nodes.{items_of}
use Rattle.rstar_split.specs.Cuts.{cuts_of}
use Rattle.rstar_split.proofs.MarginLaws.{margins-parts}
use Rattle.rstar_split.proofs.margins.margins.Goals as goal

pub returns-clause-value : goal.returns-clause-value
returns-clause-value g c =
    let order = c.args.places.now in
    let parts =
    margins-parts g.row.D (items_of c.args.entries.now) order c.args.m (cuts_of (length order) c.args.m) in
    omega (arith, parts, c.front_margins.ensures.value, c.back_margins.ensures.value)
