use Rattle.std.proofs.Common.{◌∙◌, length, ap}
use Rattle.tree_node.specs.Nodes.{items_of}
use Rattle.rstar_split.specs.Cuts.{order_of, margins_of, cuts_of}
use Rattle.rstar_split.proofs.SortLaws.{length-order_of}
use Rattle.rstar_split.proofs.groups.sort_on.Goals as goal

pub returns-clause-margin : goal.returns-clause-margin
returns-clause-margin g c =
    let D = g.row.D in
    let items = items_of c.args.entries.now in
    let order = order_of items c.args.axis c.args.bound in
    c.margins.ensures.value
    ∙ ap (λ o. margins_of D items o c.args.m (cuts_of (length o) c.args.m)) c.order.ensures.value
    ∙ ap (λ k. margins_of D items order c.args.m (cuts_of k c.args.m))
    (length-order_of items c.args.axis c.args.bound)
