-- A page that spells a node spells one of two or three axes.
use Rattle.std.proofs.Common.{◌∙◌, sym}
use Rattle.node_bytes.proofs.Reading.{node_of_test, spells}
use Rattle.page_cache.proofs.frame.Frame.learn_node.Goals as goal

pub returns-then-is-clause-known : goal.returns-then-is-clause-known
returns-then-is-clause-known g c = λ is.
    let page = c.args.self.now.bytes.value in
    let test = sym c.spells_node-is.ensures ∙ is in
    c.axes_of-self.ensures.axes (spells g.row.AXES _ _ (node_of_test g.row.AXES _ test)).head.axes
