use Rattle.std.proofs.Common.{length, arith}
use Rattle.tree_node.specs.Nodes.{NodeContent}
use Rattle.node_bytes.specs.Views.{content_in}
use Rattle.choose_subtree.proofs.ChoiceLaws.{chosen_above, chosen_first}
use Rattle.choose_subtree.proofs.choice.choose.Goals as goal

pub returns-then-level-eq1-clause-chosen : goal.returns-then-level-eq1-clause-chosen
returns-then-level-eq1-clause-chosen g c =
    let node : NodeContent = content_in c.args.node.now in
    chosen_first g.row.D node.entries c.args.bounds.now node.level (length node.entries) _
    (omega (arith, c.level.ensures)) c.least_overlap.ensures

pub returns-else-level-eq1-clause-chosen : goal.returns-else-level-eq1-clause-chosen
returns-else-level-eq1-clause-chosen g c =
    let node : NodeContent = content_in c.args.node.now in
    chosen_above g.row.D node.entries c.args.bounds.now node.level (length node.entries) _
    (λ e. omega (arith, e, c.level.ensures)) c.least_area.ensures
