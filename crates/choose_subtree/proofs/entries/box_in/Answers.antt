-- The entry in the place is that of the node's page.
use Rattle.std.proofs.Common.{ap, ◌∙◌}
use Rattle.std.proofs.lemmas.List.{get_or_default}
use Rattle.tree_node.specs.Boxes.{no_item}
use Rattle.tree_node.specs.Nodes.{Item, item_of}
use Rattle.node_bytes.specs.Views.{content_in}
use Rattle.choose_subtree.proofs.entries.box_in.Goals as goal

pub returns-clause-value : goal.returns-clause-value
returns-clause-value g c =
    ap (λ (x : Item). x.bounds)
    (c.entry-bounds.ensures ∙ get_or_default (content_in c.args.node.now).entries c.args.place (item_of c.entry-bounds.result)
    no_item c.requires)
