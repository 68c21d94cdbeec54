-- What callers see of a node that is read in its page (our format, docs/FORMAT.md, "Node pages").
use Rattle.std.specs.Prelude.{ℕ}
use Rattle.tree_node.specs.Nodes.{NodeContent}
use Rattle.node_bytes.specs.Layout.{items_at}
use Rattle.node_bytes.specs.declared.view.NodeView.{NodeView}

-- its level and its entries
abbrev pub content_in : {D : ℕ} → NodeView D → NodeContent
content_in {D} view = record { level = view.level; entries = items_at D view.page.now view.count }
