-- Without its head, or with a place that holds no entry of the level, the page spells no node of it, and else
-- that of its places.
use Rattle.std.proofs.Common.{◌≡◌, true, refl, arith}
use Rattle.tree_node.specs.Nodes.{NodeContent}
use Rattle.node_bytes.specs.Layout.{items_at}
use Rattle.node_bytes.proofs.Named.{spells_nodes}
use Rattle.node_bytes.proofs.Reading.{spells, spellable, no_head, no_places, all_places}
use Rattle.node_bytes.proofs.view.NodeView.of.Goals as goal

pub returns-then-not-has_node_head-clause-none : goal.returns-then-not-has_node_head-clause-none
returns-then-not-has_node_head-clause-none g c =
    no_head g.row.D c.args.level c.args.page.now
    (λ head. let found : c.has_node_head.result ≡ true = c.has_node_head.ensures.1 head in cc)

pub returns-then-not-has_entries-clause-none : goal.returns-then-not-has_entries-clause-none
returns-then-not-has_entries-clause-none g c = no_places g.row.D c.args.level c.args.page.now
    (λ each. let found = c.has_entries.ensures.1 (λ place lt. each place (omega arith)) in cc)

pub returns-clause-spelled : goal.returns-clause-spelled
returns-clause-spelled g c =
    all_places g.row.D c.args.level c.count_at-count.result c.args.page.now
    (items_at g.row.D c.args.page.now c.count_at-count.result)
    (c.has_node_head.ensures.0 c.if-not-has_node_head.false) (omega arith)
    refl (c.has_entries.ensures.0 c.if-not-has_entries.false)

pub returns-clause-spellable : goal.returns-clause-spellable
returns-clause-spellable g c =
    let content : NodeContent =
    record { level = c.args.level; entries = items_at g.row.D c.args.page.now c.count_at-count.result } in
    spellable g.row.D c.args.page.now content
    (spells g.row.D c.args.page.now content (returns-clause-spelled g c))

pub returns-clause-boxes : goal.returns-clause-boxes
returns-clause-boxes g c =
    let content : NodeContent =
    record { level = c.args.level; entries = items_at g.row.D c.args.page.now c.count_at-count.result } in
    (spells_nodes g.row.D c.args.page.now content c.fits-page
    (spells g.row.D c.args.page.now content (returns-clause-spelled g c))).boxes
