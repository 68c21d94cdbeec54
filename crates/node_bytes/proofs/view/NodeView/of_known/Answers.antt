-- A page that is known to spell a node spells that of its places.
use Rattle.std.proofs.Common.{sym, ◌∙◌, ◌≡◌}
use Rattle.block_bytes.specs.Numbers.{number_at}
use Rattle.tree_node.specs.Nodes.{NodeContent}
use Rattle.node_bytes.specs.Layout.{items_at}
use Rattle.node_bytes.proofs.Named.{spells_nodes}
use Rattle.node_bytes.proofs.Reading.{known_entries, known_few, known_node, node_of_test, spellable, spells}
use Rattle.node_bytes.proofs.view.NodeView.of_known.Goals as goal

pub returns-then-read_u8-level-clause-none : goal.returns-then-read_u8-level-clause-none
returns-then-read_u8-level-clause-none g c = λ other node same.
    c.if-read_u8-level.true
    (c.read_u8.ensures ∙ (spells g.row.D c.args.page.now other node).head.level_is ∙ same)

pub invariant_of-result : goal.invariant_of-result
invariant_of-result g c =
    let is : c.args.level ≡ number_at 1 4 c.args.page.now =
    sym c.if-read_u8-level.false ∙ c.read_u8.ensures in
    record {
      dims = (spells g.row.D c.args.page.now _ (node_of_test g.row.D c.args.page.now c.requires)).head.axes;
      laid_out = record {
        few = known_few g.row.D c.args.page.now c.args.level c.count_at.result c.requires is
            c.count_at.ensures;
        each = known_entries g.row.D c.args.page.now c.args.level c.count_at.result c.requires is
            c.count_at.ensures;
      };
      tags = c.is_tagged.ensures;
    }

pub returns-clause-spelled : goal.returns-clause-spelled
returns-clause-spelled g c =
    known_node g.row.D c.args.page.now c.args.level c.count_at.result c.requires
    (sym c.if-read_u8-level.false ∙ c.read_u8.ensures) c.count_at.ensures

pub returns-clause-spellable : goal.returns-clause-spellable
returns-clause-spellable g c =
    let content : NodeContent =
    record { level = c.args.level; entries = items_at g.row.D c.args.page.now c.count_at.result } in
    spellable g.row.D c.args.page.now content
    (spells g.row.D c.args.page.now content (returns-clause-spelled g c))

pub returns-clause-boxes : goal.returns-clause-boxes
returns-clause-boxes g c =
    let content : NodeContent =
    record { level = c.args.level; entries = items_at g.row.D c.args.page.now c.count_at.result } in
    (spells_nodes g.row.D c.args.page.now content c.fits-page
    (spells g.row.D c.args.page.now content (returns-clause-spelled g c))).boxes
