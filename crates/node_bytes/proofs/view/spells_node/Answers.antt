-- What the tests of the head and of the entries tell of the page.
use Rattle.node_bytes.proofs.Reading.{entries_tell, head_tells}
use Rattle.node_bytes.proofs.view.spells_node.Goals as goal

pub returns-then-has_node_head : goal.returns-then-has_node_head
returns-then-has_node_head g c =
    entries_tell g.row.D c.args.page.now c.read_u8-level.result c.count_at.result c.has_entries.result
    (c.has_node_head.ensures.0 c.if-has_node_head.true) c.read_u8-level.ensures c.count_at.ensures
    c.has_entries.ensures

pub returns-else-has_node_head : goal.returns-else-has_node_head
returns-else-has_node_head g c =
    head_tells g.row.D c.args.page.now c.read_u8-level.result c.has_node_head.result c.read_u8-level.ensures
    c.has_node_head.ensures c.if-has_node_head.false
