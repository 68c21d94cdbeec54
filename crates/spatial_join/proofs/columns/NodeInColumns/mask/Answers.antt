-- The goal of `NodeInColumns::mask` that is proved by hand.
use Rattle.spatial_join.proofs.MaskLemmas.{tells_entries}
use Rattle.spatial_join.proofs.columns.NodeInColumns.mask.Goals as goal

pub returns : goal.returns
returns g c =
    tells_entries c.args.self.now.lows c.args.self.now.highs c.args.self.now.node.now.entries.items
    c.args.window.now c.meet_mask.result c.len.result c.len.ensures.value c.meet_mask.ensures
    c.args.self.now.low_cells c.args.self.now.high_cells
