use Rattle.std.proofs.Common.{below_more, subst, sym}
use Rattle.box_math.specs.Bounds.{IsBox}
use Rattle.tree_node.specs.Nodes.{items_of}
use Rattle.tree_node.specs.Boxes.{box_at}
use Rattle.tree_node.proofs.EntryLemmas.{box_at-any}
use Rattle.tree_node.proofs.entries.see_boxes.Goals as goal

pub loop-i-preserved : goal.loop-i-preserved
loop-i-preserved g c =
    let e = c.args.entries.now in
    below_more (λ k. IsBox g.row.D (box_at (items_of e) k)) c.loop-i.i c.loop-i.invariant
    (subst (IsBox g.row.D) (sym (box_at-any e c.loop-i.i c.index-entries-i.result c.loop-i-test.true))
    c.low.ensures.is_box)
