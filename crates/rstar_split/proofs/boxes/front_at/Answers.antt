use Rattle.std.proofs.Common.{length, ap, sym, ◌∙◌, arith}
use Rattle.std.proofs.lemmas.List.{length-map}
use Rattle.box_math.specs.Bounds.{join_of}
use Rattle.tree_node.specs.Nodes.{item_of, items_of}
use Rattle.rstar_split.specs.Cuts.{front_box}
use Rattle.rstar_split.proofs.CutLaws.{all_below, front_box-one, front_box-more}
use Rattle.rstar_split.proofs.boxes.front_at.Goals as goal

pub loop-k-init : goal.loop-k-init
loop-k-init g c =
    let items = items_of c.args.entries.now in
    let order = c.args.places.now in
    let below =
    all_below items order (length c.args.entries.now) (length-map c.args.entries.now item_of)
    c.requires.below in
    c.box_of-all.ensures.value ∙ sym (front_box-one g.row.D items order (omega (arith, c.requires.size)) below)

pub loop-k-preserved : goal.loop-k-preserved
loop-k-preserved g c =
    let D = g.row.D in
    let items = items_of c.args.entries.now in
    let order = c.args.places.now in
    let k = c.loop-k.k in
    let below =
    all_below items order (length c.args.entries.now) (length-map c.args.entries.now item_of)
    c.requires.below in
    let more =
    front_box-more D items order k (omega (arith, c.loop-k.auto.k))
    (omega (arith, c.loop-k-test.true, c.requires.size)) below in
    c.join-all.ensures.value ∙ ap (λ b. join_of D b c.box_of.result) c.loop-k.invariant
    ∙ ap (join_of D (front_box D items order k)) c.box_of.ensures.value ∙ sym more
