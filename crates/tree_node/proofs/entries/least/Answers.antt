-- The goals of `least` that are proved by hand.
use Rattle.std.proofs.Common.{◌≡◌, map, take, get_or, arith, ◌∙◌, sym, ap}
use Rattle.std.proofs.lemmas.List.{get_or-map, length-map}
use Rattle.box_math.specs.Bounds.{join_of}
use Rattle.tree_node.specs.Nodes.{Item, item_of}
use Rattle.tree_node.specs.Boxes.{least_box}
use Rattle.tree_node.proofs.LeastBoxes.{box_of_one, box_of_more}
use Rattle.tree_node.proofs.entries.least.Goals as goal

pub loop-i-init : goal.loop-i-init
loop-i-init g c =
    let es = c.args.entries.now in
    let e = c.index-entries-0.result in
    let first : get_or (map item_of es) 0 (item_of e) ≡ item_of (get_or es 0 e) =
    get_or-map item_of es 0 e (item_of e) c.requires in
    sym (box_of_one g.row.D (map item_of es) (item_of e) (omega (arith, length-map es item_of, c.requires))
    ∙ ap (λ (x : Item). x.bounds) first)

pub loop-i-preserved : goal.loop-i-preserved
loop-i-preserved g c =
    let es = c.args.entries.now in
    let i = c.loop-i.i in
    let e = c.index-entries-i.result in
    let x = get_or es i e in
    let this : get_or (map item_of es) i (item_of e) ≡ item_of x =
    get_or-map item_of es i e (item_of e) c.loop-i-test.true in
    let more =
    box_of_more g.row.D (map item_of es) i (item_of e) (omega (arith, c.loop-i.auto.i))
    (omega (arith, length-map es item_of, c.loop-i-test.true)) in
    c.join-all.ensures.value ∙ ap (λ b. join_of g.row.D b x.bounds) c.loop-i.invariant
    ∙ sym (more
    ∙ ap (λ (y : Item). join_of g.row.D (least_box g.row.D (take i (map item_of es))) y.bounds) this)
