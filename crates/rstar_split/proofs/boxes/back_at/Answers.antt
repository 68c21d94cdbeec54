use Rattle.std.proofs.Common.{◌≡◌, ◌+◌, ◌-◌, length, ap, sym, ◌∙◌, arith}
use Rattle.std.proofs.lemmas.List.{length-map}
use Rattle.box_math.specs.Bounds.{join_of}
use Rattle.tree_node.specs.Nodes.{item_of, items_of}
use Rattle.rstar_split.specs.Cuts.{back_box}
use Rattle.rstar_split.proofs.CutLaws.{all_below, back_box-last, back_box-more}
use Rattle.rstar_split.proofs.boxes.back_at.Goals as goal

pub loop-behind-init : goal.loop-behind-init
loop-behind-init g c =
    let items = items_of c.args.entries.now in
    let order = c.args.places.now in
    let n = length order in
    let below =
    all_below items order (length c.args.entries.now) (length-map c.args.entries.now item_of)
    c.requires.below in
    c.box_of-all.ensures.value
    ∙ sym (back_box-last g.row.D items order (n - 1) (omega (arith, c.requires.size)) below)

pub loop-behind-preserved : goal.loop-behind-preserved
loop-behind-preserved g c =
    let D = g.row.D in
    let items = items_of c.args.entries.now in
    let order = c.args.places.now in
    let n = length order in
    let i = c.loop-behind.behind in
    let below =
    all_below items order (length c.args.entries.now) (length-map c.args.entries.now item_of)
    c.requires.below in
    let at = n - 1 - i in
    let after : n - i ≡ at + 1 = omega (arith, c.loop-behind-test.true) in
    let here : at ≡ n - (i + 1) = omega (arith, c.loop-behind-test.true) in
    let more =
    back_box-more D items order at (omega (arith, c.loop-behind-test.true, c.loop-behind.auto.behind))
    below in
    let all : c.loop-behind.all ≡ back_box D items order (at + 1) = c.loop-behind.invariant
    ∙ ap (back_box D items order) after in
    c.join-all.ensures.value ∙ ap (λ b. join_of D b c.loop-behind.all) c.box_of.ensures.value
    ∙ ap (join_of D _) all ∙ sym more ∙ ap (back_box D items order) here

pub returns : goal.returns
returns g c =
    let n = length c.args.places.now in
    let done : n - c.loop-behind.behind ≡ c.args.size =
    omega (arith, c.loop-behind-test.false, c.loop-behind.auto.behind-end, c.requires.size) in
    c.loop-behind.invariant ∙ ap (back_box g.row.D (items_of c.args.entries.now) c.args.places.now) done
