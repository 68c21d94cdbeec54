use Rattle.std.proofs.Common.{◌≡◌, ◌+◌, ◌-◌, length, set, ap, sym, ◌∙◌, arith, subst}
use Rattle.std.proofs.lemmas.List.{length-map, length-set}
use Rattle.box_math.specs.Bounds.{join_of}
use Rattle.tree_node.specs.Nodes.{item_of, items_of}
use Rattle.rstar_split.specs.Cuts.{back_box, AreBacks}
use Rattle.rstar_split.proofs.CutLaws.{all_below, back_box-last, back_box-more, backs_none, backs_set}
use Rattle.rstar_split.proofs.boxes.back_boxes.Goals as goal

pub loop-behind-init : goal.loop-behind-init
loop-behind-init g c =
    let D = g.row.D in
    let items = items_of c.args.entries.now in
    let order = c.args.places.now in
    let n = length order in
    let boxes = c.args.boxes.now in
    let whole : length boxes ≡ 101 = c.told-boxes in
    let below =
    all_below items order (length c.args.entries.now) (length-map c.args.entries.now item_of)
    c.requires.below in
    let some : n - 1 + 1 ≡ n = omega (arith, c.requires.least) in
    let last : c.box_of-all.result ≡ back_box D items order (n - 1) = c.box_of-all.ensures.value
    ∙ sym (back_box-last D items order (n - 1) some below) in
    record {
      whole = length-set boxes (n - 1) c.box_of-all.result ∙ whole;
      all = last;
      boxes = backs_set D items order (n - 1) n boxes c.box_of-all.result
          (omega (arith, whole, some, c.requires.few))
          (subst (λ k. AreBacks D items order k n boxes) (sym some) (backs_none D items order n boxes)) last;
    }

pub loop-behind-preserved : goal.loop-behind-preserved
loop-behind-preserved g c =
    let D = g.row.D in
    let items = items_of c.args.entries.now in
    let order = c.args.places.now in
    let n = length order in
    let i = c.loop-behind.behind in
    let inv = c.loop-behind.invariant in
    let boxes = c.loop-behind.boxes in
    let below =
    all_below items order (length c.args.entries.now) (length-map c.args.entries.now item_of)
    c.requires.below in
    let at = n - 1 - i in
    let after : n - i ≡ at + 1 = omega (arith, c.loop-behind-test.true) in
    let here : at ≡ n - (i + 1) = omega (arith, c.loop-behind-test.true) in
    let more =
    back_box-more D items order at (omega (arith, c.loop-behind-test.true, c.loop-behind.auto.behind))
    below in
    let all : c.loop-behind.all ≡ back_box D items order (at + 1) = inv.all
    ∙ ap (back_box D items order) after in
    let next : c.join-all.result ≡ back_box D items order at = c.join-all.ensures.value
    ∙ ap (λ b. join_of D b c.loop-behind.all) c.box_of.ensures.value ∙ ap (join_of D _) all ∙ sym more in
    record {
      whole = length-set boxes at c.join-all.result ∙ inv.whole;
      all = next ∙ ap (back_box D items order) here;
      boxes = subst (λ k. AreBacks D items order k n (set boxes at c.join-all.result)) here
          (backs_set D items order at n boxes c.join-all.result
          (omega (arith, inv.whole, c.requires.few, c.loop-behind-test.true))
          (subst (λ k. AreBacks D items order k n boxes) after inv.boxes) next);
    }

pub returns : goal.returns
returns g c =
    let n = length c.args.places.now in
    let i = c.loop-behind.behind in
    let done : n - i ≡ c.args.least =
    omega (arith, c.loop-behind-test.false, c.loop-behind.auto.behind-end, c.requires.least) in
    subst (λ k. AreBacks g.row.D (items_of c.args.entries.now) c.args.places.now k n c.loop-behind.boxes)
    done c.loop-behind.invariant.boxes
