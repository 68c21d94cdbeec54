use Rattle.std.proofs.Common.{◌≡◌, ◌+◌, ◌-◌, ◌*◌, ◌<◌, length, ap, sym, ◌∙◌, arith}
use Rattle.std.proofs.lemmas.List.{length-map}
use Rattle.box_math.specs.Bounds.{join_of}
use Rattle.box_math.specs.Measures.{margin_of}
use Rattle.tree_node.specs.Nodes.{item_of, items_of}
use Rattle.rstar_split.specs.Cuts.{back_box, cuts_of}
use Rattle.rstar_split.specs.Margins.{back_margins_of}
use Rattle.rstar_split.proofs.CutLaws.{all_below, back_box-more}
use Rattle.rstar_split.proofs.MarginLaws.{back_margins-less, back_margins-none}
use Rattle.rstar_split.proofs.margins.back_margins.Goals as goal

pub loop-k-init : goal.loop-k-init
loop-k-init g c =
    let D = g.row.D in
    let items = items_of c.args.entries.now in
    let order = c.args.places.now in
    let n = length order in
    let m = c.args.m in
    let here : n - m ≡ n - m - 0 = omega arith in
    record {
      all = c.back_at-all.ensures ∙ ap (back_box D items order) here;
      value = back_margins-less D items order m (n - 2 * m - 0) (cuts_of n m) (n - m) _
          (omega (arith, c.requires.enough)) (omega (arith, c.requires.enough))
          (c.margin-sum.ensures.value ∙ ap (margin_of D) c.back_at-all.ensures);
      bound = omega (arith, c.margin-sum.ensures.bound);
    }

pub loop-k-preserved : goal.loop-k-preserved
loop-k-preserved g c =
    let D = g.row.D in
    let items = items_of c.args.entries.now in
    let order = c.args.places.now in
    let n = length order in
    let m = c.args.m in
    let k = c.loop-k.k in
    let inv = c.loop-k.invariant in
    let below =
    all_below items order (length c.args.entries.now) (length-map c.args.entries.now item_of)
    c.requires.below in
    let at = n - m - 1 - k in
    let few : k < n - 2 * m = omega (arith, c.loop-k-test.true) in
    let after : n - m - k ≡ at + 1 = omega (arith, few) in
    let here : at ≡ n - m - (k + 1) = omega arith in
    let more = back_box-more D items order at (omega (arith, few, c.requires.some)) below in
    let all : c.loop-k.all ≡ back_box D items order (at + 1) = inv.all ∙ ap (back_box D items order) after in
    let next : c.join-all.result ≡ back_box D items order at = c.join-all.ensures.value
    ∙ ap (λ b. join_of D b c.loop-k.all) c.box_of.ensures.value ∙ ap (join_of D _) all ∙ sym more in
    let grown =
    back_margins-less D items order m (n - 2 * m - (k + 1)) (n - 2 * m - k) at c.margin-sum-in-loop-k.result
    (omega (arith, few)) (omega (arith, few)) (c.margin-sum-in-loop-k.ensures.value ∙ ap (margin_of D) next) in
    record {
      all = next ∙ ap (back_box D items order) here;
      value = omega (arith, inv.value, grown);
      bound = omega (arith, c.margin-sum-in-loop-k.ensures.bound, inv.bound);
    }

pub returns-clause-value : goal.returns-clause-value
returns-clause-value g c =
    let D = g.row.D in
    let items = items_of c.args.entries.now in
    let order = c.args.places.now in
    let n = length order in
    let m = c.args.m in
    let none : n - 2 * m - c.loop-k.k ≡ 0 =
    omega (arith, c.loop-k-test.false) in
    let left = ap (back_margins_of D items order m) none ∙ back_margins-none D items order m in
    omega (arith, c.loop-k.invariant.value, left)
