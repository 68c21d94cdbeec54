use Rattle.std.proofs.Common.{◌≡◌, ◌+◌, ◌-◌, ◌*◌, length, ap, sym, ◌∙◌, arith}
use Rattle.std.proofs.lemmas.List.{length-map}
use Rattle.box_math.specs.Bounds.{join_of}
use Rattle.box_math.specs.Measures.{margin_of}
use Rattle.tree_node.specs.Nodes.{item_of, items_of}
use Rattle.rstar_split.specs.Cuts.{front_box}
use Rattle.rstar_split.specs.Margins.{front_margins_of}
use Rattle.rstar_split.proofs.CutLaws.{all_below, front_box-more}
use Rattle.rstar_split.proofs.MarginLaws.{front_margins-one, front_margins-more}
use Rattle.rstar_split.proofs.margins.front_margins.Goals as goal

pub loop-k-init : goal.loop-k-init
loop-k-init g c =
    let D = g.row.D in
    let items = items_of c.args.entries.now in
    let order = c.args.places.now in
    let same : c.args.m ≡ c.args.m + 0 = omega arith in
    record {
      all = c.front_at-all.ensures ∙ ap (front_box D items order) same;
      value = front_margins-one D items order c.args.m _
          (c.margin-sum.ensures.value ∙ ap (margin_of D) c.front_at-all.ensures);
      bound = omega (arith, c.margin-sum.ensures.bound);
    }

pub loop-k-preserved : goal.loop-k-preserved
loop-k-preserved g c =
    let D = g.row.D in
    let items = items_of c.args.entries.now in
    let order = c.args.places.now in
    let m = c.args.m in
    let k = c.loop-k.k in
    let inv = c.loop-k.invariant in
    let below =
    all_below items order (length c.args.entries.now) (length-map c.args.entries.now item_of)
    c.requires.below in
    let more =
    front_box-more D items order (m + k) (omega (arith, c.requires.some))
    (omega (arith, c.loop-k-test.true, c.requires.enough)) below in
    let after : m + k + 1 ≡ m + (k + 1) = omega arith in
    let next = c.join-all.ensures.value ∙ ap (λ b. join_of D b c.box_of.result) inv.all
    ∙ ap (join_of D (front_box D items order (m + k))) c.box_of.ensures.value ∙ sym more
    ∙ ap (front_box D items order) after in
    record {
      all = next;
      value = front_margins-more D items order m (k + 1) c.loop-k.sum _ inv.value
          (c.margin-sum-in-loop-k.ensures.value ∙ ap (margin_of D) next);
      bound = omega (arith, c.margin-sum-in-loop-k.ensures.bound, inv.bound);
    }

pub returns-clause-value : goal.returns-clause-value
returns-clause-value g c =
    let n = length c.args.places.now in
    let m = c.args.m in
    let whole : c.loop-k.k + 1 ≡ n + 1 - 2 * m =
    omega (arith, c.loop-k-test.false, c.loop-k.auto.k-end, c.requires.enough) in
    c.loop-k.invariant.value
    ∙ ap (front_margins_of g.row.D (items_of c.args.entries.now) c.args.places.now m) whole
