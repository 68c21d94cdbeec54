use Rattle.std.proofs.Common.{rules, refl, arith, ◌≡◌, ◌+◌, ◌-◌, length, ap, sym, subst, ◌∙◌}
use Rattle.std.proofs.lemmas.List.{length-map}
use Rattle.box_math.specs.Bounds.{join_of}
use Rattle.tree_node.specs.Nodes.{item_of, items_of}
use Rattle.tree_node.specs.Keys.{AtMost}
use Rattle.rstar_split.specs.declared.cuts.Cut.{Cut}
use Rattle.rstar_split.specs.Cuts.{front_box, order_key, numbers_of, IsLeastCut}
use Rattle.rstar_split.proofs.CutLaws.{all_below, front_box-more, least_cut_of_one, least_cut_keeps}
use Rattle.rstar_split.proofs.CutLaws.{least_cut_takes}
use Rattle.rstar_split.proofs.cuts.best_cut.Goals as goal
use Rattle.rstar_split.proofs.cuts.best_cut.Goals.{then-not-at_most, else-not-at_most}

pub loop-size-init : goal.loop-size-init
loop-size-init g c =
    let D = g.row.D in
    let items = items_of c.args.entries.now in
    let order = c.args.places.now in
    let m = c.args.m in
    let same : m ≡ m + 1 - 1 = omega arith in
    record {
      bound = c.cut_between-best.ensures.bound;
      front = c.front_at-front.ensures ∙ ap (front_box D items order) same;
      least = least_cut_of_one D items order (length order) m c.args.bound c.cut_between-best.result.size _
          c.requires.enough c.cut_between-best.ensures.size
          (c.cut_between-best.ensures.key items order c.front_at-front.ensures
          (c.back_boxes.ensures m c.index-backs-m.result (omega arith)
          (omega (arith, c.requires.some, c.requires.enough))));
    }

pub loop-size-preserved : goal.loop-size-preserved
loop-size-preserved g c =
    let D = g.row.D in
    let items = items_of c.args.entries.now in
    let order = c.args.places.now in
    let n = length order in
    let m = c.args.m in
    let sort = c.args.bound in
    let size = c.loop-size.size in
    let i = c.loop-size.invariant in
    let b = c.loop-size.best in
    let cut = c.cut_between-cut.result in
    let below =
    all_below items order (length c.args.entries.now) (length-map c.args.entries.now item_of)
    c.requires.below in
    let low = c.loop-size.auto.size in
    let high = c.loop-size-test.true in
    let more =
    front_box-more D items order (size - 1) (omega (arith, low, c.requires.some))
    (omega (arith, low, high, c.requires.some)) below in
    let same : size - 1 + 1 ≡ size = omega (arith, low) in
    let front : c.join-front.result ≡ front_box D items order size = c.join-front.ensures.value
    ∙ ap (λ x. join_of D x c.box_of.result) i.front
    ∙ ap (join_of D (front_box D items order (size - 1))) c.box_of.ensures.value ∙ sym more
    ∙ ap (front_box D items order) same in
    let key : numbers_of cut ≡ order_key D items order sort size =
    c.cut_between-cut.ensures.key items order front
    (c.back_boxes.ensures size c.index-backs-size.result (omega (arith, low))
    (omega (arith, high, c.requires.some))) in
    let turn : Cut
    → Type 0 =
    λ x. record {
      bound : x.bound ≡ sort;
      front : c.join-front.result ≡ front_box D items order (size + 1 - 1);
      least : IsLeastCut D items order n m sort (size + 1) x.size (numbers_of x);
    } in
    let next : size ≡ size + 1 - 1 = omega arith in
    elim c.if-not-at_most.branch [
      | then-not-at_most w ↦
          subst turn (sym w.best-is) (record {
            bound = c.cut_between-cut.ensures.bound;
            front = front ∙ ap (front_box D items order) next;
            least =
                let taken : IsLeastCut D items order n m sort (size + 1) size (numbers_of cut) =
                least_cut_takes D items order n m sort size b.size (numbers_of b) (numbers_of cut)
                i.least (omega (arith, low)) (omega (arith, high)) key refl
                (λ h. let t = c.at_most.ensures.1 h in search rules) in
                subst (λ s. IsLeastCut D items order n m sort (size + 1) s (numbers_of cut))
                (sym c.cut_between-cut.ensures.size) taken;
          })
      | else-not-at_most w ↦
          subst turn (sym w.best-is) (record {
            bound = i.bound;
            front = front ∙ ap (front_box D items order) next;
            least =
                least_cut_keeps D items order n m sort size b.size (numbers_of b) i.least
                (subst (AtMost (numbers_of b)) key (c.at_most.ensures.0 (search rules)));
          })
    ]

pub returns-clause-least : goal.returns-clause-least
returns-clause-least g c =
    let n = length c.args.places.now in
    let whole : c.loop-size.size ≡ n + 1 - c.args.m =
    omega (arith, c.loop-size-test.false, c.loop-size.auto.size-end, c.requires.enough) in
    subst
    (λ limit. IsLeastCut g.row.D (items_of c.args.entries.now) c.args.places.now n c.args.m c.args.bound limit
    c.loop-size.best.size (numbers_of c.loop-size.best)) whole c.loop-size.invariant.least
