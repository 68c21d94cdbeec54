-- The entries before the place, those behind it, or both.
use Rattle.std.proofs.Common.{◌∙◌, ◌-◌, ap, arith, rules}
use Rattle.block_bytes.specs.PlaceLaws.{length-first_places}
use Rattle.box_math.specs.Bounds.{Bounds, join_of}
use Rattle.tree_node.specs.Boxes.{least_box}
use Rattle.node_bytes.specs.Layout.{item_at}
use Rattle.node_bytes.proofs.BesideLemmas.{both_parts, only_before, only_behind}
use Rattle.node_bytes.proofs.view.NodeView.least_beside.Goals as goal

pub overflow_sub-behind : goal.overflow_sub-behind
overflow_sub-behind g c =
    let view = c.args.self.now in
    let many = length-first_places (item_at g.row.D view.page.now) view.count in
    omega (arith, many, c.requires.within)

pub overflow_sub-behind-2 : goal.overflow_sub-behind-2
overflow_sub-behind-2 g c =
    let view = c.args.self.now in
    let many = length-first_places (item_at g.row.D view.page.now) view.count in
    omega (arith, many, c.requires.within)

pub least_in-requires : goal.least_in-requires
least_in-requires g c =
    let view = c.args.self.now in
    let many = length-first_places (item_at g.row.D view.page.now) view.count in (
      search rules,
      (
        view.dims,
        (
          (
            omega (arith, many, c.requires.others, c.if-place-eq0.true),
            omega (arith, many, c.requires.others, c.if-place-eq0.true, view.laid_out.few),
          ),
          λ place le lt. (view.laid_out.each place
              (omega (arith, lt, many, c.requires.others, c.if-place-eq0.true))).ordered,
        ),
      ),
    )

pub returns-then-place-eq0 : goal.returns-then-place-eq0
returns-then-place-eq0 g c =
    let view = c.args.self.now in
    let at = item_at g.row.D view.page.now in
    let many = length-first_places at view.count in
    c.least_in.ensures
    ∙ ap (least_box g.row.D) (only_behind g.row.D at view.count c.args.place (view.count - c.args.place - 1)
    (omega (arith, many, c.requires.within)) c.if-place-eq0.true)

pub least_in-before-requires : goal.least_in-before-requires
least_in-before-requires g c =
    let view = c.args.self.now in
    let many = length-first_places (item_at g.row.D view.page.now) view.count in (
      search rules,
      (
        view.dims,
        (
          (omega (arith, c.if-place-eq0.false), omega (arith, many, c.requires.within, view.laid_out.few)),
          λ place le lt. (view.laid_out.each place (omega (arith, lt, many, c.requires.within))).ordered,
        ),
      ),
    )

pub returns-then-behind-eq0 : goal.returns-then-behind-eq0
returns-then-behind-eq0 g c =
    let view = c.args.self.now in
    let at = item_at g.row.D view.page.now in
    let many = length-first_places at view.count in
    c.least_in-before.ensures
    ∙ ap (least_box g.row.D) (only_before g.row.D at view.count c.args.place (view.count - c.args.place - 1)
    (omega (arith, many, c.requires.within)) c.if-behind-eq0.true)

pub returns : goal.returns
returns g c =
    let view = c.args.self.now in
    let at = item_at g.row.D view.page.now in
    let many = length-first_places at view.count in
    c.join.ensures.value ∙ ap (λ (a : Bounds). join_of g.row.D a c.least_in-2.result) c.least_in-before.ensures
    ∙ ap (join_of g.row.D _) c.least_in-2.ensures
    ∙ both_parts g.row.D at view.count c.args.place (view.count - c.args.place - 1)
    (omega (arith, many, c.requires.within)) (omega (arith, c.if-place-eq0.false))
    (omega (arith, c.if-behind-eq0.false))
