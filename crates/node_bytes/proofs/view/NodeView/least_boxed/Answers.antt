-- The entry is the only one, or there are others.
use Rattle.std.proofs.Common.{◌∙◌, ap, arith, rules, sym}
use Rattle.block_bytes.specs.PlaceLaws.{length-first_places}
use Rattle.box_math.specs.Bounds.{Bounds, join_of}
use Rattle.node_bytes.specs.Layout.{item_at}
use Rattle.node_bytes.specs.Views.{content_in}
use Rattle.node_bytes.proofs.BesideLemmas.{least_box-set_alone, least_box-set_beside}
use Rattle.node_bytes.proofs.view.NodeView.least_boxed.Goals as goal

pub returns-then-self-eq1 : goal.returns-then-self-eq1
returns-then-self-eq1 g c =
    let view = c.args.self.now in
    let many = length-first_places (item_at g.row.D view.page.now) view.count in
    sym (least_box-set_alone g.row.D (content_in view).entries c.args.place c.args.bounds.now c.requires
    (omega (arith, many, c.if-self-eq1.true)))

pub least_beside-requires : goal.least_beside-requires
least_beside-requires g c =
    let view = c.args.self.now in
    let many = length-first_places (item_at g.row.D view.page.now) view.count in
    (search rules, (search rules, (c.requires, omega (arith, many, c.requires, c.if-self-eq1.false))))

pub returns : goal.returns
returns g c =
    let view = c.args.self.now in
    let many = length-first_places (item_at g.row.D view.page.now) view.count in
    c.join.ensures.value
    ∙ ap (λ (b : Bounds). join_of g.row.D b c.args.bounds.now) c.least_beside.ensures
    ∙ sym (least_box-set_beside g.row.D (content_in view).entries c.args.place c.args.bounds.now c.requires
    (omega (arith, many, c.requires, c.if-self-eq1.false)))
