-- The view has an entry in each of its places.
use Rattle.std.proofs.Common.{◌≡◌, ◌∙◌, ◌+◌, ap, arith, rules}
use Rattle.block_bytes.specs.PlaceLaws.{first_places-same, length-first_places}
use Rattle.tree_node.specs.Boxes.{least_box}
use Rattle.node_bytes.specs.Layout.{item_at}
use Rattle.node_bytes.proofs.Writing.{nothing}
use Rattle.node_bytes.proofs.view.NodeView.least.Goals as goal

pub least_in-requires : goal.least_in-requires
least_in-requires g c =
    let view = c.args.self.now in
    let many = length-first_places (item_at g.row.D view.page.now) view.count in (
      search rules,
      (
        view.dims,
        (
          (omega (arith, many, c.requires), omega (arith, view.laid_out.few)),
          λ place le lt. (view.laid_out.each place (omega (arith, lt))).ordered,
        ),
      ),
    )

pub returns : goal.returns
returns g c =
    let view = c.args.self.now in
    let at = item_at g.row.D view.page.now in
    c.least_in.ensures
    ∙ ap (least_box g.row.D) (first_places-same (λ k. at (0 + k)) at view.count nothing
    (λ k lt. let same : 0 + k ≡ k = omega arith in ap at same))
