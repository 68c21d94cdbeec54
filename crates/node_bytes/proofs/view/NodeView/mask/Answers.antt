-- Each bit answers for the entry in its place, and those past the last are clear.
use Rattle.std.proofs.Common.{◌≡◌, ◌<◌, ◌∙◌, ◌&&◌, sym, ap, arith}
use Rattle.std.proofs.lemmas.Bool.{le-ltb, lt-ltb}
use Rattle.std.proofs.lemmas.Option.{get_or_from_slice_get, slice_get_within}
use Rattle.block_bytes.specs.PlaceLaws.{get_or-first_places, length-first_places}
use Rattle.box_math.specs.Bounds.{meets_test}
use Rattle.tree_node.specs.Nodes.{Item}
use Rattle.node_bytes.specs.Layout.{item_at, items_at}
use Rattle.node_bytes.proofs.view.NodeView.mask.Goals as goal

pub returns-clause-met : goal.returns-clause-met
returns-clause-met g c place item there =
    let view = c.args.self.now in
    let at = item_at g.row.D view.page.now in
    let items = items_at g.row.D view.page.now view.count in
    let window = c.args.window.now in
    let many = length-first_places at view.count in
    let within : place < view.count = omega (arith, many, slice_get_within items place item there) in
    let here : at place ≡ item = sym (get_or-first_places at view.count place item within)
    ∙ get_or_from_slice_get items place item item there in
    c.mask_in.ensures place
    ∙ ap (λ b. b && meets_test g.row.D (at place).bounds window) (lt-ltb place view.count within)
    ∙ ap (λ (i : Item). meets_test g.row.D i.bounds window) here

pub returns-clause-none : goal.returns-clause-none
returns-clause-none g c place past =
    let view = c.args.self.now in
    let many = length-first_places (item_at g.row.D view.page.now) view.count in
    c.mask_in.ensures place
    ∙ ap (λ b. b && meets_test g.row.D (item_at g.row.D view.page.now place).bounds c.args.window.now)
    (le-ltb place view.count (omega (arith, many)))
