-- The entry is that of its place, which holds one.
use Rattle.std.proofs.Common.{◌<◌, ◌∙◌, sym, arith, rules}
use Rattle.block_bytes.specs.PlaceLaws.{get_or-first_places, length-first_places}
use Rattle.node_bytes.specs.Layout.{item_at}
use Rattle.node_bytes.proofs.view.NodeView.entry.Goals as goal

pub entry_at-requires : goal.entry_at-requires
entry_at-requires g c =
    let view = c.args.self.now in
    let many = length-first_places (item_at g.row.D view.page.now) view.count in
    let within : c.args.place < view.count = omega (arith, many) in (
      search rules,
      (
        view.dims,
        (omega (arith, view.laid_out.few), (view.tags, (view.laid_out.each c.args.place within).ordered)),
      ),
    )

pub returns : goal.returns
returns g c =
    let view = c.args.self.now in
    let many = length-first_places (item_at g.row.D view.page.now) view.count in
    c.entry_at.ensures
    ∙ sym (get_or-first_places (item_at g.row.D view.page.now) view.count c.args.place _
    (omega (arith, many)))
