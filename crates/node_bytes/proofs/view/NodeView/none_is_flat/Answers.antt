-- The columns of the page are those of the entries.
use Rattle.std.proofs.Common.{◌≡◌, ◌<◌, ◌∙◌, ◌<ℤ◌, Some, subst, sym, ap, arith}
use Rattle.std.proofs.lemmas.Option.{get_or_from_slice_get, slice_get-get_or, slice_get_within}
use Rattle.std.specs.Prelude.{slice_get}
use Rattle.block_bytes.specs.PlaceLaws.{get_or-first_places, length-first_places}
use Rattle.box_math.specs.Bounds.{on_axis}
use Rattle.tree_node.specs.Nodes.{Item}
use Rattle.node_bytes.specs.Layout.{item_at, items_at}
use Rattle.node_bytes.proofs.ColumnLemmas.{high_read, low_read}
use Rattle.node_bytes.proofs.view.NodeView.none_is_flat.Goals as goal

pub returns : goal.returns
returns g c =
    let D = g.row.D in
    let view = c.args.self.now in
    let page = view.page.now in
    let at = item_at D page in
    let items = items_at D page view.count in
    let many = length-first_places at view.count in (
      λ always axis place item below there.
          let within : place < view.count = omega (arith, many, slice_get_within items place item there) in
          let here : at place ≡ item = sym (get_or-first_places at view.count place item within)
          ∙ get_or_from_slice_get items place item item there in
          let ascends = c.none_is_flat.ensures.0 always axis place below within in
          subst (λ (i : Item). on_axis i.bounds.low axis <ℤ on_axis i.bounds.high axis) here
          (rw (low_read D place page axis below, high_read D place page axis below) ascends),
      λ each. c.none_is_flat.ensures.1 (λ axis place below within.
          let there : slice_get items place ≡ Some (at place) =
          slice_get-get_or items place (at place) (omega (arith, many, within))
          ∙ ap Some (get_or-first_places at view.count place (at place) within) in
          rw (← low_read D place page axis below, ← high_read D place page axis below)
          (each axis place (at place) below there)),
    )
