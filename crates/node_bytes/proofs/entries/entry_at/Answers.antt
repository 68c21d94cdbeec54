-- The corners are those of the entry's box.
use Rattle.std.proofs.Common.{◌≡◌, ◌+◌, ◌*◌, rules, subst}
use Rattle.box_math.specs.Bounds.{Bounds, IsBox}
use Rattle.box_bytes.specs.Corners.{box_at}
use Rattle.box_bytes.specs.Laws.{box_at-is_box}
use Rattle.node_bytes.proofs.ColumnLemmas.{ordered_corners}
use Rattle.node_bytes.proofs.Places.{item_is}
use Rattle.node_bytes.proofs.entries.entry_at.Goals as goal

pub new-requires : goal.new-requires
new-requires g c =
    let page = c.args.page.now in
    let place = c.args.place in
    let there : IsBox g.row.D (box_at g.row.D page (16 + 4 * place) (416 + 4 * place) 800) =
    box_at-is_box g.row.D page (16 + 4 * place) (416 + 4 * place) 800 c.fits-page
    (ordered_corners g.row.D place page c.requires.ordered) in
    let same : ◌≡◌ {A = Bounds} (box_at g.row.D page (16 + 4 * place) (416 + 4 * place) 800)
    (record { low = c.read_corner-low.result; high = c.read_corner-high.result }) = cc in
    (search rules, (search rules, subst (IsBox g.row.D) same there))

pub returns : goal.returns
returns g c =
    item_is g.row.D c.args.place c.args.page.now _ c.read_u64-reference.result c.tag_in-tag.result (cc)
    c.read_u64-reference.ensures c.tag_in-tag.ensures
