-- What listings show of layers that stand.
use Rattle.std.proofs.Common.{◌≡◌, ◌∙◌, ℕ, List, [], ◌∷◌, map, refl, sym, ap}
use Rattle.std.specs.FinMap.{len, len-entries}
use Rattle.catalog_page.specs.Layout.{Record}
use Rattle.node_page.specs.Standing.{PageMap}
use Rattle.page_file.specs.declared.header.Version.{Version}
use Rattle.plain_table.specs.Listings.{all_layers, layer_line}
use Rattle.plain_table.specs.Table.{Table}
use Rattle.live_layers.specs.Layers.{Holds, LayerStands, LayersStand, Reading, entry_of, row_of}
use Rattle.live_layers.specs.Listing.{record_line}

-- the record of a layer that stands says what a listing shows of it
line_of_reading : (pages : PageMap) (h : Reading) → LayerStands pages h
    → record_line h.row ≡ layer_line (entry_of h)
line_of_reading pages h stands =
    let count : h.row.count ≡ len h.layer.objects = sym (len-entries h.layer.objects ∙ stands.count) in
    λ i. record { name = h.row.name; dims = sym stands.dims i; fanout = sym stands.fanout i; count = count i }

lines_of_readings : (pages : PageMap) (hs : List Reading) → LayersStand pages hs
    → map record_line (map row_of hs) ≡ map layer_line (map entry_of hs)
lines_of_readings pages [] stand = refl
lines_of_readings pages (h ∷ hs) stand =
    λ i. line_of_reading pages h stand.0 i ∷ lines_of_readings pages hs stand.1 i

-- the records of a table show all of its layers
pub all_listed : {version : Version} (pages : PageMap) (next : ℕ) (records : List Record) (t : Table)
    → Holds pages next version records t → map record_line records ≡ all_layers t
all_listed pages next records t h = ap (map record_line) (sym h.rows)
    ∙ lines_of_readings pages h.layers h.stand ∙ ap (map layer_line) h.table
