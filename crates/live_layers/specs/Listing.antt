-- What a listing shows of a record, and what a dump shows of layers that were read (our rule,
-- docs/COMMANDS.md).
use Rattle.std.specs.Prelude.{List, map, flat_map}
use Rattle.catalog_page.specs.Layout.{Record}
use Rattle.plain_table.specs.Answers.{line_of_row}
use Rattle.plain_table.specs.Listings.{DumpLine, LayerLine, dump_lines}
use Rattle.plain_table.specs.declared.rows.DumpRow.{DumpRow}
use Rattle.live_layers.specs.Layers.{Reading, entry_of}

-- the line of the layer of a record in a listing
abbrev pub record_line : Record → LayerLine
record_line r = record { name = r.name; dims = r.dims; fanout = r.fanout; count = r.count }

-- the lines that rows of a dump are
abbrev pub lines_of : List DumpRow → List DumpLine
lines_of rows = map line_of_row rows

-- the lines of layers in a dump, layer by layer
abbrev pub lines_of_layers : List Reading → List DumpLine
lines_of_layers hs = flat_map dump_lines (map entry_of hs)
