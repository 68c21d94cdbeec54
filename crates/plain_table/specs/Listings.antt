-- What a listing of the layers shows, and a dump of all objects. Our rule, docs/COMMANDS.md.
use Rattle.std.specs.Prelude.{ℕ, List, ◌∷◌, map, flat_map}
use Rattle.std.specs.FinMap.{entries, len}
use Rattle.box_math.specs.Objects.{Object}
use Rattle.plain_table.specs.Table.{Layer, Table}

-- what a listing shows of a layer
pub record LayerLine : Type 0 where
  pub name : List ℕ
  pub dims : ℕ
  pub fanout : ℕ
  pub count : ℕ

-- a line of a dump: the command that makes a layer, or one that adds an object to it
pub data DumpLine : Type 0 where
  CreateLine : List ℕ → ℕ → ℕ → DumpLine
  InsertLine : List ℕ → ℕ → Object → DumpLine

-- the line of a layer in a listing
abbrev pub layer_line : List ℕ × Layer → LayerLine
layer_line entry =
    record { name = entry.0; dims = entry.1.dims; fanout = entry.1.fanout; count = len entry.1.objects }

-- the lines of a layer and its objects in a dump, ascending by identifier
abbrev pub dump_lines : List ℕ × Layer → List DumpLine
dump_lines entry =
    CreateLine entry.0 entry.1.dims entry.1.fanout ∷ map (λ object. InsertLine entry.0 object.0 object.1)
    (entries entry.1.objects)

-- the layers, ascending by name
abbrev pub all_layers : Table → List LayerLine
all_layers t = map layer_line (entries t)

-- all that there is, layer by layer
abbrev pub all_lines : Table → List DumpLine
all_lines t = flat_map dump_lines (entries t)
