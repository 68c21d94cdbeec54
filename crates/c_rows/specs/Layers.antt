-- Layers as C has them. Our rule, docs/LIBRARY.md.
use Rattle.std.specs.Prelude.{ℕ, List, ◌++◌, ◌-◌, length, replicate}
use Rattle.plain_table.specs.declared.rows.LayerInfo.{LayerInfo}
use Rattle.c_rows.specs.declared.layers.Layer.{Layer}

-- a name, and zeros up to 32 bytes
abbrev pub name_of : List ℕ → List ℕ
name_of name = name ++ replicate (32 - length name) 0

-- the row of a layer in a listing
abbrev pub layer_of : LayerInfo → Layer
layer_of info =
    record { count = info.count; name = name_of info.name.items; dims = info.dims; fanout = info.fanout }
