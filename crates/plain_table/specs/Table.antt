-- The plain table: layers by name, and in each its objects by identifier. Our rule, docs/COMMANDS.md.
use Rattle.std.specs.Prelude.{ℕ, ◌^◌, Bool, ◌&&◌, ◌||◌, ◌==◌, nat_le, List, [], length, slice_index}
use Rattle.std.specs.Prelude.{unwrap_or, sum_by}
use Rattle.std.specs.List.{list_all}
use Rattle.std.specs.Ordering.{nat_cmp}
use Rattle.std.specs.Cmp.Lexicographic.{slice_cmp}
use Rattle.std.specs.FinMap.{FinMap}
use Rattle.std.specs.FinMap as map
use Rattle.box_math.specs.Bounds.{Bounds}
use Rattle.box_math.specs.Objects.{Object, bounds_of}

-- the objects of a layer: what is kept of each, by identifier
abbrev pub Objects : Type 0
Objects = FinMap nat_cmp Object

-- a layer: how many axes its boxes have, how many entries its nodes may have, and its objects
pub record Layer : Type 0 where
  pub dims : ℕ
  pub fanout : ℕ
  pub objects : Objects

-- the layers by name, in the order of the names' bytes
abbrev pub Table : Type 0
Table = FinMap (slice_cmp nat_cmp) Layer

-- `a` to `z`
abbrev pub is_letter : ℕ → Bool
is_letter byte = nat_le 97 byte && nat_le byte 122

-- a letter, a digit or an underscore
abbrev pub is_name_byte : ℕ → Bool
is_name_byte byte = is_letter byte || ((nat_le 48 byte && nat_le byte 57) || byte == 95)

-- 1 to 24 letters, digits and underscores, the first a letter
abbrev pub is_layer_name : List ℕ → Bool
is_layer_name name = nat_le 1 (length name)
    && (nat_le (length name) 24 && (is_letter (slice_index name 0) && list_all is_name_byte name))

-- boxes have two or three axes
abbrev pub is_dims : ℕ → Bool
is_dims dims = dims == 2 || dims == 3

-- a node may have 4 to 100 entries
abbrev pub is_fanout : ℕ → Bool
is_fanout fanout = nat_le 4 fanout && nat_le fanout 100

-- how many layers there may be
abbrev pub most_layers : ℕ
most_layers = 60

-- how many objects there may be in all layers together
abbrev pub most_objects : ℕ
most_objects = 2 ^ 30

-- how many objects there are in all layers together
abbrev pub object_count : Table → ℕ
object_count t = sum_by (λ layer. map.len layer.objects) (map.values t)

-- what is taken for the layer where there is none of that name
abbrev pub no_layer : Layer
no_layer = record { dims = 0; fanout = 0; objects = map.empty }

-- the layer of that name
abbrev pub layer_at : Table → List ℕ → Layer
layer_at t name = unwrap_or (map.get t name) no_layer

-- what is taken for an object where there is none of that identifier
abbrev pub no_object : Object
no_object = (record { low = []; high = [] }, 0)

-- the object of that identifier
abbrev pub object_at : Layer → ℕ → Object
object_at layer id = unwrap_or (map.get layer.objects id) no_object

-- its box
abbrev pub object_box : Layer → ℕ → Bounds
object_box layer id = bounds_of (object_at layer id)

-- the layer with an object more, or with another one in its place
abbrev pub with_object : Layer → ℕ → Object → Layer
with_object layer id object = record layer { objects = map.insert layer.objects id object }

-- the layer without an object
abbrev pub without_object : Layer → ℕ → Layer
without_object layer id = record layer { objects = map.remove layer.objects id }
