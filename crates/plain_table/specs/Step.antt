-- What a command answers and what it changes, on the plain table. Our rule, docs/COMMANDS.md.
use Rattle.std.specs.Prelude.{ℕ, ◌+◌, Bool, false, not, ◌&&◌, ◌==◌, nat_le, nat_lt, List, [], ◌∷◌, length}
use Rattle.std.specs.Prelude.{if◌then◌else◌, Option, Some, None, is_some, filter, flat_map, map as each, take}
use Rattle.std.specs.Prelude.{unwrap_or}
use Rattle.std.specs.FinMap as map
use Rattle.box_math.specs.Measures.{near_test}
use Rattle.box_math.specs.Nearest.{by_distance}
use Rattle.box_math.specs.Objects.{Object, bounds_of, tag_of}
use Rattle.plain_table.specs.Boxes.{dims_of, given_bounds, given_point, is_ordered, point_dims, same_bounds}
use Rattle.plain_table.specs.Commands.{Command}
use Rattle.plain_table.specs.Commands.Command.{Create, Insert, Load, Move, Delete, Drop, Get, Count, Range}
use Rattle.plain_table.specs.Commands.Command.{Nearest, Join, Layers, Dump, Check, Reopen}
use Rattle.plain_table.specs.Listings.{DumpLine, LayerLine, all_layers, all_lines}
use Rattle.plain_table.specs.Loads.{GivenObjects, are_ordered, have_dims, ids_of, least_repeated}
use Rattle.plain_table.specs.Loads.{with_objects}
use Rattle.plain_table.specs.Nearest.{is_count}
use Rattle.plain_table.specs.Queries.{is_wanted}
use Rattle.plain_table.specs.Table.{Table, Layer, is_layer_name, is_dims, is_fanout, most_layers}
use Rattle.plain_table.specs.Table.{most_objects, object_count, layer_at, object_at, object_box, with_object}
use Rattle.plain_table.specs.Table.{without_object}
use Rattle.plain_table.specs.declared.boxes.RawBox.{RawBox}
use Rattle.plain_table.specs.declared.boxes.RawPoint.{RawPoint}
use Rattle.plain_table.specs.declared.queries.RawQuery.{RawQuery}
use Rattle.plain_table.specs.declared.queries.RawQuery.TheVariants as query
use Rattle.plain_table.specs.declared.refusal.Refusal.{Refusal}
use Rattle.plain_table.specs.declared.refusal.Refusal.TheVariants as refusal

-- what a command is answered
pub data Answer : Type 0 where
  Done : Answer
  Refused : Refusal → Answer
  Boxes : List (ℕ × Object) → Answer
  Counted : ℕ → Answer
  Distances : List (ℕ × ℕ) → Answer
  Pairs : List (ℕ × ℕ) → Answer
  Listed : List LayerLine → Answer
  Dumped : List DumpLine → Answer

-- the first refusal whose condition holds
abbrev pub first_refusal : List (Bool × Refusal) → Option Refusal
first_refusal [] = None
first_refusal (c ∷ cs) = if c.0 then Some c.1 else first_refusal cs

-- a name that is none, or that no layer has, before further refusals
abbrev pub layer_refusals : Table → List ℕ → List (Bool × Refusal) → List (Bool × Refusal)
layer_refusals t name more =
    (not (is_layer_name name), refusal.BadName) ∷ (not (map.contains_key t name), refusal.NoLayer) ∷ more

-- a box of another dimension than the layer, or one with a low above its high, before further refusals
abbrev pub box_refusals : ℕ → RawBox → List (Bool × Refusal) → List (Bool × Refusal)
box_refusals dims box more =
    (not (dims_of box == dims), refusal.WrongDims)
    ∷ (not (is_ordered (dims_of box) (given_bounds box)), refusal.BadBox) ∷ more

-- a point of another dimension than the layer, before further refusals
abbrev pub point_refusals : ℕ → RawPoint → List (Bool × Refusal) → List (Bool × Refusal)
point_refusals dims point more = (not (point_dims point == dims), refusal.WrongDims) ∷ more

-- an object whose box is refused, that is there, or for which there is no room
abbrev pub object_refusals : Layer → ℕ → RawBox → Bool → List (Bool × Refusal)
object_refusals layer id box is_full =
    box_refusals layer.dims box
    ((map.contains_key layer.objects id, refusal.Duplicate) ∷ (is_full, refusal.TooManyObjects) ∷ [])

-- an object that is not there
abbrev pub missing_refusals : Layer → ℕ → List (Bool × Refusal)
missing_refusals layer id = (not (map.contains_key layer.objects id), refusal.NoObject) ∷ []

-- A load whose boxes are refused, into a layer with objects, with an identifier twice, or for which there is
-- no room beside so many objects of all layers; the least identifier that stands twice is named.
abbrev pub load_refusals : Layer → GivenObjects → ℕ → List (Bool × Refusal)
load_refusals layer objects count =
    (not (have_dims layer.dims objects), refusal.WrongDims) ∷ (not (are_ordered objects), refusal.BadBox)
    ∷ (nat_lt 0 (map.len layer.objects), refusal.NotEmpty)
    ∷ (
      is_some (least_repeated (ids_of objects)),
      refusal.DuplicateInLoad (unwrap_or (least_repeated (ids_of objects)) 0),
    )
    ∷ (nat_lt most_objects (count + length objects), refusal.TooManyObjects) ∷ []

-- a query whose box or point is refused
abbrev pub query_refusals : ℕ → RawQuery → List (Bool × Refusal)
query_refusals dims (query.Window window) = box_refusals dims window []
query_refusals dims (query.Inside window) = box_refusals dims window []
query_refusals dims (query.Around inner) = box_refusals dims inner []
query_refusals dims (query.Point point) = point_refusals dims point []

-- so many nearest objects to a point that is refused, or a number of them that may not be asked for
abbrev pub nearest_refusals : ℕ → ℕ → RawPoint → List (Bool × Refusal)
nearest_refusals dims k point = point_refusals dims point ((not (is_count k), refusal.BadCount) ∷ [])

-- Two names of which one is none, or one that no layer has, or of layers with different numbers of axes. Both
-- names are tried before it is asked whether there are such layers.
abbrev pub join_refusals : Table → List ℕ → List ℕ → List (Bool × Refusal)
join_refusals t first second =
    (not (is_layer_name first && is_layer_name second), refusal.BadName)
    ∷ (not (map.contains_key t first && map.contains_key t second), refusal.NoLayer)
    ∷ (not ((layer_at t first).dims == (layer_at t second).dims), refusal.DimsDiffer) ∷ []

-- the refusals of a command, in the order in which they are tried
abbrev pub refusals_of : Table → Command → List (Bool × Refusal)
refusals_of t (Create name dims fanout) =
    (not (is_layer_name name), refusal.BadName) ∷ (not (is_dims dims), refusal.BadDims)
    ∷ (not (is_fanout fanout), refusal.BadFanout)
    ∷ (map.contains_key t name, refusal.LayerExists)
    ∷ (nat_le most_layers (map.len t), refusal.TooManyLayers) ∷ []
refusals_of t (Insert name id box tag) =
    layer_refusals t name (object_refusals (layer_at t name) id box (nat_le most_objects (object_count t)))
refusals_of t (Load name objects) =
    layer_refusals t name (load_refusals (layer_at t name) objects (object_count t))
refusals_of t (Move name id box) =
    layer_refusals t name (box_refusals (layer_at t name).dims box (missing_refusals (layer_at t name) id))
refusals_of t (Delete name id) = layer_refusals t name (missing_refusals (layer_at t name) id)
refusals_of t (Drop name) = layer_refusals t name []
refusals_of t (Get name id) = layer_refusals t name (missing_refusals (layer_at t name) id)
refusals_of t (Count name) = layer_refusals t name []
refusals_of t (Range name query tag) = layer_refusals t name (query_refusals (layer_at t name).dims query)
refusals_of t (Nearest name k point) = layer_refusals t name (nearest_refusals (layer_at t name).dims k point)
refusals_of t (Join first second within) = join_refusals t first second
refusals_of t Layers = []
refusals_of t Dump = []
refusals_of t Check = []
refusals_of t Reopen = []

-- the refusal of a command, if there is one
abbrev pub refusal_of : Table → Command → Option Refusal
refusal_of t c = first_refusal (refusals_of t c)

-- no refusal of the command's conditions holds
abbrev pub is_admitted : Table → Command → Bool
is_admitted t c = not (is_some (refusal_of t c))

-- the table after a command that was not refused
abbrev pub changed : Table → Command → Table
changed t (Create name dims fanout) =
    map.insert t name (record { dims = dims; fanout = fanout; objects = map.empty })
changed t (Insert name id box tag) =
    map.insert t name (with_object (layer_at t name) id (given_bounds box, tag))
changed t (Load name objects) = map.insert t name (with_objects (layer_at t name) objects)
changed t (Move name id box) =
    map.insert t name
    (with_object (layer_at t name) id (given_bounds box, tag_of (object_at (layer_at t name) id)))
changed t (Delete name id) = map.insert t name (without_object (layer_at t name) id)
changed t (Drop name) = map.remove t name
changed t c = t

-- the object of that identifier, with its identifier
abbrev pub object_row : Layer → ℕ → ℕ × Object
object_row layer id = (id, object_at layer id)

-- the objects of a layer that a query seeks, of those with the tag that it asks for, ascending by identifier
abbrev pub range_rows : Layer → RawQuery → Option ℕ → List (ℕ × Object)
range_rows layer query tag = filter (λ row. is_wanted layer.dims query tag row.1) (map.entries layer.objects)

-- the k objects of a layer that are nearest to a point, or all of fewer: identifiers with squared distances,
-- by distance, and of equal distances by identifier
abbrev pub nearest_rows : Layer → ℕ → RawPoint → List (ℕ × ℕ)
nearest_rows layer k point = take k (by_distance layer.dims (given_point point) (map.entries layer.objects))

-- all pairs of an object of one layer and an object of another whose boxes have at most this squared
-- distance: their identifiers, ascending by the first and then by the second
abbrev pub join_rows : Layer → Layer → ℕ → List (ℕ × ℕ)
join_rows first second within =
    flat_map
    (λ object. each (λ other. (object.0, other.0))
    (filter (λ other. near_test first.dims within (bounds_of object.1) (bounds_of other.1))
    (map.entries second.objects)))
    (map.entries first.objects)

-- the answer to a command that was not refused
abbrev pub answer_of : Table → Command → Answer
answer_of t (Create name dims fanout) = Done
answer_of t (Insert name id box tag) = Done
answer_of t (Load name objects) = Done
answer_of t (Move name id box) = Done
answer_of t (Delete name id) = Done
answer_of t (Drop name) = Done
answer_of t (Get name id) = Boxes (object_row (layer_at t name) id ∷ [])
answer_of t (Count name) = Counted (map.len (layer_at t name).objects)
answer_of t (Range name query tag) = Boxes (range_rows (layer_at t name) query tag)
answer_of t (Nearest name k point) = Distances (nearest_rows (layer_at t name) k point)
answer_of t (Join first second within) = Pairs (join_rows (layer_at t first) (layer_at t second) within)
answer_of t Layers = Listed (all_layers t)
answer_of t Dump = Dumped (all_lines t)
answer_of t Check = Done
answer_of t Reopen = Done

-- the refusal, if there is one, and else the answer
abbrev pub refused_or : Option Refusal → Answer → Answer
refused_or (Some r) answer = Refused r
refused_or None answer = answer

-- the old table where there is a refusal, and else the new one
abbrev pub kept_or : Option Refusal → Table → Table → Table
kept_or (Some r) old new = old
kept_or None old new = new

-- the command changes the table: it is not refused, and is no load of nothing and no move to the box that the
-- object has
abbrev pub changes : Table → Command → Bool
changes t (Create name dims fanout) = is_admitted t (Create name dims fanout)
changes t (Insert name id box tag) = is_admitted t (Insert name id box tag)
changes t (Load name objects) = is_admitted t (Load name objects) && nat_lt 0 (length objects)
changes t (Move name id box) = is_admitted t (Move name id box)
    && not (same_bounds (object_box (layer_at t name) id) (given_bounds box))
changes t (Delete name id) = is_admitted t (Delete name id)
changes t (Drop name) = is_admitted t (Drop name)
changes t c = false

-- what a command is answered
abbrev pub reply_of : Table → Command → Answer
reply_of t c = refused_or (refusal_of t c) (answer_of t c)

-- the table that it leaves: a refused command changes nothing
abbrev pub after : Table → Command → Table
after t c = kept_or (refusal_of t c) t (changed t c)
