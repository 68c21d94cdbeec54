-- The answers that the results of a store's calls are.
use Rattle.std.specs.Prelude.{ℕ, [], ◌∷◌, Result, Ok, Err, Vec, map}
use Rattle.arrayvec.specs.ArrayVec.{ArrayVec}
use Rattle.box_math.specs.Objects.{Object}
use Rattle.plain_table.specs.Boxes.{shown_bounds}
use Rattle.plain_table.specs.Listings.{DumpLine, LayerLine}
use Rattle.plain_table.specs.Listings.DumpLine.{CreateLine, InsertLine}
use Rattle.plain_table.specs.Step.{Answer}
use Rattle.plain_table.specs.Step.Answer.{Done, Refused, Boxes, Counted, Distances, Pairs, Listed, Dumped}
use Rattle.plain_table.specs.declared.boxes.AnyBox.{AnyBox}
use Rattle.plain_table.specs.declared.refusal.Refusal.{Refusal}
use Rattle.plain_table.specs.declared.rows.DumpRow.{DumpRow}
use Rattle.plain_table.specs.declared.rows.DumpRow.TheVariants as row
use Rattle.plain_table.specs.declared.rows.LayerInfo.{LayerInfo}

-- the answer that the result of a change is
abbrev pub done_answer : Result (Unit {0}) Refusal → Answer
done_answer (Ok u) = Done
done_answer (Err r) = Refused r

-- an identifier with its box and its tag
abbrev pub row_of : ℕ × AnyBox × ℕ → ℕ × Object
row_of row = (row.0, (shown_bounds row.1, row.2))

-- the answer that an object is, got by its identifier
abbrev pub object_answer : ℕ → Result (AnyBox × ℕ) Refusal → Answer
object_answer id (Ok object) = Boxes ((id, (shown_bounds object.0, object.1)) ∷ [])
object_answer id (Err r) = Refused r

-- the answer that a count of objects is
abbrev pub count_answer : Result ℕ Refusal → Answer
count_answer (Ok count) = Counted count
count_answer (Err r) = Refused r

-- the answer that the result of a range query is
abbrev pub boxes_answer : {A : Type 0} → Result (Vec (ℕ × AnyBox × ℕ) A) Refusal → Answer
boxes_answer (Ok rows) = Boxes (map row_of rows.items)
boxes_answer (Err r) = Refused r

-- the answer that the nearest objects are
abbrev pub distances_answer : {A : Type 0} → Result (Vec (ℕ × ℕ) A) Refusal → Answer
distances_answer (Ok rows) = Distances rows.items
distances_answer (Err r) = Refused r

-- the answer that the pairs of a join are
abbrev pub pairs_answer : {A : Type 0} → Result (Vec (ℕ × ℕ) A) Refusal → Answer
pairs_answer (Ok pairs) = Pairs pairs.items
pairs_answer (Err r) = Refused r

-- the line of a layer in a listing
abbrev pub line_of_layer : LayerInfo → LayerLine
line_of_layer layer =
    record { name = layer.name.items; dims = layer.dims; fanout = layer.fanout; count = layer.count }

-- the answer that a listing of the layers is
abbrev pub layers_answer : Result (ArrayVec LayerInfo) Refusal → Answer
layers_answer (Ok layers) = Listed (map line_of_layer layers.items)
layers_answer (Err r) = Refused r

-- a line of a dump
abbrev pub line_of_row : DumpRow → DumpLine
line_of_row (row.Create name dims fanout) = CreateLine name.items dims fanout
line_of_row (row.Insert name id box tag) = InsertLine name.items id (shown_bounds box, tag)

-- the answer that a dump is
abbrev pub dump_answer : {A : Type 0} → Result (Vec DumpRow A) Refusal → Answer
dump_answer (Ok rows) = Dumped (map line_of_row rows.items)
dump_answer (Err r) = Refused r
