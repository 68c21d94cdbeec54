-- The texts of replies. Our rule, docs/COMMANDS.md.
use Rattle.std.specs.Prelude.{ℕ, ◌==◌, List, [], ◌∷◌, ◌++◌, length, if◌then◌else◌, codes, decimal, flat_map}
use Rattle.std.specs.Prelude.{map, ℤ}
use Rattle.std.specs.Fmt.{signed_decimal}
use Rattle.box_math.specs.Bounds.{Bounds}
use Rattle.box_math.specs.Objects.{Object, bounds_of, tag_of}
use Rattle.plain_table.specs.Answers.{line_of_row, row_of}
use Rattle.plain_table.specs.Listings.{DumpLine, LayerLine}
use Rattle.plain_table.specs.Listings.DumpLine.{CreateLine, InsertLine}
use Rattle.plain_table.specs.Refusals.{refusal_name, refusal_number}
use Rattle.plain_table.specs.Step.{Answer}
use Rattle.plain_table.specs.Step.Answer.{Done, Refused, Boxes, Counted, Distances, Pairs, Listed, Dumped}
use Rattle.plain_table.specs.declared.refusal.Refusal.{Refusal}
use Rattle.plain_table.specs.declared.refusal.Refusal.TheVariants as refusal
use Rattle.command_language.specs.Lines.{newline}
use Rattle.reply_texts.specs.declared.replies.Reply.{Reply}
use Rattle.reply_texts.specs.declared.replies.Reply.TheVariants as reply

-- the byte between two words of a reply
abbrev pub space : ℕ
space = 32

-- a space, and the coordinate in decimal
abbrev pub coordinate_text : ℤ → List ℕ
coordinate_text c = space ∷ signed_decimal c

-- coordinates, each after its space
abbrev pub coordinates_text : List ℤ → List ℕ
coordinates_text cs = flat_map coordinate_text cs

-- the lows of a box, and then its highs
abbrev pub bounds_text : Bounds → List ℕ
bounds_text b = coordinates_text b.low ++ coordinates_text b.high

-- the tag of an object behind its box, nothing where it is 0
abbrev pub tag_text : ℕ → List ℕ
tag_text tag = if tag == 0 then [] else codes " tag " ++ decimal tag

-- the row of an object: its identifier, its box, and its tag
abbrev pub row_text : ℕ × Object → List ℕ
row_text row = decimal row.0 ++ bounds_text (bounds_of row.1) ++ tag_text (tag_of row.1) ++ newline ∷ []

-- the number that some refusals have after their names: the identifier, the page or the cause
abbrev pub detail_text : Refusal → List ℕ
detail_text (refusal.DuplicateInLoad id) = space ∷ decimal id
detail_text (refusal.Damaged page) = space ∷ decimal page
detail_text (refusal.StoreFailed cause) = space ∷ decimal cause
detail_text r = []

-- `fail`, the refusal's number and its name
abbrev pub refusal_text : Refusal → List ℕ
refusal_text r = codes "fail " ++ decimal (refusal_number r) ++ space ∷ refusal_name r ++ detail_text r ++ newline ∷ []

-- `ok` and how many rows follow
abbrev pub count_text : ℕ → List ℕ
count_text n = codes "ok " ++ decimal n ++ newline ∷ []

-- the row of a number
abbrev pub number_text : ℕ → List ℕ
number_text n = decimal n ++ newline ∷ []

-- the row of two numbers: an object and its squared distance, or two objects
abbrev pub pair_text : ℕ × ℕ → List ℕ
pair_text row = decimal row.0 ++ space ∷ decimal row.1 ++ newline ∷ []

-- the row of a layer: its name, its axes, its fanout and how many objects it has
abbrev pub layer_text : LayerLine → List ℕ
layer_text l = l.name ++ space ∷ decimal l.dims ++ space ∷ decimal l.fanout ++ space ∷ decimal l.count
    ++ newline ∷ []

-- a row of a dump: the line of a command
abbrev pub dump_text : DumpLine → List ℕ
dump_text (CreateLine name dims fanout) =
    codes "create " ++ name ++ space ∷ decimal dims ++ space ∷ decimal fanout ++ newline ∷ []
dump_text (InsertLine name id object) = codes "insert " ++ name ++ space ∷ decimal id
    ++ bounds_text (bounds_of object) ++ tag_text (tag_of object) ++ newline ∷ []

-- the text of an answer
abbrev pub answer_text : Answer → List ℕ
answer_text Done = codes "ok\n"
answer_text (Refused r) = refusal_text r
answer_text (Boxes rows) = count_text (length rows) ++ flat_map row_text rows
answer_text (Counted n) = count_text 1 ++ number_text n
answer_text (Distances rows) = count_text (length rows) ++ flat_map pair_text rows
answer_text (Pairs rows) = count_text (length rows) ++ flat_map pair_text rows
answer_text (Listed rows) = count_text (length rows) ++ flat_map layer_text rows
answer_text (Dumped rows) = count_text (length rows) ++ flat_map dump_text rows

-- the texts of answers, one after the other
abbrev pub texts_of : List Answer → List ℕ
texts_of answers = flat_map answer_text answers

-- the answer that a reply is
abbrev pub reply_answer : {A : Type 0} → Reply A → Answer
reply_answer reply.Done = Done
reply_answer (reply.Refused r) = Refused r
reply_answer (reply.Object id box tag) = Boxes (row_of (id, box, tag) ∷ [])
reply_answer (reply.Boxes rows) = Boxes (map row_of rows.items)
reply_answer (reply.Count n) = Counted n
reply_answer (reply.Distances rows) = Distances rows.items
reply_answer (reply.Pairs rows) = Pairs rows.items
reply_answer (reply.Dump rows) = Dumped (map line_of_row rows.items)

-- what the program says where its store was refused: at its making, or at its closing
abbrev pub told_refusal : Refusal → List ℕ
told_refusal r = codes "rstore: " ++ refusal_text r

-- what it says where reading or writing failed
abbrev pub told_fault : List ℕ
told_fault = codes "rstore: input or output failed\n"
