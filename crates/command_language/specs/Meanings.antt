-- What a command line means. Our rule, docs/COMMANDS.md.
use Rattle.std.specs.Prelude.{ℕ, ◌==◌, nat_le, nat_lt, List, [], ◌∷◌, length, if◌then◌else◌, slice_index}
use Rattle.std.specs.Prelude.{Option, Some, None, option_map, option_and_then, codes, bytes_eq, unwrap_or}
use Rattle.plain_table.specs.Commands.{Command}
use Rattle.plain_table.specs.Commands.Command.{Create, Insert, Move, Delete, Drop, Get, Count, Range, Nearest}
use Rattle.plain_table.specs.Commands.Command.{Join, Layers, Dump, Check, Reopen}
use Rattle.plain_table.specs.Table.{most_objects}
use Rattle.plain_table.specs.declared.boxes.RawBox.{RawBox}
use Rattle.plain_table.specs.declared.queries.RawQuery.{RawQuery}
use Rattle.plain_table.specs.declared.queries.RawQuery.TheVariants.{Window, Inside, Around, Point}
use Rattle.command_language.specs.Lines.{words_of}
use Rattle.command_language.specs.Numbers.{number_in, and_tag, box_of, point_of}

-- What a line is: a blank line or a comment, a line that is none of the language, or a command; or the first
-- line of a load, by its layer and how many entry lines follow.
pub data Meaning : Type 0 where
  Blank : Meaning
  Bad : Meaning
  Means : Command → Meaning
  Loads : List ℕ → ℕ → Meaning

-- a command, or a bad line where there is none
abbrev pub asked : Option Command → Meaning
asked (Some c) = Means c
asked None = Bad

-- `create LAYER NUM NUM`: the number of axes, and the fanout
abbrev pub create_of : List (List ℕ) → Option Command
create_of (layer ∷ dims ∷ fanout ∷ []) =
    option_and_then (λ d. option_map (λ f. Create layer d f) (number_in fanout)) (number_in dims)
create_of ws = None

-- `insert LAYER NUM BOX [tag NUM]`: the identifier, the box, and the tag, 0 where none is given
abbrev pub insert_of : List (List ℕ) → Option Command
insert_of (layer ∷ id ∷ ws) =
    option_and_then (λ n. option_map (λ b. Insert layer n b.0 (unwrap_or b.1 0)) (and_tag box_of ws))
    (number_in id)
insert_of ws = None

-- `move LAYER NUM BOX`: the identifier, and the box
abbrev pub move_of : List (List ℕ) → Option Command
move_of (layer ∷ id ∷ ws) = option_and_then (λ n. option_map (λ b. Move layer n b) (box_of ws)) (number_in id)
move_of ws = None

-- `load LAYER NUM`: so many entry lines, no more than a store has objects
abbrev pub load_meaning : List ℕ → Option ℕ → Meaning
load_meaning layer (Some count) = if nat_le count most_objects then Loads layer count else Bad
load_meaning layer None = Bad

abbrev pub load_of : List (List ℕ) → Meaning
load_of (layer ∷ count ∷ []) = load_meaning layer (number_in count)
load_of ws = Bad

-- `LAYER NUM` after `get` or `delete`: the identifier
abbrev pub object_of : (List ℕ → ℕ → Command) → List (List ℕ) → Option Command
object_of command (layer ∷ id ∷ []) = option_map (λ n. command layer n) (number_in id)
object_of command ws = None

-- `LAYER` after `count` or `drop`
abbrev pub layer_of : (List ℕ → Command) → List (List ℕ) → Option Command
layer_of command (layer ∷ []) = Some (command layer)
layer_of command ws = None

-- `LAYER BOX [tag NUM]` after `window`, `inside` or `around`: the query that the box makes, and the tag that
-- it asks for
abbrev pub box_query_of : (RawBox → RawQuery) → List (List ℕ) → Option Command
box_query_of query (layer ∷ ws) = option_map (λ b. Range layer (query b.0) b.1) (and_tag box_of ws)
box_query_of query ws = None

-- `point LAYER PT [tag NUM]`
abbrev pub point_query_of : List (List ℕ) → Option Command
point_query_of (layer ∷ ws) = option_map (λ p. Range layer (Point p.0) p.1) (and_tag point_of ws)
point_query_of ws = None

-- `nearest LAYER NUM PT`: how many, and the point
abbrev pub nearest_of : List (List ℕ) → Option Command
nearest_of (layer ∷ k ∷ ws) =
    option_and_then (λ n. option_map (λ p. Nearest layer n p) (point_of ws)) (number_in k)
nearest_of ws = None

-- `join LAYER LAYER [NUM]`: the greatest squared distance, 0 where none is given
abbrev pub join_of : List (List ℕ) → Option Command
join_of (first ∷ second ∷ []) = Some (Join first second 0)
join_of (first ∷ second ∷ within ∷ []) = option_map (λ n. Join first second n) (number_in within)
join_of ws = None

-- a command of one word
abbrev pub alone_of : Command → List (List ℕ) → Option Command
alone_of command [] = Some command
alone_of command ws = None

-- what the words after the name of a question mean
abbrev pub question_of : List ℕ → List (List ℕ) → Meaning
question_of name ws =
    if bytes_eq name (codes "get") then asked (object_of (λ layer id. Get layer id) ws)
    else if bytes_eq name (codes "count") then asked (layer_of (λ layer. Count layer) ws)
    else if bytes_eq name (codes "window") then asked (box_query_of (λ b. Window b) ws)
    else if bytes_eq name (codes "inside") then asked (box_query_of (λ b. Inside b) ws)
    else if bytes_eq name (codes "around") then asked (box_query_of (λ b. Around b) ws)
    else if bytes_eq name (codes "point") then asked (point_query_of ws)
    else if bytes_eq name (codes "nearest") then asked (nearest_of ws)
    else if bytes_eq name (codes "join") then asked (join_of ws)
    else if bytes_eq name (codes "layers") then asked (alone_of Layers ws)
    else if bytes_eq name (codes "dump") then asked (alone_of Dump ws)
    else if bytes_eq name (codes "check") then asked (alone_of Check ws)
    else Bad

-- what the words after the name of a command mean
abbrev pub command_of : List ℕ → List (List ℕ) → Meaning
command_of name ws =
    if bytes_eq name (codes "create") then asked (create_of ws)
    else if bytes_eq name (codes "insert") then asked (insert_of ws)
    else if bytes_eq name (codes "load") then load_of ws
    else if bytes_eq name (codes "move") then asked (move_of ws)
    else if bytes_eq name (codes "delete") then asked (object_of (λ layer id. Delete layer id) ws)
    else if bytes_eq name (codes "drop") then asked (layer_of (λ layer. Drop layer) ws)
    else if bytes_eq name (codes "reopen") then asked (alone_of Reopen ws)
    else question_of name ws

-- the byte that a comment begins with
abbrev pub hash : ℕ
hash = 35

-- what the words of a line mean
abbrev pub words_mean : List (List ℕ) → Meaning
words_mean [] = Blank
words_mean (w ∷ ws) = if slice_index w 0 == hash then Blank else command_of w ws

-- how many bytes a line may have, without its newline
abbrev pub longest_line : ℕ
longest_line = 4096

-- what a line means, given without its newline
abbrev pub meaning_of : List ℕ → Meaning
meaning_of line = if nat_lt longest_line (length line) then Bad else words_mean (words_of line)
