-- The entry lines of a load. Our rule, docs/COMMANDS.md.
use Rattle.std.specs.Prelude.{ℕ, ◌+◌, is_some, nat_lt, List, [], ◌∷◌, length, if◌then◌else◌, Option, Some, None, option_map}
use Rattle.std.specs.Prelude.{option_and_then, unwrap_or}
use Rattle.plain_table.specs.Loads.{GivenObjects}
use Rattle.plain_table.specs.declared.boxes.RawBox.{RawBox}
use Rattle.command_language.specs.Lines.{words_of}
use Rattle.command_language.specs.Meanings.{longest_line}
use Rattle.command_language.specs.Numbers.{and_tag, box_of, number_in}

-- `NUM BOX [tag NUM]`: the identifier, the box and the tag of an object, 0 where none is given
abbrev pub entry_of : List (List ℕ) → Option (ℕ × RawBox × ℕ)
entry_of (id ∷ ws) =
    option_and_then (λ n. option_map (λ b. (n, b.0, unwrap_or b.1 0)) (and_tag box_of ws)) (number_in id)
entry_of ws = None

-- the object that an entry line gives, given without its newline
abbrev pub entry_in : List ℕ → Option (ℕ × RawBox × ℕ)
entry_in line = if nat_lt longest_line (length line) then None else entry_of (words_of line)

-- the place of the first entry line that gives none, counted from 1, if there is one
abbrev pub first_bad : List (List ℕ) → Option ℕ
first_bad [] = None
first_bad (line ∷ lines) =
    if is_some (entry_in line) then option_map (λ place. place + 1) (first_bad lines) else Some 1

-- the objects of entry lines, if each of them gives one
abbrev pub objects_in : List (List ℕ) → Option GivenObjects
objects_in [] = Some []
objects_in (line ∷ lines) =
    option_and_then (λ object. option_map (λ objects. object ∷ objects) (objects_in lines)) (entry_in line)
