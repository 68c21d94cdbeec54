-- Refused lines, and what is told of them. Our rule, docs/COMMANDS.md.
use Rattle.std.specs.Prelude.{ℕ, ◌≡◌, ◌+◌, ◌-◌, ◌^◌, List, [], ◌∷◌, ◌++◌, length, take, map}
use Rattle.std.specs.Prelude.{Option, Some, None, if◌then◌else◌, ◌||◌, codes, decimal, min}
use Rattle.std.specs.Prelude.{◌&&◌, ◌==◌, nat_lt}
use Rattle.plain_table.specs.declared.refusal.Refusal.{Refusal}
use Rattle.plain_table.specs.declared.refusal.Refusal.TheVariants as refusal
use Rattle.command_language.specs.Entries.{first_bad}
use Rattle.command_language.specs.Lines.{newline, words_of}
use Rattle.command_language.specs.Meanings.{longest_line}
use Rattle.command_language.specs.Usages.{usage_in}
use Rattle.reply_texts.specs.Texts.{refusal_text}
use Rattle.reply_texts.specs.declared.refused.LineFront.{LineFront}
use Rattle.reply_texts.specs.declared.refused.Stop.{Stop}

-- ---- how a line begins

-- how many bytes of a line are told at most
abbrev pub told_bytes : ℕ
told_bytes = 60

-- the bytes of a line that are told: its first ones, and none where it is too long
abbrev pub front_of : List ℕ → List ℕ
front_of line = if nat_lt longest_line (length line) then [] else take told_bytes line

-- they are these, it is said whether there are more, and which is the first bad one of these entry lines
abbrev pub IsFrontOf : LineFront → List ℕ → List (List ℕ) → Type 0
IsFrontOf front line entries =
    (front.bytes.items ≡ front_of line)
    × (front.is_cut ≡ nat_lt told_bytes (length line))
    × (front.bad_entry ≡ first_bad entries)

-- ---- what is said of a stop

-- the greatest number of a line that is told
abbrev pub most_lines : ℕ
most_lines = 2 ^ 64 - 1

-- a byte as it is told: one that can be printed, and a question mark for any other
abbrev pub told_byte : ℕ → ℕ
told_byte b = if nat_lt b 32 || nat_lt 126 b then 63 else b

-- the bytes of a line that are told, and `..` where there are more
abbrev pub told_front : LineFront → List ℕ
told_front front = map told_byte front.bytes.items ++ (if front.is_cut then codes ".." else [])

-- What is wrong with a bad line that is told so: it is too long, and then no byte is told; or how the command
-- is written whose name is the first word that is told, if there is one.
abbrev pub line_fault : LineFront → List ℕ
line_fault front =
    if front.is_cut && (length front.bytes.items == 0) then codes "a line has at most 4096 bytes"
    else usage_in (words_of front.bytes.items)

-- what is wrong with a bad line of this number, of whose entry lines this is the first bad one
abbrev pub entry_fault : ℕ → Option ℕ → List ℕ → List ℕ
entry_fault number (Some place) other =
    codes "line " ++ decimal (min (number + place) most_lines) ++ codes " is no entry"
entry_fault number None other = other

abbrev pub fault_text : ℕ → LineFront → List ℕ
fault_text number front = entry_fault number front.bad_entry (line_fault front)

-- why the line of this number was refused: the reply; and of a bad line what is wrong with it
abbrev pub reason_of : Refusal → ℕ → LineFront → List ℕ
reason_of refusal.BadLine number front =
    codes "fail 24 BadLine: " ++ fault_text number front ++ newline ∷ []
reason_of r number front = refusal_text r

-- the line that says where a run stopped, and why
abbrev pub told_stop : Stop → List ℕ
told_stop it = codes "rstore: line " ++ decimal it.line ++ codes ": " ++ told_front it.refused.front ++ codes ": "
    ++ reason_of it.refused.refusal it.line it.refused.front
