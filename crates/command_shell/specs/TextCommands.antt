-- The commands of a text. Our rule, docs/COMMANDS.md.
use Rattle.std.specs.Prelude.{ℕ, ◌≡◌, ◌<◌, ◌≤◌, Bool, true, List, [], ◌∷◌, ◌++◌, length, take, drop, Option}
use Rattle.std.specs.Prelude.{Some, None}
use Rattle.plain_table.specs.Commands.Command.{Load}
use Rattle.plain_table.specs.Loads.{GivenObjects}
use Rattle.store_law.specs.States.{Request}
use Rattle.store_law.specs.States.Request.{BadCommand, Asks}
use Rattle.command_language.specs.Entries.{objects_in}
use Rattle.command_language.specs.Lines.{IsOneLine, IsWhole, lines_of, newline}
use Rattle.command_language.specs.Meanings.{Meaning, meaning_of}
use Rattle.command_language.specs.Meanings.Meaning.{Blank, Bad, Loads, Means}

-- what a line asks by itself: nothing, or one request; the first line of a load asks nothing by itself
abbrev pub AsksAlone : Meaning → List Request → Type 0
AsksAlone Blank rs = rs ≡ []
AsksAlone Bad rs = rs ≡ BadCommand ∷ []
AsksAlone (Means c) rs = rs ≡ Asks c ∷ []
AsksAlone (Loads layer count) rs = ⊥

-- what a load asks with its entry lines: of one that is bad the whole is bad
abbrev pub load_request : List ℕ → Option GivenObjects → Request
load_request layer (Some objects) = Asks (Load layer objects)
load_request layer None = BadCommand

-- The commands of lines, in their order. A relation, since a load takes further lines with it; `ended` says
-- whether the text has ended after these lines, so that a load at its end may lack some of its own, and is
-- bad then.
pub data AreCommands (ended : Bool) : List (List ℕ) → List Request → Type 0 where
  none : AreCommands ended [] []
  one : {line : List ℕ} {lines : List (List ℕ)} {ss : List Request} (rs : List Request)
      → AsksAlone (meaning_of line) rs → AreCommands ended lines ss
      → AreCommands ended (line ∷ lines) (rs ++ ss)
  load : {line : List ℕ} {lines : List (List ℕ)} {ss : List Request} (layer : List ℕ) (count : ℕ)
      → meaning_of line ≡ Loads layer count → count ≤ length lines
      → AreCommands ended (drop count lines) ss
      → AreCommands ended (line ∷ lines) (load_request layer (objects_in (take count lines)) ∷ ss)
  short : {line : List ℕ} {lines : List (List ℕ)} (layer : List ℕ) (count : ℕ)
      → meaning_of line ≡ Loads layer count → length lines < count
      → ended ≡ true → AreCommands ended (line ∷ lines) (BadCommand ∷ [])

-- Bytes that are the beginning of a command at most: a line without its newline, or the first line of a load,
-- fewer whole entry lines than it takes, and one without its newline.
pub data IsUnfinished : List ℕ → Type 0 where
  in_line : {bytes : List ℕ} → IsOneLine bytes → IsUnfinished bytes
  in_load : {bytes : List ℕ} (line entries last : List ℕ) (layer : List ℕ) (count : ℕ) → IsOneLine line
      → meaning_of line ≡ Loads layer count
      → IsWhole entries → length (lines_of entries) < count → IsOneLine last
      → bytes ≡ (line ++ newline ∷ []) ++ (entries ++ last) → IsUnfinished bytes
