-- What a store is asked. Our rule, docs/COMMANDS.md.
use Rattle.std.specs.Prelude.{ℕ, List, Option}
use Rattle.plain_table.specs.declared.boxes.RawBox.{RawBox}
use Rattle.plain_table.specs.declared.boxes.RawPoint.{RawPoint}
use Rattle.plain_table.specs.declared.queries.RawQuery.{RawQuery}

-- a command with its words read: names as bytes, numbers, and boxes and points as they were given; an
-- object's tag comes last, and so does the tag that a query asks for, if it asks for one
pub data Command : Type 0 where
  Create : List ℕ → ℕ → ℕ → Command
  Insert : List ℕ → ℕ → RawBox → ℕ → Command
  Load : List ℕ → List (ℕ × RawBox × ℕ) → Command
  Move : List ℕ → ℕ → RawBox → Command
  Delete : List ℕ → ℕ → Command
  Drop : List ℕ → Command
  Get : List ℕ → ℕ → Command
  Count : List ℕ → Command
  Range : List ℕ → RawQuery → Option ℕ → Command
  Nearest : List ℕ → ℕ → RawPoint → Command
  Join : List ℕ → List ℕ → ℕ → Command
  Layers : Command
  Dump : Command
  Check : Command
  Reopen : Command

-- A command that may give up: answered by a fault of memory or of the device in the place of what the table
-- answers. A count and a listing of the layers take nothing that could be refused.
abbrev pub MayGiveUp : Command → Type 0
MayGiveUp (Count name) = ⊥
MayGiveUp Layers = ⊥
MayGiveUp c = Unit {0}
