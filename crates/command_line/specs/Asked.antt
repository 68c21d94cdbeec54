-- What a run does, as the words ask. Our rule, docs/COMMANDS.md, "The program".
use Rattle.std.specs.Prelude.{ℕ, ◌≡◌, ◌≤◌, ◌⊎◌, Bool, true, Result}
use Rattle.std.specs.FinMap.{empty}
use Rattle.std.specs.Io.KnownBytes.{Keeps}
use Rattle.std.specs.declared.alloc.Global.{Global}
use Rattle.block_device.specs.declared.device.BlockDevice as device
use Rattle.file_device.specs.declared.open.OpenError.{OpenError}
use Rattle.read_only_device.specs.declared.reader.BlockReader as reader
use Rattle.clap.specs.Words.{Text}
use Rattle.program_words.specs.Kinds.{Kind}
use Rattle.program_words.specs.Kinds.Kind.{InMemory, OfFile, OnlyRead, Shown, Imported, Misused}
use Rattle.program_words.specs.Words.{Asked, imports}
use Rattle.command_line.specs.Importing.{OpensAndImports}
use Rattle.command_line.specs.Running.{HasAnswered, OpensAndReads, OpensAndServes}
use Rattle.command_line.specs.Serving.{HasNotBegun, HasStarted, IsMisused, OpensAndShows}
use Rattle.command_line.specs.Streams.{Streams}

-- the status is at most 2, and where a strict run or an import is asked for perhaps 3
abbrev pub IsStatusFor : Asked → ℕ → Type 0
IsStatusFor asked status = (status ≤ 2) ⊎ ((status ≤ 3) × ((asked.strict ≡ true) ⊎ (imports asked ≡ true)))

-- Files are opened by their names: as devices, of which `opens` tells what comes of it, or to be only read, of which
-- `reads` tells; `path_of` is the path that a name is. `failing` tells whether the last read of the input failed.
module _ {M D B N R W : Type 0} (memory : device.Ghosts M) (m : device.Ghosts D) (r : reader.Ghosts B)
    (opens : N → Bool → Result D OpenError → Type 0) (reads : N → Result B OpenError → Type 0)
    (path_of : N → Text) (failing : R → Bool) (asked : Asked) (before after : Streams R W) (status : ℕ) where
  -- what is done in a run of this kind, by what is asked
  abbrev pub IsDone : Kind → Type 0
  IsDone InMemory = HasNotBegun before after status
      ⊎ ((device : M) × HasStarted Global memory asked.newest device empty
      × HasAnswered asked.strict empty before after status)
  IsDone (OfFile path) = (name : N) × (path_of name ≡ path)
      × OpensAndServes asked.strict m (HasStarted Global m asked.newest) asked.create
      (opens name asked.create) before after status
  IsDone (OnlyRead path) = (name : N) × (path_of name ≡ path)
      × OpensAndReads asked.strict r (reads name) before after status
  IsDone (Shown path) = (name : N) × (path_of name ≡ path) × (after.input ≡ before.input)
      × OpensAndShows (reads name) before.output after.output status
  IsDone (Imported path) = (name : N) × (path_of name ≡ path) × Keeps before.written after.written
      × OpensAndImports m (HasStarted Global m asked.newest) (opens name asked.create) failing asked.create
      asked.layer before after status
  IsDone Misused = IsMisused before after status
