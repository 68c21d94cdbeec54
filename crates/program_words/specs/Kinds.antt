-- The kinds of run. Our rule, docs/COMMANDS.md, "The program".
use Rattle.std.specs.Prelude.{Bool, true, false, Option, Some, None}
use Rattle.clap.specs.Words.{Text}
use Rattle.program_words.specs.Words.{Asked, imports, shows}

-- What a run does: it answers lines over a store in memory, over the file at this path, or over one that is only
-- read; it shows something of a file, or imports into one; or the words do not go together.
pub data Kind : Type 0 where
  InMemory : Kind
  OfFile : Text → Kind
  OnlyRead : Text → Kind
  Shown : Text → Kind
  Imported : Text → Kind
  Misused : Kind

-- Its kind where something is to be shown or not, imported or not, where this file is named, where it is only to
-- be read or not, and made or not.
abbrev pub kind_of : Bool → Bool → Option Text → Bool → Bool → Kind
kind_of true import (Some path) read_only create = Shown path
kind_of true import None read_only create = Misused
kind_of false true (Some path) read_only create = Imported path
kind_of false true None read_only create = Misused
kind_of false false None false create = InMemory
kind_of false false None true create = Misused
kind_of false false (Some path) false create = OfFile path
kind_of false false (Some path) true false = OnlyRead path
kind_of false false (Some path) true true = Misused

-- its kind where this is asked
unfoldable pub kind_of_run : Asked → Kind
kind_of_run asked = kind_of (shows asked) (imports asked) asked.file asked.read_only asked.create
