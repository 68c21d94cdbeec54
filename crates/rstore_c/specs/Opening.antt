-- The numbers by which an opening that failed is told (our rule, docs/LIBRARY.md, "C").
use Rattle.std.specs.Prelude.{◌≡◌, ℕ}
use Rattle.plain_table.specs.Refusals.{refusal_number}
use Rattle.c_rows.specs.Numbers.{detail_of}
use Rattle.file_device.specs.declared.open.OpenError.{OpenError}
use Rattle.file_device.specs.declared.open.OpenError.TheVariants as error
use Rattle.rstore_c.specs.declared.files.Unopened.{Unopened}
use Rattle.rstore_c.specs.declared.files.Unopened.TheVariants.{File, Store}

-- of files that can't be opened
abbrev pub number_of_error : OpenError → ℕ
number_of_error error.NotFound = 101
number_of_error error.PermissionDenied = 101
number_of_error error.IsADirectory = 101
number_of_error error.Refused = 101
number_of_error error.ClosedStream = 101
number_of_error error.InUse = 102
number_of_error error.NoLocks = 106
number_of_error error.NoJournal = 107
number_of_error error.OtherJournal = 108
number_of_error error.Memory = 16

-- The opening is told by this number: of its files, or of the store's refusal, with the number that comes with
-- that.
abbrev pub TellsUnopened : Unopened → ℕ → ℕ → Type 0
TellsUnopened (File e) number detail = number ≡ number_of_error e
TellsUnopened (Store r) number detail = (number ≡ refusal_number r) × (detail ≡ detail_of r)
