-- How a run of the program begins, or does not.
use Rattle.std.specs.Prelude.{ℕ, ◌≡◌, ◌≤◌, ◌⊎◌, Bool, false, List, Option, Result, Ok, Err, codes}
use Rattle.clap.specs.Words.{IsAmong}
use Rattle.clap.specs.declared.error.kind.ErrorKind.{ErrorKind}
use Rattle.clap.specs.declared.error.kind.ErrorKind.TheVariants.{DisplayHelp, DisplayVersion}
use Rattle.block_device.specs.Device.{Blocks, LeavesOnly}
use Rattle.block_device.specs.declared.device.BlockDevice as device
use Rattle.file_device.specs.declared.open.OpenError.{OpenError}
use Rattle.page_file.specs.Layout.{IsWithin}
use Rattle.page_file.specs.declared.header.Version.{Version}
use Rattle.layer_store.specs.Representation.{BeginsWith, device_in, file_version, newest_in}
use Rattle.layer_store.specs.declared.store.Store.{Store}
use Rattle.plain_table.specs.Table.{Table}
use Rattle.plain_table.specs.declared.refusal.Refusal.{Refusal}
use Rattle.plain_table.specs.declared.refusal.Refusal.TheVariants as refusal
use Rattle.command_shell.specs.Runs.{TellsEnd}
use Rattle.reply_texts.specs.Texts.{told_refusal}
use Rattle.reply_texts.specs.Writing.{AppendsSome}
use Rattle.command_line.specs.Streams.{Streams}
use Rattle.command_line.specs.declared.serving.Served.{Served}

-- A store was made or opened: it lies on this device, begins with this table, and its file is of this version or
-- an older one, and may be raised to this one and to no newer one.
pub record HasStarted {D : Type 0} (A : Type 0) (m : device.Ghosts D) (newest : Version) (opened : D)
    (t : Table) : Type 0 where
  pub store : Store D A m
  pub lies : device_in store ≡ opened
  pub begins : BeginsWith store (m.moment opened) t
  pub newest_is : newest_in store ≡ newest
  pub within : IsWithin newest (file_version store)

-- No line was read and no reply written, and the status is that of a run that failed.
pub record HasNotBegun {R W : Type 0} (before after : Streams R W) (status : ℕ) : Type 0 where
  pub failed : status ≡ 1
  pub unread : after.input ≡ before.input
  pub unwritten : after.output ≡ before.output

-- The words do not go together: no line was read and no reply written, and the status says so.
pub record IsMisused {R W : Type 0} (before after : Streams R W) (status : ℕ) : Type 0 where
  pub failed : status ≡ 2
  pub unread : after.input ≡ before.input
  pub unwritten : after.output ≡ before.output

-- There was no memory for the words: nothing has begun, and it was said so, or a front of the line that says
-- it.
pub record HasNoMemory {R W : Type 0} (before after : Streams R W) (status : ℕ) : Type 0 where
  pub begun : HasNotBegun before after status
  pub told : AppendsSome before.said after.said (told_refusal refusal.Memory)

-- The store could not be made or opened: nothing has begun, and a stop left blocks that have P.
pub record IsRefusedStart {D R W : Type 0} (m : device.Ghosts D) (P : Blocks → Type 0) (device : D)
    (before after : Streams R W) (left : Served D) : Type 0 where
  pub begun : HasNotBegun before after left.status
  pub stops : LeavesOnly m.moment m.left_since m.recovery device left.device P

-- It could not be opened, and the blocks are as they were, also after a stop.
abbrev pub IsRefusedOpening : {D R W : Type 0} → device.Ghosts D → D → Streams R W → Streams R W → Served D
    → Type 0
IsRefusedOpening m device before after left =
    IsRefusedStart m (m.may_leave device) device before after left × (m.shown left.device ≡ m.shown device)

-- What is said where the store could not be made or opened: the refusal; and of a file that was not closed
-- what to do.
abbrev pub told_start : Refusal → List ℕ
told_start refusal.NotClosed = codes "rstore: fail 20 NotClosed: the run that made FILE was cut short before it closed anything: put back FILE-journal if there was one, else remove FILE and make it anew\n"
told_start r = told_refusal r

-- What the program says of a run over a store that is not strict, or of a start that was refused: nothing where it
-- went well, else a line that says why, or a front of it.
abbrev pub TellsRun : Bool → Option (List ℕ) → Option (List ℕ) → Type 0
TellsRun well old new = TellsEnd well old new ⊎ ((well ≡ false) × (r : Refusal) × AppendsSome old new (told_start r))

-- Something was to be shown of a file. The words do not go together; or the file's opening was refused; or a
-- reader was opened, of which `opens` tells, and the status is that of a run that went well or failed.
abbrev pub OpensAndShows : {B W : Type 0} → (Result B OpenError → Type 0) → W → W → ℕ → Type 0
OpensAndShows {B} opens w w' status =
    ((status ≡ 2) × (w' ≡ w))
    ⊎ ((e : OpenError) × opens (Err e) × (status ≡ 1) × (w' ≡ w))
    ⊎ ((blocks : B) × opens (Ok blocks) × (status ≤ 1))

-- the status with which the program ends where words are not taken: help and version were asked for
abbrev pub status_of_fault : ErrorKind → ℕ
status_of_fault DisplayHelp = 0
status_of_fault DisplayVersion = 0
status_of_fault _ = 2

-- the status is that of one of the faults
abbrev pub IsStatusOf : List ErrorKind → ℕ → Type 0
IsStatusOf faults status = (k : ErrorKind) × IsAmong k faults × (status ≡ status_of_fault k)
