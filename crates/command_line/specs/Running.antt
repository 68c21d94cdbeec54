-- How lines were answered, over a store in memory, a device or blocks that are only read; in a strict run up to the
-- first that was refused. Our rule, docs/COMMANDS.md, "The program".
use Rattle.std.specs.Prelude.{ℕ, ◌≡◌, ◌≤◌, ◌<◌, ◌⊎◌, ◌==◌, Bool, true, false, List, length, Result, Ok, Err, ⊤}
use Rattle.std.specs.FinMap.{empty}
use Rattle.block_device.specs.Device.{Blocks, LeavesOnly, Only}
use Rattle.block_device.specs.declared.device.BlockDevice as device
use Rattle.file_device.specs.declared.open.OpenError.{OpenError}
use Rattle.read_only_device.specs.declared.reader.BlockReader as reader
use Rattle.page_file.specs.Opening.{IsRefused}
use Rattle.page_file.specs.declared.fault.Fault.{Fault}
use Rattle.live_layers.specs.Image.{IsImage, IsRefusedOrImageOf, OpeningRefuses}
use Rattle.layer_store.specs.Checked.{LawfulOnceChecked}
use Rattle.layer_store.specs.Representation.{closed_since}
use Rattle.store_law.specs.Sessions.{SessionState}
use Rattle.store_law.specs.States.{Request}
use Rattle.store_law.specs.States.StoreState.{Alive}
use Rattle.plain_table.specs.Step.{Answer}
use Rattle.plain_table.specs.Table.{Table}
use Rattle.command_shell.specs.Runs.{EndsInImage, FoundSince, LeavesTablesOf, RunsBy, RunsToClose, with_last}
use Rattle.command_shell.specs.Serving.{IsSession, run_state}
use Rattle.command_shell.specs.Strict.{IsLeft, RunsStrictly, TellsOutcome}
use Rattle.command_shell.specs.declared.session.LinesEnd.{LinesEnd}
use Rattle.command_shell.specs.declared.session.RunEnd.{RunEnd}
use Rattle.command_shell.specs.declared.session.RunEnd.TheVariants.{Finished}
use Rattle.command_shell.specs.declared.strict.Outcome.{Outcome}
use Rattle.command_shell.specs.declared.strict.Outcome.TheVariants.{WentWell, StoppedAtLine, Failed, Unclosed}
use Rattle.command_line.specs.Serving.{HasNotBegun, IsRefusedOpening, IsRefusedStart}
use Rattle.command_line.specs.Streams.{Streams}
use Rattle.command_line.specs.declared.serving.Served.{Served}

-- ---- lines

-- Lines were answered, and with status 0 all that the reader had was read, and each reply was written. `So` holds
-- of requests and answers.
pub record AnswersAll {R W : Type 0} (So : List Request → List Answer → Type 0) (before after : Streams R W)
    (status : ℕ) : Type 0 where
  pub end : RunEnd
  pub runs : RunsBy So end before.unread after.unread before.written after.written
  pub well : status ≡ 0 → end ≡ Finished

-- the status that tells how a strict run ended
abbrev pub status_of_outcome : Outcome → ℕ
status_of_outcome WentWell = 0
status_of_outcome StoppedAtLine = 3
status_of_outcome Failed = 1
status_of_outcome Unclosed = 1

-- They were answered up to the first that was refused. With status 0 all was read, no line was refused and nothing
-- was said; with 3 the run stopped at the first refused line, and that was said, with its number.
pub record AnswersUntilRefused {R W : Type 0} (So : List Request → List Answer → Type 0)
    (before after : Streams R W) (status : ℕ) : Type 0 where
  pub outcome : Outcome
  pub status_is : status ≡ status_of_outcome outcome
  pub end : LinesEnd
  pub told : TellsOutcome end outcome before.said after.said
  pub runs : RunsStrictly So end before.unread after.unread before.written after.written

-- the one or the other, as a run is strict or not
unfoldable pub Answers : {R W : Type 0} → Bool → (List Request → List Answer → Type 0) → Streams R W → Streams R W → ℕ
    → Type 0
Answers false So before after status = AnswersAll So before after status
Answers true So before after status = AnswersUntilRefused So before after status

-- the status is at most 1, and where a run is strict perhaps 3
abbrev pub IsStatusAs : Bool → ℕ → Type 0
IsStatusAs strict status = (status ≤ 1) ⊎ ((status ≤ 3) × (strict ≡ true))

-- ---- a store without faults, or blocks that are only read

-- Lines were answered by a lawful session that begins with this table.
pub record HasAnsweredFrom {R W : Type 0} (strict : Bool) (t : Table) (before after : Streams R W)
    (status : ℕ) : Type 0 where
  pub old : SessionState
  pub new : SessionState
  pub begins : old.state ≡ Alive t
  pub answers : Answers strict (IsSession old new) before after status

-- and the count of faults never rose from 0, so no reply blames a device
pub record HasAnswered {R W : Type 0} (strict : Bool) (t : Table) (before after : Streams R W)
    (status : ℕ) : Type 0 where
  pub from : HasAnsweredFrom strict t before after status
  pub faultless : from.new.faults ≡ 0

-- What was done over blocks that are only read, which stay as they are. Where their reader is honest, their
-- store was opened, and its commands were answered; or its opening was refused. So it is of any blocks, once
-- a check was answered ok.
pub record HasRead {B R W : Type 0} (strict : Bool) (m : reader.Ghosts B) (blocks : B)
    (before after : Streams R W) (status : ℕ) : Type 0 where
  pub answers : m.honest blocks → (t : Table) → IsImage (m.shown blocks) t →
      HasNotBegun before after status ⊎ HasAnsweredFrom strict t before after status
  pub refused : m.honest blocks → (f : Fault) → OpeningRefuses (m.shown blocks) f
      → HasNotBegun before after status
  pub checked : m.honest blocks →
      HasNotBegun before after status ⊎ Answers strict (LawfulOnceChecked (λ s. ⊤)) before after status

-- A reader was opened, of which `opens` tells, and with this status it was done what is done over it; or its
-- opening was refused, and nothing has begun.
abbrev pub OpensAndReads : {B R W : Type 0} → Bool → reader.Ghosts B → (Result B OpenError → Type 0)
    → Streams R W → Streams R W → ℕ → Type 0
OpensAndReads {B} strict m opens before after status =
    ((e : OpenError) × opens (Err e) × HasNotBegun before after status)
    ⊎ ((blocks : B) × opens (Ok blocks) × HasRead strict m blocks before after status)

-- ---- a device

-- Lines were answered by a session, and the store was closed. With status 0 the blocks are an image of the
-- session's table, also after a stop. Stops are told from that moment on.
pub record HasClosed {D R W : Type 0} (m : device.Ghosts D) (moment : ℕ) (old new : SessionState)
    (before after : Streams R W) (left : Served D) : Type 0 where
  pub runs : RunsToClose (left.status == 0) (m.shown left.device) (m.left_since left.device moment)
      (FoundSince m.recovery left.device moment) (m.faults left.device)
      (run_state old before.unread before.written) (run_state new after.unread after.written)
  pub durable : left.status ≡ 0 → Only (m.shown left.device) (m.may_leave left.device)

-- They were answered up to the first that was refused. With status 0 the blocks are an image of the table, also
-- after a stop; and with any other nothing was closed but what a command closed, unless only the closing was
-- refused.
pub record HasSettled {D R W : Type 0} (m : device.Ghosts D) (moment : ℕ) (old new : SessionState)
    (before after : Streams R W) (left : Served D) : Type 0 where
  pub answers : AnswersUntilRefused (IsSession old new) before after left.status
  pub is_left : IsLeft m answers.outcome moment left.device new

-- the one or the other, as a run is strict or not
unfoldable pub Runs : {D R W : Type 0} → Bool → device.Ghosts D → ℕ → SessionState → SessionState → Streams R W
    → Streams R W → Served D → Type 0
Runs false m moment old new before after left = HasClosed m moment old new before after left
Runs true m moment old new before after left = HasSettled m moment old new before after left

-- from some table on, the lines after a check that was answered ok were answered lawfully, and with status 0 the
-- blocks are an image of the table in the end
abbrev pub RunsOnceChecked : {D R W : Type 0} → Bool → device.Ghosts D → Streams R W → Streams R W → Served D
    → Type 0
RunsOnceChecked strict m before after left =
    Answers strict (LawfulOnceChecked (EndsInImage (left.status == 0) (m.shown left.device))) before after
    left.status

-- What a run over an opened store leaves, from each state that the session may begin with; and whatever file it
-- is. Each stop within it left blocks that opening refuses, or an image of one of the session's tables.
pub record RunsOver {D R W : Type 0} (strict : Bool) (m : device.Ghosts D) (Was : SessionState → Type 0)
    (opened : D) (before after : Streams R W) (left : Served D) : Type 0 where
  pub runs : (old : SessionState) → Was old → (new : SessionState)
      × Runs strict m old.stops.since old new before after left
      × LeavesTablesOf m.moment m.left_since m.recovery new opened left.device
  pub checked : m.honest opened → RunsOnceChecked strict m before after left

-- Commands were answered by a lawful session that begins with this table, in a store of which S is said, as the run
-- is strict or not. With any status a stop until the store stood left blocks that have P, and one since then blocks
-- that opening refuses, or an image of this table or of one that was closed, or was to be closed, since; over a
-- device that commits what opening takes it is found to have left such an image, and is never refused. So one at
-- any moment of the whole run left the one or the other, and one before the run what it might have left then. The
-- faults that the session counts are those of the device, from those that it had to those that it has.
pub record HasServed {D R W : Type 0} (strict : Bool) (m : device.Ghosts D) (S : D → Table → Type 0)
    (P : Blocks → Type 0) (t : Table) (device : D) (before after : Streams R W) (left : Served D) : Type 0 where
  pub opened : D
  pub store : S opened t
  pub opening : LeavesOnly m.moment m.left_since m.recovery device opened P
  pub old : SessionState
  pub new : SessionState
  pub begins : old.state ≡ Alive t
  pub stops : old.stops ≡ closed_since (m.moment opened) t
  pub counted : old.faults ≡ m.faults device
  pub runs : Runs strict m (m.moment opened) old new before after left
  pub since : LeavesTablesOf m.moment m.left_since m.recovery new opened left.device
  pub whole : LeavesOnly m.moment m.left_since m.recovery device left.device
      (λ c. P c ⊎ IsRefusedOrImageOf (with_last new.state new.stops.so_far) c)

-- What was done on a device that was opened, and what is left of it. Where a store was to be made and there
-- are blocks, nothing has begun, and the device is left as it was opened. Where it is honest, a store was
-- made on it, or opened, of which S is said, its commands were answered and it was closed; or its making or
-- its opening was refused. So it is of any blocks that opening takes, once a check was answered ok.
pub record HasServedOn {D R W : Type 0} (strict : Bool) (m : device.Ghosts D) (S : D → Table → Type 0)
    (create : Bool) (device : D) (before after : Streams R W) (left : Served D) : Type 0 where
  pub kept : create ≡ true → 0 < length (m.shown device)
      → HasNotBegun before after left.status × (left.device ≡ device)
  pub made : create ≡ true → m.honest device → length (m.shown device) ≡ 0 →
      IsRefusedStart m (λ c. IsRefused c ⊎ IsImage c empty) device before after left
      ⊎ HasServed strict m S (λ c. IsRefused c ⊎ IsImage c empty) empty device before after left
  pub opened : create ≡ false → m.honest device → (t : Table) → IsImage (m.shown device) t →
      IsRefusedOpening m device before after left
      ⊎ HasServed strict m S (m.may_leave device) t device before after left
  pub checked : create ≡ false → m.honest device →
      IsRefusedOpening m device before after left ⊎ RunsOnceChecked strict m before after left
  pub refused : create ≡ false → m.honest device → (f : Fault) → OpeningRefuses (m.shown device) f →
      IsRefusedOpening m device before after left

-- A file was opened, of which `opens` tells, and with this status there is left what was done on it; or its
-- opening was refused, and nothing has begun.
abbrev pub OpensAndServes : {D R W : Type 0} → Bool → device.Ghosts D → (D → Table → Type 0) → Bool
    → (Result D OpenError → Type 0) → Streams R W → Streams R W → ℕ → Type 0
OpensAndServes {D} strict m S create opens before after status =
    ((e : OpenError) × opens (Err e) × HasNotBegun before after status)
    ⊎ ((device : D) × (left : Served D) × opens (Ok device) × (left.status ≡ status)
    × HasServedOn strict m S create device before after left)
