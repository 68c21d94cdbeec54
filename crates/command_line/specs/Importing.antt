-- What a run of the program that imports leaves.
use Rattle.std.specs.Prelude.{ℕ, ◌≡◌, ◌<◌, ◌≤◌, ◌⊎◌, ◌==◌, Bool, true, false, List, length, Option, Result}
use Rattle.std.specs.Prelude.{Ok, Err}
use Rattle.std.specs.FinMap.{empty}
use Rattle.block_device.specs.Device.{Blocks, LeavesOnly}
use Rattle.block_device.specs.declared.device.BlockDevice as device
use Rattle.file_device.specs.declared.open.OpenError.{OpenError}
use Rattle.page_file.specs.Opening.{IsRefused}
use Rattle.page_file.specs.declared.fault.Fault.{Fault}
use Rattle.live_layers.specs.Image.{IsImage, IsRefusedOrImageOf, OpeningRefuses}
use Rattle.plain_table.specs.Loads.{GivenObjects}
use Rattle.plain_table.specs.Table.{Table}
use Rattle.plain_table.specs.declared.refusal.Refusal.TheVariants as refusal
use Rattle.reply_texts.specs.Texts.{told_refusal}
use Rattle.reply_texts.specs.Writing.{AppendsSome}
use Rattle.layer_import.specs.Imports.{HasImported, import_commands}
use Rattle.program_words.specs.Targets.{IsTargetOf}
use Rattle.command_line.specs.Serving.{IsMisused}
use Rattle.command_line.specs.Streams.{Streams}
use Rattle.command_line.specs.declared.serving.Served.{Served}

-- Objects were put into this layer, whose boxes have so many axes, in a store that held this table; with
-- status 0 all of them, and the store was closed.
pub record PutsInto {D : Type 0} (m : device.Ghosts D) (moment : ℕ) (t : Table) (layer : List ℕ) (fanout : ℕ)
    (opened : D) (left : Served D) : Type 0 where
  pub dims : ℕ
  pub objects : GivenObjects
  pub imported : HasImported m moment t (import_commands t layer dims fanout objects) (left.status == 0)
      opened left.device

-- There is no store to import into, and a stop left blocks that have P.
pub record IsUnopened {D : Type 0} (m : device.Ghosts D) (P : Blocks → Type 0) (device : D)
    (left : Served D) : Type 0 where
  pub failed : left.status ≡ 1
  pub stops : LeavesOnly m.moment m.left_since m.recovery device left.device P

-- A store was made or opened, of which S is said and which held this table, and objects were put into this
-- layer. A stop within its opening left blocks that have P, and one since then what an import leaves; and one
-- before the run what it might have left then.
pub record ImportsInto {D : Type 0} (m : device.Ghosts D) (S : D → Table → Type 0) (P : Blocks → Type 0)
    (t : Table) (layer : List ℕ) (fanout : ℕ) (device : D) (left : Served D) : Type 0 where
  pub opened : D
  pub store : S opened t
  pub opening : LeavesOnly m.moment m.left_since m.recovery device opened P
  pub puts : PutsInto m (m.moment opened) t layer fanout opened left
  pub whole : LeavesOnly m.moment m.left_since m.recovery device left.device
      (λ c. P c ⊎ IsRefusedOrImageOf puts.imported.tables c)

-- What an import did on a device that was opened. Where a store was to be made and there are blocks, nothing
-- has begun, and the device is left as it was opened. Where it is honest, a store was made on it, or opened,
-- and objects were put into this layer; or its making or its opening was refused.
pub record HasImportedOn {D : Type 0} (m : device.Ghosts D) (S : D → Table → Type 0) (create : Bool)
    (layer : List ℕ) (fanout : ℕ) (device : D) (left : Served D) : Type 0 where
  pub kept : create ≡ true → 0 < length (m.shown device) → (left.status ≡ 1) × (left.device ≡ device)
  pub made : create ≡ true → m.honest device → length (m.shown device) ≡ 0 →
      IsUnopened m (λ c. IsRefused c ⊎ IsImage c empty) device left
      ⊎ ImportsInto m S (λ c. IsRefused c ⊎ IsImage c empty) empty layer fanout device left
  pub opened : create ≡ false → m.honest device → (t : Table) → IsImage (m.shown device) t →
      (IsUnopened m (m.may_leave device) device left × (m.shown left.device ≡ m.shown device))
      ⊎ ImportsInto m S (m.may_leave device) t layer fanout device left
  pub refused : create ≡ false → m.honest device → (f : Fault) → OpeningRefuses (m.shown device) f →
      IsUnopened m (m.may_leave device) device left × (m.shown left.device ≡ m.shown device)

-- so it is of the layer that this word names, if one is said, and the status is at most 1
pub record IntoLayerOf {D : Type 0} (m : device.Ghosts D) (S : D → Table → Type 0) (create : Bool)
    (said : Option (List ℕ)) (device : D) (left : Served D) : Type 0 where
  pub layer : List ℕ
  pub fanout : ℕ
  pub target : IsTargetOf said layer fanout
  pub few : left.status ≤ 1
  pub imported : HasImportedOn m S create layer fanout device left

-- The text of the input was refused, and its last read did not fail.
pub record IsRefusedText {R : Type 0} (failing : R → Bool) (r' : R) (status : ℕ) : Type 0 where
  pub stopped : status ≡ 3
  pub heard : failing r' ≡ false

-- Not all of the input was read: nothing of it, since the output could not be flushed; or its last read failed;
-- or there was no memory, and it was said so, or a front of the line that says it.
pub record IsUnread {R W : Type 0} (failing : R → Bool) (before after : Streams R W) (status : ℕ) : Type 0 where
  pub failed : status ≡ 1
  pub why : (after.input ≡ before.input) ⊎ (failing after.input ≡ true)
      ⊎ AppendsSome before.said after.said (told_refusal refusal.Memory)

-- Objects were to be imported into a file. No file was opened: the words do not go together, or the text of the
-- input was refused, or not all of it was read. Or the file's opening was refused; or it was opened, of which
-- `opens` tells, and with this status there is left what was done on it: objects were put into the layer that
-- this word names. `failing` tells whether the last read of the input failed.
abbrev pub OpensAndImports : {D R W : Type 0} → device.Ghosts D → (D → Table → Type 0)
    → (Result D OpenError → Type 0) → (R → Bool) → Bool → Option (List ℕ) → Streams R W → Streams R W → ℕ → Type 0
OpensAndImports {D} m S opens failing create word before after status =
    IsMisused before after status
    ⊎ IsRefusedText failing after.input status
    ⊎ IsUnread failing before after status
    ⊎ ((e : OpenError) × opens (Err e) × (status ≡ 1))
    ⊎ ((device : D) × (left : Served D) × opens (Ok device) × (left.status ≡ status)
    × IntoLayerOf m S create word device left)
