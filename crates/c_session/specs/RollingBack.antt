-- A session whose changes are given up. Our rule, docs/LIBRARY.md.
use Rattle.std.specs.Prelude.{ℕ, ◌≡◌, ◌⊎◌, true, false, List, Option, None, Some}
use Rattle.std.specs.List.{Contains}
use Rattle.block_device.specs.Device.{BeginsOne, Blocks, Recovery}
use Rattle.block_device.specs.declared.device.BlockDevice as device
use Rattle.live_layers.specs.Faults.{faults_after_refusal}
use Rattle.live_layers.specs.Image.{IsImageOfOne}
use Rattle.page_file.specs.declared.header.Version.TheVariants.{Three}
use Rattle.plain_table.specs.Refusals.{refusal_number}
use Rattle.plain_table.specs.Table.{Table}
use Rattle.plain_table.specs.declared.refusal.Refusal.{Refusal}
use Rattle.layer_store.specs.Faults.{IsMemoryOrDevice}
use Rattle.layer_store.specs.Representation.{BeginsWith, IsSettled, device_in, newest_in}
use Rattle.layer_store.specs.Starting.{is_cache}
use Rattle.layer_store.specs.declared.store.Store.{Store}
use Rattle.c_rows.specs.Numbers.{detail_of}
use Rattle.c_session.specs.Calls.{StaysBy}
use Rattle.c_session.specs.declared.session.Opening.{Opening}
use Rattle.c_session.specs.declared.session.Session.{Session}

-- whatever commit a stop now brings back, it is an image of one of these tables
abbrev pub BringsBack : {D : Type 0} → Recovery D → D → List Table → Type 0
BringsBack recovery device tables = (c : Blocks) → BeginsOne (recovery.commits device) c → IsImageOfOne tables c

-- the store is alive with one of these tables, and a stop now leaves an image of that and nothing else
abbrev pub BeginsWithOne : {D A : Type 0} {m : _} → Store D A m → List Table → Type 0
BeginsWithOne {m = m} store tables =
    (t : Table) × Contains tables t × BeginsWith store (m.moment (device_in store)) t

-- The store takes the place of one whose device was this: it has one of the tables that the device was sure to
-- bring back.
pub record IsBack {D A : Type 0} {m : _} (device : D) (opening : Opening) (store : Store D A m) : Type 0 where
  pub table : m.honest device → (tables : List Table) → BringsBack m.recovery device tables
      → BeginsWithOne store tables
  pub settled : IsSettled store
  pub newest : newest_in store ≡ opening.newest
  pub faults : m.faults (device_in store) ≡ m.faults device

-- The device is left of one whose store was given up and could not be opened again, for this reason, which is memory
-- or the device where each version is opened: it is sure to bring back the same tables still.
pub record IsLeftOf {D : Type 0} (m : device.Ghosts D) (device : D) (opening : Opening) (r : Refusal)
    (left : D) : Type 0 where
  pub honest : m.honest device → is_cache opening.cache ≡ true → m.honest left
  pub table : m.honest device → is_cache opening.cache ≡ true → (tables : List Table)
      → BringsBack m.recovery device tables → BringsBack m.recovery left tables
  pub why : m.honest device → is_cache opening.cache ≡ true → opening.newest ≡ Three → (tables : List Table)
      → BringsBack m.recovery device tables → IsMemoryOrDevice r
  pub faults : m.faults left ≡ faults_after_refusal r (m.faults device)

-- the device of a session: its store's, or the one that is left
abbrev pub device_of : {D A : Type 0} {m : _} → Option (Store D A m) → Option D → Option D
device_of (Some store) left = Some (device_in store)
device_of None left = left

-- The session has a store again, or the device is left, and the number tells which.
abbrev pub ComesBack : {D A : Type 0} {m : _} → Session D A m → Session D A m → D → ℕ → Type 0
ComesBack {D} {A} {m} old new device number =
    ((t : Store D A m) × IsBack device old.opening t × (new ≡ record old { store = Some t; left = None })
    × (number ≡ 0))
    ⊎ ((r : Refusal) × (left : D) × IsLeftOf m device old.opening r left
    × (new ≡ record old { store = None; left = Some left; detail = detail_of r })
    × (number ≡ refusal_number r))

-- Changes were given up: nothing of a session that is only read, or has no device; and else what was changed since
-- the last closing, whatever state the store was in.
abbrev pub RollsBackBy : {D A : Type 0} {m : _} → Session D A m → Session D A m → ℕ → Type 0
RollsBackBy {D} old new number = ((old.read_only ≡ true) × StaysBy old new 0 number)
    ⊎ ((device_of old.store old.left ≡ None) × StaysBy old new 103 number)
    ⊎ ((device : D) × (old.read_only ≡ false) × (device_of old.store old.left ≡ Some device)
    × ComesBack old new device number)
