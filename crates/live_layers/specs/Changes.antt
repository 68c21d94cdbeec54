-- What calls do to live layers. A change is made, refused with the table as it was, or broken off half way; a
-- question is answered or refused.
use Rattle.std.specs.Prelude.{◌≡◌, ◌⊎◌, false, true, List, Result, Ok, Err, OnErr, IfErr}
use Rattle.block_device.specs.Device.{HasRisen, LeavesOnly}
use Rattle.page_cache.specs.Cache.{IsHonest, KeepsGate, device_of, gate_of, touched_of, version_of}
use Rattle.page_file.specs.declared.fault.Fault.{Fault}
use Rattle.page_file.specs.declared.fault.Fault.TheVariants as fault
use Rattle.page_file.specs.declared.gate.Gate.TheVariants.{Open}
use Rattle.page_file.specs.declared.header.Version.{Version}
use Rattle.plain_table.specs.Commands.{Command}
use Rattle.plain_table.specs.Step.{Answer, after, reply_of}
use Rattle.plain_table.specs.Step.Answer.{Done, Refused}
use Rattle.plain_table.specs.Table.{Table}
use Rattle.plain_table.specs.declared.refusal.Refusal.{Refusal}
use Rattle.store_law.specs.Lawful.{IsFault, MayWrite, RefusedBy}
use Rattle.store_law.specs.Stops.{is_end}
use Rattle.live_layers.specs.Creating.{version_by}
use Rattle.live_layers.specs.Faults.{HasRefusalCause, HasUnmadeCause, IsMet, may_refuse}
use Rattle.live_layers.specs.Image.{IsRefusedOrImageOf}
use Rattle.live_layers.specs.Keeping.{IsSound, IsWritten, RestLeavesOneOf, newest_of}
use Rattle.live_layers.specs.Refusals.{IsTriedChange, refusals_in}
use Rattle.live_layers.specs.Staying.{KeepsPagesAndRecords, LeavesVersion}
use Rattle.live_layers.specs.declared.layers.Layers.{Layers}
use Rattle.live_layers.specs.declared.unmade.Unmade.{Unmade}
use Rattle.live_layers.specs.declared.unmade.Unmade.TheVariants as unmade

-- the device's count of faults rose between the two
abbrev pub Rose : {D A : Type 0} {m : _} → Layers D A m → Layers D A m → Type 0
Rose {m = m} old new = HasRisen (m.faults (device_of old.cache)) (m.faults (device_of new.cache))

-- want of memory, or a device that failed
abbrev pub IsFaultOfChange : Type 0 → Fault → Type 0
IsFaultOfChange rose fault.Memory = Unit {0}
IsFaultOfChange rose fault.Device = rose
IsFaultOfChange rose f = ⊥

-- The change is made, and the layers are sound with the table after it; or it is refused, as the table
-- refuses it or by a fault, and they are sound with the table as it was; or it broke off half way, and
-- nothing is promised of them.
abbrev pub IsChanged : {D A : Type 0} {m : _} → Layers D A m → Layers D A m → Table → Command
    → Result (Unit {0}) Unmade → Type 0
IsChanged old new t c (Ok u) = (Done ≡ reply_of t c) × IsSound new (after t c)
IsChanged old new t c (Err (unmade.Refused r)) =
    IsSound new t × (((Refused r ≡ reply_of t c) × (after t c ≡ t)) ⊎ IsFault (Rose old new) r)
IsChanged old new t c (Err (unmade.Broken f)) = IsHonest new.cache × MayWrite t c
    × IsFaultOfChange (Rose old new) f

-- it broke off half way, or was made
abbrev pub IsBegun : Result (Unit {0}) Unmade → Type 0
IsBegun (Err (unmade.Refused r)) = ⊥
IsBegun result = Unit {0}

-- What stops leave of a change: nothing but what one at rest left, so once its gate is open blocks that
-- opening refuses. The gate is open where a change of the table was begun, and stays as it is where the table
-- would not change.
pub record ChangeLeaves {D A : Type 0} {m : _} (old new : Layers D A m) (t : Table) (c : Command)
    (result : Result (Unit {0}) Unmade) : Type 0 where
  pub stops : (ts : List Table) → RestLeavesOneOf old.cache ts
      → LeavesOnly m.moment m.left_since m.recovery (device_of old.cache) (device_of new.cache)
      (IsRefusedOrImageOf ts)
  pub rests : (ts : List Table) → RestLeavesOneOf old.cache ts → RestLeavesOneOf new.cache ts
  pub opened : ¬ (after t c ≡ t) → IsBegun result → gate_of new.cache ≡ Open
  pub quiet : after t c ≡ t → KeepsGate old.cache new.cache

-- what a command does to layers that are sound with the table
pub record IsChange {D A : Type 0} {m : _} (old new : Layers D A m) (t : Table) (c : Command)
    (result : Result (Unit {0}) Unmade) : Type 0 where
  pub changed : IsChanged old new t c result
  pub leaves : ChangeLeaves old new t c result

-- of a change that was refused, so that nothing changed
abbrev pub OnRefused : Result (Unit {0}) Unmade → Type 0 → Type 0
OnRefused (Err (unmade.Refused r)) P = P
OnRefused result P = Unit {0}

-- of a change that broke off half way
abbrev pub OnBroken : Result (Unit {0}) Unmade → Type 0 → Type 0
OnBroken (Err (unmade.Broken f)) P = P
OnBroken result P = Unit {0}

-- a refusal that is answered so is none of a store that failed
abbrev pub GoesOn : Result (Unit {0}) Unmade → Type 0
GoesOn (Err (unmade.Refused r)) = is_end r ≡ false
GoesOn result = Unit {0}

-- What a change keeps of any layers: pages and records, so each tree, where it was refused, which is not as
-- by a store that failed, and it breaks off half way only where a page was touched; what was written, where
-- it was not made; an open gate; honesty; the count of the device's faults, which rises by one where its
-- failure ended the change; and the version of the file, but that it is this one where the change was made. It
-- is not made by nothing but the table's refusals, and faults that were met.
pub record KeepsInChange {D A : Type 0} {m : _} (old new : Layers D A m) (made : Version)
    (result : Result (Unit {0}) Unmade) : Type 0 where
  pub refused : OnRefused result (KeepsPagesAndRecords old new)
  pub touched : OnBroken result (touched_of new.cache ≡ true)
  pub goes_on : GoesOn result
  pub written : OnErr result (IsWritten old → IsWritten new)
  pub stays_open : gate_of old.cache ≡ Open → gate_of new.cache ≡ Open
  pub honest : IsHonest old.cache → IsHonest new.cache
  pub cause : HasUnmadeCause (m.faults (device_of old.cache)) (m.faults (device_of new.cache)) result
  pub met : IfErr result (IsMet new.cache)
  pub versions : LeavesVersion old new made result

-- A change by a command, whichever table the layers are sound with. Only one that makes a layer may raise the
-- version of the file. Its refusals are tried in their order, in layers that are not sound, too.
pub record IsChangeBy {D A : Type 0} {m : _} (old new : Layers D A m) (c : Command)
    (result : Result (Unit {0}) Unmade) : Type 0 where
  pub keeps : KeepsInChange old new (version_by c (newest_of old) (version_of old.cache)) result
  pub lawful : (t : Table) → IsSound old t → IsChange old new t c result
  pub in_turn : IsTriedChange (refusals_in old c) result

-- ---- questions

-- A question is answered as the table answers it, or refused by a fault, and the layers are sound with the
-- table as it was.
abbrev pub IsAnswered : {D A : Type 0} {m : _} → Layers D A m → Layers D A m → Table → Command → Answer
    → Type 0
IsAnswered old new t c a =
    IsSound new t × ((a ≡ reply_of t c) ⊎ RefusedBy (IsFault (Rose old new)) a)

-- What a question keeps of any layers: their trees and versions, each table that they are sound with, and the
-- gate; no refusal is that of a store that failed, or other than the table's and those of faults that reading
-- pages may meet; and the count of the device's faults rises by one with a refusal that says so, and with nothing
-- else.
pub record KeepsInQuestion {D A : Type 0} {m : _} {T : Type 0} (old new : Layers D A m)
    (result : Result T Refusal) : Type 0 where
  pub trees : KeepsPagesAndRecords old new
  pub sound : (t : Table) → IsSound old t → IsSound new t
  pub gate : KeepsGate old.cache new.cache
  pub goes_on : IfErr result (λ r. is_end r ≡ false)
  pub met : IfErr result (λ r. may_refuse r ≡ true)
  pub cause : HasRefusalCause (m.faults (device_of old.cache)) (m.faults (device_of new.cache)) result
