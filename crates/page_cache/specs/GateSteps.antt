-- What calls make of a cache as a whole, also where they are refused: it is put over a file, its gate opened
-- and shut, its version raised, and it is closed. `old` is the cache before, `new` the one after, `result`
-- the call's answer.
use Rattle.std.specs.Prelude.{◌≡◌, ◌⊎◌, ◌↔◌, ℕ, Result, Ok, false, IfErr, IfOk, IsOk, OnErr, OnOk}
use Rattle.block_device.specs.Device.{Blocks, LeavesOnly, Only}
use Rattle.page_file.specs.Fault.{HasCause, IsDamage, IsOfDevice, faults_after}
use Rattle.page_file.specs.File as below
use Rattle.page_file.specs.Layout.{version_in, version_number}
use Rattle.page_file.specs.Opening.{IsRefused}
use Rattle.page_file.specs.Stops.{SameButGate}
use Rattle.page_file.specs.declared.fault.Fault.{Fault}
use Rattle.page_file.specs.declared.fault.Fault.TheVariants as fault
use Rattle.page_file.specs.declared.file.PageFile.{PageFile}
use Rattle.page_file.specs.declared.gate.Gate.TheVariants.{Open, Shut, Unsure}
use Rattle.page_file.specs.declared.header.Version.TheVariants.{Three}
use Rattle.page_cache.specs.Cache.{IsHeld, IsHonest, IsPageMap, IsUnchanged, KeepsMap, LiesIn, blocks_of}
use Rattle.page_cache.specs.Cache.{capacity_of, device_of, free_count_of, free_of, gate_of, given}
use Rattle.page_cache.specs.Cache.{held_pages, looks_of, next_of, pages, touched_of, version_of}
use Rattle.page_cache.specs.declared.cache.PageCache.{PageCache}

-- A cache of at most so many pages was put over a file, and shows what that shows.
pub record Covers {D A : Type 0} {m : _} (file : PageFile D m) (most : ℕ)
    (result : Result (PageCache D A m) (Fault × D)) : Type 0 where
  pub device : IfOk result (λ cache. device_of cache ≡ below.device_of file)
  pub gate : IfOk result (λ cache. gate_of cache ≡ below.gate_of file)
  pub version : IfOk result (λ cache. version_of cache ≡ below.version_of file)
  pub next : IfOk result (λ cache. next_of cache ≡ below.next_of file)
  pub pages : IfOk result (λ cache. (k : ℕ) → pages cache k ≡ below.pages file k)
  pub given : IfOk result (λ cache. (k : ℕ) → given cache k ≡ below.given file k)
  pub sound : IfOk result (λ cache. IsPageMap cache ↔ below.IsPageMap file)
  pub lies : IfOk result (λ cache. (blocks : Blocks) → LiesIn cache blocks ↔ below.LiesIn file blocks)
  pub holds_none : IfOk result (λ cache. (n : ℕ) → ¬ (IsHeld cache n))
  pub capacity : IfOk result (λ cache. capacity_of cache ≡ most)
  pub looks : IfOk result (λ cache. looks_of cache ≡ 0)
  pub refused : IfErr result (λ e. (e.0 ≡ fault.Memory) × (e.1 ≡ below.device_of file))

-- The gate was opened for a change, if it was not open.
pub record BeginsChange {D A : Type 0} {m : _} {T : Type 0} (old new : PageCache D A m)
    (result : Result T Fault) : Type 0 where
  pub «open» : OnOk result (gate_of new ≡ Open)
  pub untouched : touched_of new ≡ false
  pub refused : OnErr result (gate_of new ≡ Unsure)
  pub was_open : gate_of old ≡ Open → IsUnchanged old new × IsOk result
  pub map : KeepsMap old new
  pub blocks : IsHonest old → SameButGate (blocks_of new) (blocks_of old)
  -- a stop leaves the blocks as they were, the gate aside
  pub stops : IsHonest old → ¬ (gate_of old ≡ Open)
      → LeavesOnly m.moment m.left_since m.recovery (device_of old) (device_of new)
      (λ c. SameButGate c (blocks_of old))
  pub looks : looks_of new ≡ looks_of old
  pub capacity : capacity_of new ≡ capacity_of old
  pub holds : held_pages new ≡ held_pages old
  pub honest : IsHonest old ↔ IsHonest new
  pub faults : IfErr result IsOfDevice
  pub cause : HasCause (m.faults (device_of old)) (m.faults (device_of new)) result

-- The version was raised to 3, in memory alone; all else that callers see has stayed.
pub record RaisesVersion {D A : Type 0} {m : _} (old new : PageCache D A m) : Type 0 where
  pub version : version_of new ≡ Three
  pub device : device_of new ≡ device_of old
  pub gate : gate_of new ≡ gate_of old
  pub next : next_of new ≡ next_of old
  pub free_count : free_count_of new ≡ free_count_of old
  pub free : free_of new ≡ free_of old
  pub pages_stay : (k : ℕ) → pages new k ≡ pages old k
  pub given_stay : (k : ℕ) → given new k ≡ given old k
  pub sound : IsPageMap old ↔ IsPageMap new
  pub looks : looks_of new ≡ looks_of old
  pub touched : touched_of new ≡ touched_of old
  pub capacity : capacity_of new ≡ capacity_of old
  pub holds : held_pages new ≡ held_pages old

-- The gate was shut, after all that was put was written.
pub record Settles {D A : Type 0} {m : _} {T : Type 0} (old new : PageCache D A m) (result : Result T Fault)
    : Type 0 where
  pub shut : OnOk result (gate_of new ≡ Shut)
  pub lies : IsHonest old → OnOk result (LiesIn new (blocks_of new))
  pub refused : OnErr result ((gate_of new ≡ Unsure) ⊎ ((gate_of new ≡ Open) × (gate_of old ≡ Open)))
  pub was_shut : gate_of old ≡ Shut → IsUnchanged old new × IsOk result
  pub was_unsure : IsHonest old → gate_of old ≡ Unsure → SameButGate (blocks_of new) (blocks_of old)
  -- of a file that was changed the header has the version, and no longer 1
  pub version : IsHonest old → gate_of old ≡ Open
      → OnOk result (version_in (blocks_of new) ≡ version_number (version_of old))
  pub map : KeepsMap old new
  pub holds : (k : ℕ) → IsHeld old k → IsHeld new k
  -- a stop leaves blocks that opening refuses, or those that are read afterwards, the gate aside, in which
  -- the map lies
  pub stops : IsHonest old
      → LeavesOnly m.moment m.left_since m.recovery (device_of old) (device_of new)
      (λ c. IsRefused c ⊎ (SameButGate c (blocks_of new) × LiesIn new c))
  pub looks : looks_of new ≡ looks_of old
  pub capacity : capacity_of new ≡ capacity_of old
  pub honest : IsHonest old ↔ IsHonest new
  pub faults : IsHonest old → IfErr result IsOfDevice
  pub other_faults : IfErr result (λ f. IsOfDevice f ⊎ IsDamage f)
  pub cause : HasCause (m.faults (device_of old)) (m.faults (device_of new)) result

-- The cache was settled, and its device handed back.
pub record Closes {D A : Type 0} {m : _} (cache : PageCache D A m) (result : Result D (Fault × D))
    : Type 0 where
  pub lies : IfOk result (λ device. IsHonest cache → LiesIn cache (m.shown device))
  pub durable : IfOk result (λ device. IsHonest cache → Only (m.shown device) (m.may_leave device))
  pub was_shut : gate_of cache ≡ Shut → result ≡ Ok (device_of cache)
  pub version : IfOk result (λ device. IsHonest cache → gate_of cache ≡ Open
      → version_in (m.shown device) ≡ version_number (version_of cache))
  -- a stop leaves blocks that opening refuses, or those that are read afterwards, the gate aside, in which
  -- the map lies
  pub stops : IfOk result (λ device. IsHonest cache
      → LeavesOnly m.moment m.left_since m.recovery (device_of cache) device
      (λ c. IsRefused c ⊎ (SameButGate c (m.shown device) × LiesIn cache c)))
  pub refused_stops : IfErr result (λ e. IsHonest cache
      → LeavesOnly m.moment m.left_since m.recovery (device_of cache) e.1
      (λ c. IsRefused c ⊎ (SameButGate c (m.shown e.1) × LiesIn cache c)))
  pub honest : IfOk result (λ device. IsHonest cache ↔ m.honest device)
  pub refused_honest : IfErr result (λ e. IsHonest cache ↔ m.honest e.1)
  pub faults : IfErr result (λ e. IsHonest cache → IsOfDevice e.0)
  pub other_faults : IfErr result (λ e. IsOfDevice e.0 ⊎ IsDamage e.0)
  -- the device failed as often as before, and once more where that is the refusal
  pub no_fault : IfOk result (λ device. m.faults device ≡ m.faults (device_of cache))
  pub cause : IfErr result (λ e. m.faults e.1 ≡ faults_after e.0 (m.faults (device_of cache)))
