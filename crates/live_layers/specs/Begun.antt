-- What a change of pages behind the gate leaves of a cache and its device (our rule, docs/FORMAT.md, "The
-- gate").
use Rattle.std.specs.Prelude.{◌≡◌, ◌≤◌, ◌↔◌, true, false, List, Result, OnErr, OnOk, IfErr}
use Rattle.block_device.specs.Device.{LeavesOnly}
use Rattle.live_layers.specs.Broken.{cause_in}
use Rattle.live_layers.specs.declared.broken.Broken.{Broken}
use Rattle.page_cache.specs.Cache.{IsHonest, device_of, gate_of, next_of, touched_of}
use Rattle.node_page.specs.Faults.{IsChangeFault}
use Rattle.page_cache.specs.Calls.{faults_behind}
use Rattle.page_cache.specs.declared.cache.PageCache.{PageCache}
use Rattle.page_file.specs.declared.gate.Gate.TheVariants.{Open}
use Rattle.page_file.specs.declared.header.Version.{Version}
use Rattle.plain_table.specs.Table.{Table}
use Rattle.live_layers.specs.Image.{IsRefusedOrImageOf}
use Rattle.live_layers.specs.Keeping.{IsSound, IsWritten, RestLeavesOneOf}
use Rattle.live_layers.specs.Staying.{KeepsPagesAndRecords, LeavesVersion}
use Rattle.live_layers.specs.declared.layers.Layers.{Layers}

-- A change was begun, and then made or broken off. A stop leaves what one at rest leaves. Where a page was
-- touched the gate is open, and one that was open stays so; that a page was touched is said only where one
-- was. Honesty stays, no page number is taken back, and the count of the device's faults rises by one where it
-- was the cause. Of any pages the cause is want of memory, the device, a damaged page, or want of a page number,
-- where each is live.
pub record Begins {D A : Type 0} {m : _} {T : Type 0} (old new : PageCache D A m)
    (result : Result T Broken) : Type 0 where
  pub stops : (ts : List Table) → IsHonest old → RestLeavesOneOf old ts
      → LeavesOnly m.moment m.left_since m.recovery (device_of old) (device_of new) (IsRefusedOrImageOf ts)
  pub rests : (ts : List Table) → IsHonest old → RestLeavesOneOf old ts → RestLeavesOneOf new ts
  pub opened : OnOk result (gate_of new ≡ Open)
  pub broke_open : IfErr result (λ b. b.touched ≡ true → gate_of new ≡ Open)
  pub told : IfErr result (λ b. b.touched ≡ true → touched_of new ≡ true)
  pub stays_open : gate_of old ≡ Open → gate_of new ≡ Open
  pub honest : IsHonest old ↔ IsHonest new
  pub next : next_of old ≤ next_of new
  pub faults : m.faults (device_of new) ≡ faults_behind (cause_in result) (m.faults (device_of old))
  pub met : IfErr result (λ b. IsChangeFault new b.cause)

-- The same of layers, of which it keeps what was written where it broke off; and pages, records and each
-- table where that was before pages were touched. It leaves the file at this version where it was made.
pub record BeginsChange {D A : Type 0} {m : _} {T : Type 0} (old new : Layers D A m) (made : Version)
    (result : Result T Broken) : Type 0 where
  pub begins : Begins old.cache new.cache result
  pub untouched : (t : Table) → IsSound old t → IfErr result (λ b. b.touched ≡ false → IsSound new t)
  pub kept : IfErr result (λ b. b.touched ≡ false → KeepsPagesAndRecords old new)
  pub written : OnErr result (IsWritten old → IsWritten new)
  pub versions : LeavesVersion old new made result
