-- What private calls make of frames and of the file below, also where they are refused.
use Rattle.std.specs.Prelude.{◌≡◌, ◌⊎◌, ◌↔◌, ◌∷◌, ◌≤◌, ◌<◌, ℕ, None, Some, IsSome, Result, false, true}
use Rattle.std.specs.Prelude.{if◌then◌else◌, ◌==◌, IfErr, IsOk, OnErr, OnOk, nat_eq, option_map, slice_get}
use Rattle.std.specs.Map.{remove_entry}
use Rattle.block_device.specs.Device.{Torn, block_at, written}
use Rattle.page_file.specs.Fault.{HasCause, IsDamage, IsOfDevice}
use Rattle.page_file.specs.File as below
use Rattle.page_file.specs.Pages.{SameBut}
use Rattle.page_file.specs.declared.fault.Fault.{Fault}
use Rattle.page_file.specs.declared.fault.Fault.TheVariants as fault
use Rattle.page_file.specs.declared.file.PageFile.{PageFile}
use Rattle.page_file.specs.declared.gate.Gate.TheVariants.{Open}
use Rattle.page_cache.specs.Cache.{IsHeld, IsHonest, KeepsMap, blocks_behind, device_of, free_of, gate_of}
use Rattle.page_cache.specs.Cache.{held_pages, next_of}
use Rattle.page_cache.specs.Frames.{frame_at}
use Rattle.page_cache.specs.Keeps.{KeepsBlocks, SameFrames}
use Rattle.page_cache.specs.declared.cache.PageCache.{PageCache}
use Rattle.page_cache.specs.declared.frame.Frame.{Frame}

-- Page n of the file was written if its frame is changed; no call was made if it is not.
pub record WritesBack {D A : Type 0} {m : _} {T : Type 0} (n : ℕ) (frame : Frame A) (old new : PageFile D m)
    (result : Result T Fault) : Type 0 where
  pub gate : below.KeepsGate old new
  pub header : below.header_of new ≡ below.header_of old
  pub block : below.IsHonest old
      → OnOk result (below.blocks_of new
      ≡ (if frame.changed then written n frame.bytes.value (below.blocks_of old) else below.blocks_of old))
  pub refused : OnErr result (frame.changed ≡ true)
  -- the file then has the bytes of the frame
  pub there : below.IsHonest old
      → (frame.changed ≡ false → below.given old n ≡ Some frame.bytes.value)
      → OnOk result (below.given new n ≡ Some frame.bytes.value)
  pub torn : below.IsHonest old → Torn n (below.blocks_of old) (below.blocks_of new)
  pub others : below.IsHonest old → SameBut n (below.given old) (below.given new)
  pub quiet : frame.changed ≡ false → (new ≡ old) × IsOk result
  pub faults : below.IsHonest old → IfErr result IsOfDevice
  pub other_faults : IfErr result (λ f. IsOfDevice f ⊎ IsDamage f)
  pub cause : HasCause (m.faults (below.device_of old)) (m.faults (below.device_of new)) result

-- Page n was written if it was changed, and let go; after a refusal the same frames are held.
pub record Releases {D A : Type 0} {m : _} {T : Type 0} (n : ℕ) (old new : PageCache D A m)
    (result : Result T Fault) : Type 0 where
  pub kept : KeepsBlocks old new
  pub absent : (k : ℕ) → frame_at old.frames.entries k ≡ None → frame_at new.frames.entries k ≡ None
  pub gone : OnOk result (frame_at new.frames.entries n ≡ None)
  pub refused : OnErr result (new.frames ≡ old.frames)
  pub others : (k : ℕ) → ¬ (k ≡ n) → IsHeld old k → IsHeld new k
  pub entries : IsSome (frame_at old.frames.entries n)
      → OnOk result (new.frames.entries ≡ remove_entry (nat_eq n) old.frames.entries)
  pub quiet : ¬ (gate_of old ≡ Open) → (new.file ≡ old.file) × IsOk result
  pub faults : IsHonest old → IfErr result IsOfDevice
  pub other_faults : IfErr result (λ f. IsOfDevice f ⊎ IsDamage f)
  pub cause : HasCause (m.faults (device_of old)) (m.faults (device_of new)) result

-- Page n is held in this frame, as the one used last; after a refusal the same frames are held.
pub record Holds {D A : Type 0} {m : _} {T : Type 0} (n : ℕ) (frame : Frame A) (old new : PageCache D A m)
    (result : Result T Fault) : Type 0 where
  pub frames : OnOk result ((k : ℕ)
      → frame_at new.frames.entries k ≡ (if k == n then Some frame else frame_at old.frames.entries k))
  pub first : OnOk result (option_map (λ e. e.0) (slice_get new.frames.entries 0) ≡ Some n)
  pub refused : OnErr result (SameFrames old new)
  pub held : frame_at old.frames.entries n ≡ None → OnOk result (held_pages new ≡ n ∷ held_pages old)
  pub refused_held : OnErr result (held_pages new ≡ held_pages old)
  pub kept : frame.changed ≡ false → frame_at old.frames.entries n ≡ None → KeepsBlocks old new
  pub written : IsHonest old → frame.changed ≡ true
      → OnOk result (blocks_behind new ≡ written n frame.bytes.value (blocks_behind old))
  pub file : new.file ≡ old.file
  pub looks : new.looks ≡ old.looks
  pub touched : new.touched ≡ old.touched
  pub capacity : new.frames.cap ≡ old.frames.cap
  pub memory : IfErr result (λ f. f ≡ fault.Memory)

-- The gate was opened where it was not open, with the frames as they were; after a refusal it is unsure.
pub record OpensGate {D A : Type 0} {m : _} {T : Type 0} (old new : PageCache D A m) (result : Result T Fault)
    : Type 0 where
  pub opened : OnOk result (gate_of new ≡ Open)
  pub was_open : gate_of old ≡ Open → (new.file ≡ old.file) × IsOk result
  pub frames : new.frames ≡ old.frames
  pub looks : new.looks ≡ old.looks
  pub touched : new.touched ≡ old.touched
  pub map : KeepsMap old new
  pub free : IsHonest old → free_of new ≡ free_of old
  pub header : below.header_of new.file ≡ below.header_of old.file
  -- the blocks are as they were behind what is held, the gate aside
  pub blocks : IsHonest old → (n : ℕ) → 2 ≤ n → n < next_of old
      → block_at n (blocks_behind new) ≡ block_at n (blocks_behind old)
  pub honest : IsHonest old ↔ IsHonest new
  pub faults : IfErr result IsOfDevice
  pub cause : HasCause (m.faults (device_of old)) (m.faults (device_of new)) result
