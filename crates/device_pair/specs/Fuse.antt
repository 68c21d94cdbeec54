-- A fuse over a pair as its contracts see it.
use Rattle.std.specs.Prelude.{◌≡◌, ℕ, Bool, true, false, Result, Err}
use Rattle.block_device.specs.Device.{one_more}
use Rattle.block_device.specs.Fuse.{is_blown}
use Rattle.block_device.specs.declared.device.DeviceError.{DeviceError}
use Rattle.block_device.specs.declared.device.DeviceError.TheVariants.{Failed}
use Rattle.block_device.specs.declared.fuse.FuseMode.{FuseMode}
use Rattle.device_pair.specs.declared.fuse.FusePair.{FusePair}

-- the pair below the fuse
abbrev pub inner_of : {P : Type 0} → FusePair P → P
inner_of f = f.inner

-- how many calls it lets pass first
abbrev pub passes_of : {P : Type 0} → FusePair P → ℕ
passes_of f = f.passes

-- what it does after the first that fails
abbrev pub mode_of : {P : Type 0} → FusePair P → FuseMode
mode_of f = f.mode

-- how many reads, writes and syncs there were, up to the greatest u64
abbrev pub calls_of : {P : Type 0} → FusePair P → ℕ
calls_of f = f.calls

-- how many of them it failed, up to the greatest u64
abbrev pub blown_of : {P : Type 0} → FusePair P → ℕ
blown_of f = f.blown

-- whether its next call fails
abbrev pub fails_next : {P : Type 0} → FusePair P → Bool
fails_next f = is_blown (mode_of f) (passes_of f) (calls_of f)

-- A call that the fuse fails answers Failed, and changes nothing below. Any other is the call `below` of the
-- pair below. Each is counted.
pub record CallsBelow {P : Type 0} (old new : FusePair P) (result : Result (Unit {0}) DeviceError)
    (below : Type 0) : Type 0 where
  pub fails : fails_next old ≡ true → (result ≡ Err Failed) × (inner_of new ≡ inner_of old)
  pub passes : fails_next old ≡ false → below
  pub counted : calls_of new ≡ one_more (calls_of old)
  pub passes_stay : passes_of new ≡ passes_of old
  pub mode_stays : mode_of new ≡ mode_of old
