-- When a fuse fails a call, and what its calls do otherwise (our rule, `FuseDevice`).
use Rattle.std.specs.Prelude.{◌≡◌, ◌<◌, ◌+◌, ◌-◌, ◌^◌, ℕ, min, Bool, true, false, ◌==◌, nat_le, Result, Err}
use Rattle.std.proofs.Common.{arith}
use Rattle.block_device.specs.declared.device.DeviceError.{DeviceError}
use Rattle.block_device.specs.declared.device.DeviceError.TheVariants.{Failed}
use Rattle.block_device.specs.declared.fuse.FuseDevice.{FuseDevice}
use Rattle.block_device.specs.declared.fuse.FuseMode.{FuseMode}
use Rattle.block_device.specs.declared.fuse.FuseMode.TheVariants.{Once, Onward}
use Rattle.block_device.specs.Device.{one_more}

-- whether the next call fails, after so many calls: it is number `passes` + 1, or in mode Onward a later one
abbrev pub is_blown : FuseMode → ℕ → ℕ → Bool
is_blown Once passes calls = calls == passes
is_blown Onward passes calls = nat_le passes calls

-- the device below the fuse
abbrev pub inner_of : {D : Type 0} → FuseDevice D → D
inner_of f = f.inner

-- how many calls it lets pass first
abbrev pub passes_of : {D : Type 0} → FuseDevice D → ℕ
passes_of f = f.passes

-- what it does after the first that fails
abbrev pub mode_of : {D : Type 0} → FuseDevice D → FuseMode
mode_of f = f.mode

-- how many reads, writes and syncs there were, up to the greatest u64
abbrev pub calls_of : {D : Type 0} → FuseDevice D → ℕ
calls_of f = f.calls

-- how many of them it failed, up to the greatest u64
abbrev pub blown_of : {D : Type 0} → FuseDevice D → ℕ
blown_of f = f.blown

-- whether its next call fails
abbrev pub fails_next : {D : Type 0} → FuseDevice D → Bool
fails_next f = is_blown (mode_of f) (passes_of f) (calls_of f)

-- A call that the fuse fails answers Failed, and changes nothing below. Any other is the call `below`
-- of the device below. Each is counted.
pub record CallsBelow {D : Type 0} (old new : FuseDevice D) (result : Result (Unit {0}) DeviceError)
    (below : Type 0) : Type 0 where
  pub fails : fails_next old ≡ true → (result ≡ Err Failed) × (inner_of new ≡ inner_of old)
  pub passes : fails_next old ≡ false → below
  pub counted : calls_of new ≡ one_more (calls_of old)
  pub passes_stay : passes_of new ≡ passes_of old
  pub mode_stays : mode_of new ≡ mode_of old

-- the faults of the device below, and the calls that the fuse failed, up to the greatest u64
abbrev pub faults_with : ℕ → ℕ → ℕ
faults_with below blown = min (below + blown) (2 ^ 64 - 1)

pub faults_with-fits : (below blown : ℕ) → faults_with below blown < 2 ^ 64
faults_with-fits below blown = omega arith
