-- What faults there are, what comes from the device below, and what a fault needs for its cause (our
-- rule, docs/FORMAT.md, "Faults").
use Rattle.std.specs.Prelude.{◌≡◌, ◌⊎◌, ℕ, Result, OnOk, IfErr}
use Rattle.block_device.specs.Device.{one_more}
use Rattle.block_device.specs.declared.device.DeviceError.{DeviceError}
use Rattle.block_device.specs.declared.device.DeviceError.TheVariants.{Failed, Memory}
use Rattle.page_file.specs.declared.fault.Fault.{Fault}
use Rattle.page_file.specs.declared.fault.Fault.TheVariants as fault

-- a fault's number in the one numbering of all refusals
abbrev pub number_of : Fault → ℕ
number_of fault.Memory = 16
number_of fault.Device = 17
number_of (fault.Damaged page) = 18
number_of fault.NotClosed = 20
number_of fault.NotAStore = 21
number_of fault.WrongVersion = 22
number_of fault.NoPages = 25

-- what an error of the device is here
abbrev pub fault_of : DeviceError → Fault
fault_of Failed = fault.Device
fault_of Memory = fault.Memory

-- want of memory, or a device that failed
abbrev pub IsOfDevice : Fault → Type 0
IsOfDevice f = (f ≡ fault.Memory) ⊎ (f ≡ fault.Device)

-- some page is damaged
abbrev pub IsDamage : Fault → Type 0
IsDamage f = (page : ℕ) × (f ≡ fault.Damaged page)

-- how often the device has failed after a fault: once more with `Device`, and no more with another
abbrev pub faults_after : Fault → ℕ → ℕ
faults_after fault.Device before = one_more before
faults_after f before = before

-- the count of the device's faults rises by one with `Device`, and with nothing else
pub record HasCause {T : Type 0} (before now : ℕ) (result : Result T Fault) : Type 0 where
  pub ok : OnOk result (now ≡ before)
  pub refused : IfErr result (λ f. now ≡ faults_after f before)
