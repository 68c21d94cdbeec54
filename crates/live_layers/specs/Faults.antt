-- What a change that broke off leaves, and the refusals that faults of a file are.
use Rattle.std.specs.Prelude.{ℕ, ◌≡◌, ◌⊎◌, Bool, true, nat_le, if◌then◌else◌, Result, Ok, Err, OnOk, IfErr}
use Rattle.block_device.specs.Device.{one_more}
use Rattle.live_layers.specs.declared.broken.Broken.{Broken}
use Rattle.node_page.specs.Faults.{IsChangeFault}
use Rattle.page_cache.specs.Cache.{IsFull}
use Rattle.page_cache.specs.declared.cache.PageCache.{PageCache}
use Rattle.page_file.specs.Fault.{faults_after}
use Rattle.page_file.specs.declared.fault.Fault.{Fault}
use Rattle.page_file.specs.declared.fault.Fault.TheVariants as fault
use Rattle.plain_table.specs.Refusals.{refusal_number}
use Rattle.plain_table.specs.declared.refusal.Refusal.{Refusal}
use Rattle.plain_table.specs.declared.refusal.Refusal.TheVariants as refusal
use Rattle.store_law.specs.Lawful.{blames_device}
use Rattle.live_layers.specs.declared.unmade.Unmade.{Unmade}
use Rattle.live_layers.specs.declared.unmade.Unmade.TheVariants as unmade

-- the refusal of the same name
abbrev pub as_refusal : Fault → Refusal
as_refusal fault.Memory = refusal.Memory
as_refusal fault.Device = refusal.Device
as_refusal (fault.Damaged page) = refusal.Damaged page
as_refusal fault.NotClosed = refusal.NotClosed
as_refusal fault.NotAStore = refusal.NotAStore
as_refusal fault.WrongVersion = refusal.WrongVersion
as_refusal fault.NoPages = refusal.NoPages

-- why a change that broke off was not made
abbrev pub unmade_by : Broken → Unmade
unmade_by b = if b.touched then unmade.Broken b.cause else unmade.Refused (as_refusal b.cause)

-- a change of pages as one of the layers
abbrev pub change_of : Result (Unit {0}) Broken → Result (Unit {0}) Unmade
change_of (Ok u) = Ok u
change_of (Err b) = Err (unmade_by b)

-- the refusal is one of the table's own, or want of memory: so it says neither that the device failed, nor that
-- the store did
abbrev pub is_plain : Refusal → Bool
is_plain r = nat_le (refusal_number r) 16

-- what may refuse a question in any layers, sound or not: one of the table's own refusals, want of memory, a
-- device that failed, or a damaged page
abbrev pub may_refuse : Refusal → Bool
may_refuse r = nat_le (refusal_number r) 18

-- Why a change of any layers was not made, where this is the cache that it left: by what may refuse a question
-- too, or by want of a page number, which comes only where each is live; and one that broke off did so by such a
-- fault.
abbrev pub IsMet : {D A : Type 0} {m : _} → PageCache D A m → Unmade → Type 0
IsMet cache (unmade.Refused r) = (may_refuse r ≡ true) ⊎ ((r ≡ refusal.NoPages) × IsFull cache)
IsMet cache (unmade.Broken f) = IsChangeFault cache f

-- how often the device has failed after a refusal: once more with one that says so, and no more with another
abbrev pub faults_after_refusal : Refusal → ℕ → ℕ
faults_after_refusal r before = if blames_device r then one_more before else before

-- the count of the device's faults rises by one with a refusal that says so, and with nothing else
pub record HasRefusalCause {T : Type 0} (before now : ℕ) (result : Result T Refusal) : Type 0 where
  pub ok : OnOk result (now ≡ before)
  pub refused : IfErr result (λ r. now ≡ faults_after_refusal r before)

-- how often it has failed after a change that was not made
abbrev pub faults_after_unmade : Unmade → ℕ → ℕ
faults_after_unmade (unmade.Refused r) before = faults_after_refusal r before
faults_after_unmade (unmade.Broken f) before = faults_after f before

-- the count of the device's faults rises by one where its failure ended a change, and else not
pub record HasUnmadeCause (before now : ℕ) (result : Result (Unit {0}) Unmade) : Type 0 where
  pub made : OnOk result (now ≡ before)
  pub unmade : IfErr result (λ u. now ≡ faults_after_unmade u before)
