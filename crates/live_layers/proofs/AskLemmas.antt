-- The layer of a name, and faults of a question.
use Rattle.std.proofs.Common.{◌≡◌, ◌∙◌, ℕ, ◌+◌, List, true, false, refl, sym, ap, subst, arith}
use Rattle.std.proofs.Common.{inl, inr, ⊎_elim}
use Rattle.std.specs.Prelude.{◌==◌, ◌^◌, ◌-◌, is_some}
use Rattle.std.proofs.Math.Nat.{min-eq_left, min-eq_right}
use Rattle.std.proofs.lemmas.Bool.{cases_lt}
use Rattle.std.proofs.lemmas.Bool.Decides.{nat_tests}
use Rattle.std.specs.FinMap.{contains_key, get-entries}
use Rattle.block_device.specs.Device.{HasRisen, one_more}
use Rattle.page_file.specs.Fault.{IsOfDevice, faults_after}
use Rattle.page_file.specs.declared.fault.Fault.{Fault}
use Rattle.page_file.specs.declared.fault.Fault.TheVariants as fault
use Rattle.plain_table.specs.Table.{Table, no_layer}
use Rattle.store_law.specs.Lawful.{IsFault}
use Rattle.live_layers.specs.Keeping.{Belongs, Finds}
use Rattle.live_layers.specs.Faults.{as_refusal, faults_after_refusal}

-- ---- numbers

pub tested_same : (a b v : ℕ) → b ≡ v → v ≡ a → (a == b) ≡ true
tested_same a b v e f = grind (arith, nat_tests)

pub tested_other : (a b v : ℕ) → b ≡ v → ¬ (v ≡ a) → (a == b) ≡ false
tested_other a b v e ne = grind (arith, nat_tests)

-- ---- faults

pub one_more_risen : (old new : ℕ) → new ≡ one_more old → HasRisen old new
one_more_risen old new e = ⊎_elim
    (λ less. inl (let more = e ∙ min-eq_left (omega (arith, less)) in omega (arith, more)))
    (λ full. inr (let greatest = e ∙ min-eq_right full in omega (arith, greatest)))
    (cases_lt (old + 1) (2 ^ 64 - 1))

-- the device's count rose where it was the cause
pub risen_of : (before now : ℕ) (f : Fault) → now ≡ faults_after f before → f ≡ fault.Device
    → HasRisen before now
risen_of before now f e is = one_more_risen before now (e ∙ ap (λ (x : Fault). faults_after x before) is)

pub device_refuses : (rose : Type 0) (f : Fault) → IsOfDevice f → (f ≡ fault.Device → rose)
    → IsFault rose (as_refusal f)
device_refuses rose f (inl e) risen = subst (λ (x : Fault). IsFault rose (as_refusal x)) (sym e) tt
device_refuses rose f (inr e) risen = subst (λ (x : Fault). IsFault rose (as_refusal x)) (sym e) (risen e)

-- a fault and its refusal count the same
pub same_count : (f : Fault) (before : ℕ) → faults_after_refusal (as_refusal f) before ≡ faults_after f before
same_count fault.Memory before = refl
same_count fault.Device before = refl
same_count (fault.Damaged page) before = refl
same_count fault.NotClosed before = refl
same_count fault.NotAStore before = refl
same_count fault.WrongVersion before = refl
same_count fault.NoPages before = refl

-- ---- the layer of a name

pub not_there : (t : Table) (name : List ℕ) (place : ℕ) → Belongs t name place → contains_key t name ≡ false
not_there t name place belongs = ap is_some (get-entries t name ∙ belongs.absent)

pub named_there : (t : Table) (name : List ℕ) (place : ℕ) → Finds t name place → contains_key t name ≡ true
named_there t name place finds = ap is_some (get-entries t name ∙ finds.stands.found (name, no_layer))
