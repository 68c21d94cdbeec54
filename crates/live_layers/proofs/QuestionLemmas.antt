-- What questions keep of layers, by what they ask of the cache.
use Rattle.std.proofs.Common.{◌≡◌, ◌⊎◌, ◌∙◌, ℕ, Bool, true, false, cond, Option, None, Some, refl, sym, ap}
use Rattle.std.proofs.Common.{arith, inl, inr}
use Rattle.std.proofs.lemmas.Bool.Decides.{nat_tests}
use Rattle.std.specs.Prelude.{Result, Ok, Err, IfErr}
use Rattle.block_device.specs.Device.{one_more}
use Rattle.catalog_page.specs.Layout.{records_of}
use Rattle.page_cache.specs.Cache.{device_of}
use Rattle.page_cache.specs.Calls.{AsksUntil, no_call_asks}
use Rattle.page_file.specs.Fault.{IsDamage, IsOfDevice, faults_after}
use Rattle.page_file.specs.declared.fault.Fault.{Fault}
use Rattle.page_file.specs.declared.fault.Fault.TheVariants as fault
use Rattle.plain_table.specs.declared.refusal.Refusal.{Refusal}
use Rattle.plain_table.specs.declared.refusal.Refusal.TheVariants as refusal
use Rattle.store_law.specs.Lawful.{blames_device}
use Rattle.store_law.specs.Stops.{is_end}
use Rattle.live_layers.specs.Changes.{KeepsInQuestion}
use Rattle.live_layers.specs.Faults.{HasRefusalCause, as_refusal, faults_after_refusal, is_plain}
use Rattle.live_layers.specs.Faults.{may_refuse}
use Rattle.live_layers.specs.declared.layers.Layers.{Layers}
use Rattle.live_layers.proofs.AskLemmas.{same_count}
use Rattle.live_layers.proofs.KeepLemmas.{sound_kept}

-- ---- the count of the device's faults

quiet_cause : {T : Type 0} (before now : ℕ) (r : Refusal) → blames_device r ≡ false → now ≡ before
    → HasRefusalCause {T = T} before now (Err r)
quiet_cause before now r quiet same =
    record {
      ok = tt;
      refused = same ∙ sym (ap (λ (blames : Bool). cond blames (one_more before) before) quiet);
    }

failed_cause : {T : Type 0} (before now : ℕ) (f : Fault) (r : Refusal) → r ≡ as_refusal f
    → now ≡ faults_after f before → HasRefusalCause {T = T} before now (Err r)
failed_cause before now f r is counted =
    record {
      ok = tt;
      refused = counted ∙ sym (same_count f before)
          ∙ ap (λ (why : Refusal). faults_after_refusal why before) (sym is);
    }

-- ---- plain refusals

-- one blames no device
pub plain_is_quiet : (r : Refusal) → is_plain r ≡ true → blames_device r ≡ false
plain_is_quiet refusal.Device e = cc
plain_is_quiet (refusal.StoreFailed cause) e = let no : false ≡ true = e in cc
plain_is_quiet r e = refl

-- and is none of a store that failed
pub plain_goes_on : (r : Refusal) → is_plain r ≡ true → is_end r ≡ false
plain_goes_on (refusal.StoreFailed cause) e = cc
plain_goes_on r e = refl

-- it may refuse a question
pub plain_may : (r : Refusal) → is_plain r ≡ true → may_refuse r ≡ true
plain_may r plain = grind (arith, nat_tests)

-- and so may a fault that reading pages meets
pub fault_may : (f : Fault) → IsOfDevice f ⊎ IsDamage f → may_refuse (as_refusal f) ≡ true
fault_may f (inl (inl memory)) = ap (λ (e : Fault). may_refuse (as_refusal e)) memory
fault_may f (inl (inr failed)) = ap (λ (e : Fault). may_refuse (as_refusal e)) failed
fault_may f (inr damaged) = ap (λ (e : Fault). may_refuse (as_refusal e)) damaged.1

-- nor is a fault of a file
pub fault_goes_on : (f : Fault) → is_end (as_refusal f) ≡ false
fault_goes_on fault.Memory = refl
fault_goes_on fault.Device = refl
fault_goes_on (fault.Damaged page) = refl
fault_goes_on fault.NotClosed = refl
fault_goes_on fault.NotAStore = refl
fault_goes_on fault.WrongVersion = refl
fault_goes_on fault.NoPages = refl

-- ---- calls

-- the same layers, but for their cache
abbrev pub IsSameBut : {D A : Type 0} {m : _} → Layers D A m → Layers D A m → Type 0
IsSameBut old new = (new.records ≡ old.records) × (new.object_count ≡ old.object_count)
    × (new.written ≡ old.written) × (new.newest ≡ old.newest)

module _ {D A : Type 0} {m : _} {T : Type 0} where
  -- a question that ended so, of the cache alone
  asks_so : (old new : Layers D A m) (end : Option Fault) (result : Result T Refusal) → IsSameBut old new
      → AsksUntil old.cache new.cache end
      → IfErr result (λ r. is_end r ≡ false) → IfErr result (λ r. may_refuse r ≡ true)
      → HasRefusalCause (m.faults (device_of old.cache)) (m.faults (device_of new.cache)) result
      → KeepsInQuestion old new result
  asks_so old new end result same asks goes_on met cause = record {
    trees = record {
      map = asks.map;
      records = ap records_of same.0;
      written = λ was. same.2 ∙ was;
      newest = same.3;
    };
    sound = λ t sound. sound_kept old new t asks.map same.0 same.1 (λ is. sym same.2 ∙ is) sound;
    gate = asks.gate;
    goes_on = goes_on;
    met = met;
    cause = cause;
  }

  -- it was answered, refused, or failed
  pub asks_and_answers : (old new : Layers D A m) {x : T} → IsSameBut old new
      → AsksUntil old.cache new.cache None → KeepsInQuestion old new (Ok x)
  asks_and_answers old new same asks =
      asks_so old new None _ same asks tt tt (record { ok = asks.faults; refused = tt })

  pub asks_and_refuses : (old new : Layers D A m) {r : Refusal} → is_plain r ≡ true → IsSameBut old new
      → AsksUntil old.cache new.cache None → KeepsInQuestion {T = T} old new (Err r)
  asks_and_refuses old new {r} plain same asks =
      asks_so old new None (Err r) same asks (plain_goes_on r plain) (plain_may r plain)
      (quiet_cause _ _ r (plain_is_quiet r plain) asks.faults)

  pub asks_and_fails : (old new : Layers D A m) (f : Fault) {r : Refusal} → r ≡ as_refusal f
      → IsSameBut old new → AsksUntil old.cache new.cache (Some f) → IsOfDevice f ⊎ IsDamage f
      → KeepsInQuestion {T = T} old new (Err r)
  asks_and_fails old new f {r} is same asks met =
      asks_so old new (Some f) (Err r) same asks (ap is_end is ∙ fault_goes_on f)
      (ap may_refuse is ∙ fault_may f met)
      (failed_cause _ _ f r is asks.faults)

-- nothing was asked
module _ {D A : Type 0} {m : _} (kept : Layers D A m) where
  pub none_asked : KeepsInQuestion {T = Unit {0}} kept kept (Ok tt)
  none_asked = asks_and_answers kept kept (refl, refl, refl, refl) (no_call_asks kept.cache)

  pub refuses_unasked : (r : Refusal) → is_plain r ≡ true → KeepsInQuestion {T = Unit {0}} kept kept (Err r)
  refuses_unasked r plain =
      asks_and_refuses kept kept plain (refl, refl, refl, refl) (no_call_asks kept.cache)
