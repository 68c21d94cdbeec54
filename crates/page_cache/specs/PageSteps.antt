-- What each call does that changes, gives out or frees a page, also where it is refused: `old` is the cache
-- before, `new` the one after, and `result` the call's answer.
use Rattle.std.specs.Prelude.{◌≡◌, ◌⊎◌, ◌≤◌, ◌<◌, ◌+◌, ◌^◌, ◌||◌, ℕ, List, None, Some, Result, Err, false, true}
use Rattle.std.specs.Prelude.{IfErr, IfOk, IsErrOf, IsOk, OnErr, OnOk, is_ok}
use Rattle.block_bytes.specs.Numbers.{zeros}
use Rattle.page_file.specs.Fault.{IsDamage, IsOfDevice}
use Rattle.page_file.specs.Pages.{SameBut, TakesFirst}
use Rattle.page_file.specs.declared.fault.Fault.{Fault}
use Rattle.page_file.specs.declared.fault.Fault.TheVariants as fault
use Rattle.page_file.specs.declared.gate.Gate.TheVariants.{Open}
use Rattle.page_cache.specs.Cache.{Grows, IsBroken, IsFull, IsHeld, IsHonest, IsLive, IsPageMap, IsUnchanged}
use Rattle.page_cache.specs.Cache.{KeepsMap, device_of, free_count_of, free_of, gate_of, given, looks_of}
use Rattle.page_cache.specs.Cache.{next_of, pages, touched_of}
use Rattle.page_cache.specs.Calls.{Changes}
use Rattle.page_cache.specs.Uses.{Uses}
use Rattle.page_cache.specs.declared.cache.PageCache.{PageCache}

-- Page n was changed in memory alone: it is held then, and used as the last one. None is given out or freed,
-- no look is counted, and all that was given out stays but for the page.
pub record ChangesInMemory {D A : Type 0} {m : _} {T : Type 0} (n : ℕ) (old new : PageCache D A m)
    (result : Result T Fault) : Type 0 where
  pub given_others : IsHonest old → SameBut n (given old) (given new)
  pub refused : OnErr result (KeepsMap old new)
  pub grows : Grows 0 old new
  pub looks : looks_of new ≡ looks_of old
  pub holds : OnOk result (IsHeld new n)
  pub uses : Uses old new n result
  pub touched : touched_of new ≡ (touched_of old || is_ok result)

-- Page n was changed where it lies in memory. `did` says what may be answered, and which bytes left, of the
-- bytes that were there.
pub record Edits {D A : Type 0} {m : _} {T : Type 0} (n : ℕ) (did : List ℕ → T → List ℕ → Type 0)
    (old new : PageCache D A m) (result : Result T Fault) : Type 0 where
  pub changes : Changes old new result
  pub answered : IfOk result (λ answer. (page after : List ℕ) × did page answer after)
  -- those that were there are those of the page
  pub edited : IsHonest old → (page : List ℕ) → given old n ≡ Some page
      → IfOk result (λ answer. (after : List ℕ) × (given new n ≡ Some after)
      × (IsLive old n → pages new n ≡ Some after) × did page answer after)
  pub live : IsHonest old → IsLive old n → IsLive new n
  pub others : IsHonest old → IsLive old n → SameBut n (pages old) (pages new)
  pub sound : IsPageMap old → IsLive old n → IsPageMap new
  pub next : next_of new ≡ next_of old
  pub in_memory : ChangesInMemory n old new result
  pub opens : OnOk result (gate_of new ≡ Open)
  -- a page that is held is not refused where the gate is open
  pub held : gate_of old ≡ Open → IsHeld old n → IsOk result
  -- a number of no page given out is named as damaged, without a call of the device
  pub outside : (n < 2) ⊎ (next_of old ≤ n)
      → IsErrOf result (fault.Damaged n) × (device_of new ≡ device_of old)
  pub faults : IsHonest old → 2 ≤ n → n < next_of old → IfErr result IsOfDevice
  pub other_faults : IfErr result (λ f. IsOfDevice f ⊎ IsDamage f)

-- Page n was filled in memory. `did` says which bytes may be left of others, which may be any.
pub record Refills {D A : Type 0} {m : _} {T : Type 0} (n : ℕ) (did : List ℕ → List ℕ → Type 0)
    (old new : PageCache D A m) (result : Result T Fault) : Type 0 where
  pub changes : Changes old new result
  pub filled : IsHonest old
      → OnOk result ((before after : List ℕ) × (given new n ≡ Some after)
      × (IsLive old n → pages new n ≡ Some after) × did before after)
  pub live : IsHonest old → IsLive old n → IsLive new n
  pub others : IsHonest old → IsLive old n → SameBut n (pages old) (pages new)
  pub sound : IsPageMap old → IsLive old n → IsPageMap new
  pub next : next_of new ≡ next_of old
  pub in_memory : ChangesInMemory n old new result
  pub opens : OnOk result (gate_of new ≡ Open)
  -- a page that is held is not refused where the gate is open
  pub held : gate_of old ≡ Open → IsHeld old n → IsOk result
  -- a number of no page given out is named as damaged, without a call of the device
  pub outside : (n < 2) ⊎ (next_of old ≤ n) → (result ≡ Err (fault.Damaged n)) × IsUnchanged old new
  pub faults : IsHonest old → 2 ≤ n → n < next_of old → IfErr result IsOfDevice
  pub other_faults : IfErr result (λ f. IsOfDevice f ⊎ IsDamage f)

-- Page n was given these bytes in memory.
pub record Puts {D A : Type 0} {m : _} {T : Type 0} (n : ℕ) (bytes : List ℕ) (old new : PageCache D A m)
    (result : Result T Fault) : Type 0 where
  pub changes : Changes old new result
  pub written : IsHonest old → IsLive old n → OnOk result (pages new n ≡ Some bytes)
  pub live : IsHonest old → IsLive old n → IsLive new n
  pub others : IsHonest old → IsLive old n → SameBut n (pages old) (pages new)
  pub given : IsHonest old → OnOk result (given new n ≡ Some bytes)
  pub sound : IsPageMap old → IsLive old n → IsPageMap new
  pub next : next_of new ≡ next_of old
  pub in_memory : ChangesInMemory n old new result
  pub opens : OnOk result (gate_of new ≡ Open)
  -- a page that is held is not refused where the gate is open
  pub held : gate_of old ≡ Open → IsHeld old n → IsOk result
  -- a number of no page given out is named as damaged, without a call of the device
  pub outside : (n < 2) ⊎ (next_of old ≤ n) → (result ≡ Err (fault.Damaged n)) × IsUnchanged old new
  pub faults : IsHonest old → 2 ≤ n → n < next_of old → IfErr result IsOfDevice
  pub other_faults : IfErr result (λ f. IsOfDevice f ⊎ IsDamage f)

-- A page of zeros was given out, whose number is the answer.
pub record Allocates {D A : Type 0} {m : _} (old new : PageCache D A m) (result : Result ℕ Fault)
    : Type 0 where
  pub changes : Changes old new result
  pub fresh : IsPageMap old
      → IfOk result (λ n. (pages old n ≡ None) × (pages new n ≡ Some zeros)
      × SameBut n (pages old) (pages new))
  -- it is the first free one where there is one, and else one of a new number
  pub taken : IsPageMap old
      → IfOk result (λ n. TakesFirst n (free_of old) (next_of old) (free_of new) (next_of new))
  pub given_others : IsHonest old → IfOk result (λ n. SameBut n (given old) (given new))
  -- after a refusal one page that was not live may hold anything
  pub given_refused : IsHonest old → OnErr result ((n : ℕ) × SameBut n (given old) (given new))
  pub refused : IsPageMap old
      → OnErr result ((n : ℕ) × (pages old n ≡ None) × SameBut n (pages old) (pages new))
  -- and where as many are free, none does
  pub kept : OnErr result (free_count_of new ≡ free_count_of old
      → KeepsMap old new × (touched_of new ≡ touched_of old))
  pub touched : OnOk result (touched_of new ≡ true)
  pub opens : OnOk result (gate_of new ≡ Open)
  pub holds : (n : ℕ) × ((k : ℕ) → ¬ (k ≡ n) → IsHeld old k → IsHeld new k)
  pub sound : IsPageMap old → IsPageMap new
  pub number : IfOk result (λ n. (3 ≤ n) × (n < next_of new))
  pub next : (next_of old ≤ next_of new) × (next_of new ≤ next_of old + 1)
  pub looks : looks_of new ≡ looks_of old
  pub grows : Grows 1 old new
  -- the numbers run out only where each is live
  pub full : IsErrOf result fault.NoPages → IsFull new
  pub all_live : IsErrOf result fault.NoPages → (n : ℕ) → 2 ≤ n → n < 2 ^ 31 → IsLive old n
  pub faults : IsPageMap old → IfErr result (λ f. IsOfDevice f ⊎ (f ≡ fault.NoPages))
  -- what is named as damaged is the first free page, which is none
  pub damaged : IsHonest old
      → IfErr result (λ f. IsOfDevice f ⊎ ((f ≡ fault.NoPages) ⊎ IsBroken old new f))
  pub other_faults : IfErr result (λ f. IsOfDevice f ⊎ ((f ≡ fault.NoPages) ⊎ IsDamage f))

-- Page n was freed.
pub record Frees {D A : Type 0} {m : _} {T : Type 0} (n : ℕ) (old new : PageCache D A m)
    (result : Result T Fault) : Type 0 where
  pub changes : Changes old new result
  pub freed : IsHonest old → IsLive old n → OnOk result (pages new n ≡ None)
  pub others : IsHonest old → IsLive old n → SameBut n (pages old) (pages new)
  pub given_others : IsHonest old → SameBut n (given old) (given new)
  pub sound : IsPageMap old → IsLive old n → IsPageMap new
  pub next : next_of new ≡ next_of old
  pub grows : Grows 0 old new
  pub looks : looks_of new ≡ looks_of old
  pub holds : (k : ℕ) → ¬ (k ≡ n) → IsHeld old k → IsHeld new k
  pub touched : OnOk result (touched_of new ≡ true)
  pub opens : OnOk result (gate_of new ≡ Open)
  -- a refusal that touches no page came when the gate was opened
  pub untouched : 3 ≤ n → n < next_of old → touched_of new ≡ false → IfErr result IsOfDevice
  -- the catalog, and a number of no page given out, is named as damaged, without a call of the device
  pub outside : (n < 3) ⊎ (next_of old ≤ n)
      → (result ≡ Err (fault.Damaged n)) × IsUnchanged old new × (touched_of new ≡ touched_of old)
  pub faults : IsPageMap old → IsLive old n → ¬ (n ≡ 2) → IfErr result IsOfDevice
  pub other_faults : IfErr result (λ f. IsOfDevice f ⊎ IsDamage f)
