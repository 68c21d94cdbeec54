-- What each call keeps of the cache that it works on: one word for calls that ask, and one for calls that
-- change.
use Rattle.std.proofs.Common.{◌≡◌, ◌∙◌, ℕ, ◌≤◌, Bool, true, false, Option, None, Some, ap, refl, subst, sym}
use Rattle.std.proofs.Common.{arith}
use Rattle.std.specs.Prelude.{◌⊎◌, ◌↔◌, ◌<◌, Result, Ok, Err, IsErrAnd, IsErrOf, OnErr, OnOk}
use Rattle.block_device.specs.Device.{one_more}
use Rattle.page_file.specs.Fault.{HasCause, faults_after}
use Rattle.page_file.specs.declared.fault.Fault.{Fault}
use Rattle.page_file.specs.declared.fault.Fault.TheVariants as fault
use Rattle.page_file.specs.declared.gate.Gate.TheVariants.{Open}
use Rattle.page_cache.specs.Cache.{IsHeld, IsHonest, KeepsGate, KeepsMap, capacity_of, device_of, gate_of}
use Rattle.page_cache.specs.Cache.{held_pages, looks_of, next_of, touched_of, version_of}
use Rattle.page_cache.specs.Uses.{IsRefusedUse, Uses, used}
use Rattle.page_cache.specs.Laws.{no_call_keeps_the_gate, no_call_keeps_the_map, the_gate_is_kept_in_turn}
use Rattle.page_cache.specs.Laws.{the_map_is_kept_in_turn}
use Rattle.page_cache.specs.declared.cache.PageCache.{PageCache}

-- the fault that ended a call, None where it succeeded
abbrev pub fault_in : {T : Type 0} → Result T Fault → Option Fault
fault_in (Ok _) = None
fault_in (Err f) = Some f

-- how often the device has failed once a call has ended so
abbrev pub faults_behind : Option Fault → ℕ → ℕ
faults_behind None before = before
faults_behind (Some f) before = faults_after f before

-- Pages were asked for, and it ended so: gate and moment, map and capacity stay, and so does honesty; no look
-- is taken back, and no page touched; and the count of the device's faults rises by one where it ended with
-- `Device`, and else not.
pub record AsksUntil {D A : Type 0} {m : _} (old new : PageCache D A m) (end : Option Fault) : Type 0 where
  pub gate : KeepsGate old new
  pub map : KeepsMap old new
  pub capacity : capacity_of new ≡ capacity_of old
  pub looks : looks_of old ≤ looks_of new
  pub touched : touched_of new ≡ touched_of old
  pub faults : m.faults (device_of new) ≡ faults_behind end (m.faults (device_of old))

-- Pages were changed, given out or freed, and it ended so: an open gate and its moment stay, version, capacity
-- and honesty, no look and no page number is taken back, and the faults are counted as above. What was touched
-- stays so, and where no page is touched, the map stays. A gate that is not open is opened before the first page
-- is changed, or unsure where that is refused.
pub record ChangesUntil {D A : Type 0} {m : _} (old new : PageCache D A m) (end : Option Fault)
    : Type 0 where
  pub gate : gate_of old ≡ Open → KeepsGate old new
  pub honest : IsHonest old ↔ IsHonest new
  pub version : IsHonest old → version_of new ≡ version_of old
  pub next : next_of old ≤ next_of new
  pub capacity : capacity_of new ≡ capacity_of old
  pub looks : looks_of old ≤ looks_of new
  pub touched : touched_of old ≡ true → touched_of new ≡ true
  pub untouched : touched_of new ≡ false → KeepsMap old new
  pub faults : m.faults (device_of new) ≡ faults_behind end (m.faults (device_of old))

-- a call with this answer
abbrev pub Asks : {D A : Type 0} {m : _} {T : Type 0} → PageCache D A m → PageCache D A m → Result T Fault
    → Type 0
Asks old new result = AsksUntil old new (fault_in result)

abbrev pub Changes : {D A : Type 0} {m : _} {T : Type 0} → PageCache D A m → PageCache D A m → Result T Fault
    → Type 0
Changes old new result = ChangesUntil old new (fault_in result)

-- A change was refused with that fault before a page was touched: the map stays.
pub record RefusesChange {D A : Type 0} {m : _} (old new : PageCache D A m) (f : Fault) : Type 0 where
  pub changes : ChangesUntil old new (Some f)
  pub map : KeepsMap old new
  pub touched : touched_of new ≡ touched_of old

-- the count of looks is one more where a page was lent, up to the greatest u64, and the same after a refusal
abbrev pub looks_after : {T : Type 0} → Result T Fault → ℕ → ℕ
looks_after (Ok _) before = one_more before
looks_after (Err _) before = before

-- Page n was asked for, and lent or refused: the look is counted where it is lent, which is then held, and
-- the one used last. A page that was held, and a number of no page given out, need no call of the device.
pub record IsLookedAt {D A : Type 0} {m : _} {T : Type 0} (old new : PageCache D A m) (n : ℕ)
    (result : Result T Fault) : Type 0 where
  pub asks : Asks old new result
  pub looks : looks_of new ≡ looks_after result (looks_of old)
  pub holds : OnOk result (IsHeld new n)
  pub uses : Uses old new n result
  pub held : IsHeld old n → device_of new ≡ device_of old
  pub outside : (n < 2) ⊎ (next_of old ≤ n) → device_of new ≡ device_of old

-- What a page spells was read at page n, which is held then, as the one used last, or refused, in one look, or at
-- most one where it is refused. A page that was brought in and then refused is `Damaged` in one look, and used like
-- any other. A number of no page given out needs no call of the device.
pub record IsReadAt {D A : Type 0} {m : _} {T : Type 0} (old new : PageCache D A m) (n : ℕ)
    (result : Result T Fault) : Type 0 where
  pub asks : Asks old new result
  pub looks : OnOk result (looks_of new ≡ one_more (looks_of old))
  pub refused_looks : OnErr result ((looks_of new ≡ looks_of old) ⊎ (looks_of new ≡ one_more (looks_of old)))
  pub holds : OnOk result (IsHeld new n)
  pub used : OnOk result (held_pages new ≡ used (capacity_of old) n (held_pages old))
  pub refused_used : OnErr result (IsRefusedUse (capacity_of old) n (held_pages old) (held_pages new))
  pub damaged : IsHonest old → 2 ≤ n → n < next_of old → IsErrOf result (fault.Damaged n)
      → looks_of new ≡ one_more (looks_of old)
  pub quiet : (n < 2) ⊎ (next_of old ≤ n) → device_of new ≡ device_of old

-- a call that hands on a fault ends as the one that answered it
pub ends_so : {T : Type 0} (result : Result T Fault) (f : Fault) → IsErrAnd result (λ e. e ≡ f)
    → fault_in result ≡ Some f
ends_so (Ok x) f is = elim is [ ]
ends_so (Err e) f is = ap Some is

-- the count of faults by the answer, and by how it ended
pub counted_by_end : {T : Type 0} (before now : ℕ) (result : Result T Fault) → HasCause before now result
    → now ≡ faults_behind (fault_in result) before
counted_by_end before now (Ok x) cause = cause.ok
counted_by_end before now (Err f) cause = cause.refused

pub has_cause : {T : Type 0} (before now : ℕ) (result : Result T Fault)
    → now ≡ faults_behind (fault_in result) before → HasCause before now result
has_cause before now (Ok x) is = record { ok = is; refused = tt }
has_cause before now (Err f) is = record { ok = tt; refused = is }

-- where none is touched now, none was
none_before : (before now : Bool) → (before ≡ true → now ≡ true) → now ≡ false → before ≡ false
none_before false now stays none = refl
none_before true now stays none = absurd (let both = sym (stays refl) ∙ none in cc)

module _ {D A : Type 0} {m : _} where
  -- no call, and calls in turn, of which the first succeeds and the last ends in any way
  pub no_call_asks : (cache : PageCache D A m) → AsksUntil cache cache None
  no_call_asks cache = record {
    gate = no_call_keeps_the_gate cache;
    map = no_call_keeps_the_map cache;
    capacity = refl;
    looks = omega arith;
    touched = refl;
    faults = refl;
  }

  pub asks_in_turn : (old mid new : PageCache D A m) (end : Option Fault) → AsksUntil old mid None
      → AsksUntil mid new end → AsksUntil old new end
  asks_in_turn old mid new end a b = record {
    gate = the_gate_is_kept_in_turn old mid new a.gate b.gate;
    map = the_map_is_kept_in_turn old mid new a.gate.honest.0 a.map b.map;
    capacity = b.capacity ∙ a.capacity;
    looks = omega (arith, a.looks, b.looks);
    touched = b.touched ∙ a.touched;
    faults = b.faults ∙ ap (faults_behind end) a.faults;
  }

  -- what asks is a change of nothing
  pub asks_changes : (old new : PageCache D A m) (end : Option Fault) → AsksUntil old new end
      → ChangesUntil old new end
  asks_changes old new end a = record {
    gate = λ opened. a.gate;
    honest = a.gate.honest;
    version = a.gate.version;
    next = omega (arith, a.map.next);
    capacity = a.capacity;
    looks = a.looks;
    touched = λ was. a.touched ∙ was;
    untouched = λ none. a.map;
    faults = a.faults;
  }

  pub no_call_changes : (cache : PageCache D A m) → ChangesUntil cache cache None
  no_call_changes cache = asks_changes cache cache None (no_call_asks cache)

  pub changes_in_turn : (old mid new : PageCache D A m) (end : Option Fault) → ChangesUntil old mid None
      → ChangesUntil mid new end → ChangesUntil old new end
  changes_in_turn old mid new end a b = record {
    gate = λ opened. let first = a.gate opened in
        the_gate_is_kept_in_turn old mid new first (b.gate (first.gate ∙ opened));
    honest = (λ h. b.honest.0 (a.honest.0 h), λ h. a.honest.1 (b.honest.1 h));
    version = λ h. b.version (a.honest.0 h) ∙ a.version h;
    next = omega (arith, a.next, b.next);
    capacity = b.capacity ∙ a.capacity;
    looks = omega (arith, a.looks, b.looks);
    touched = λ was. b.touched (a.touched was);
    untouched = λ none. the_map_is_kept_in_turn old mid new a.honest.0
        (a.untouched (none_before (touched_of mid) (touched_of new) b.touched none)) (b.untouched none);
    faults = b.faults ∙ ap (faults_behind end) a.faults;
  }

  -- what was only asked for is refused as a change, also where a change was refused after it
  pub asks_refuse : (old new : PageCache D A m) (f : Fault) → AsksUntil old new (Some f)
      → RefusesChange old new f
  asks_refuse old new f a = record {
    changes = asks_changes old new (Some f) a;
    map = a.map;
    touched = a.touched;
  }

  pub refuses_after : (old mid new : PageCache D A m) (f : Fault) → AsksUntil old mid None
      → RefusesChange mid new f → RefusesChange old new f
  refuses_after old mid new f a b = record {
    changes = changes_in_turn old mid new (Some f) (asks_changes old mid None a) b.changes;
    map = the_map_is_kept_in_turn old mid new a.gate.honest.0 a.map b.map;
    touched = b.touched ∙ a.touched;
  }

  -- a call that succeeds, and then one whose fault is handed on
  pub asks_and_refuses : {T : Type 0} (old mid new : PageCache D A m) (f : Fault) (result : Result T Fault)
      → IsErrAnd result (λ e. e ≡ f) → AsksUntil old mid None → AsksUntil mid new (Some f)
      → Asks old new result
  asks_and_refuses old mid new f result is a b =
      subst (λ end. AsksUntil old new end) (sym (ends_so result f is)) (asks_in_turn old mid new (Some f) a b)

  pub changes_and_refuses : {T : Type 0} (old mid new : PageCache D A m) (f : Fault)
      (result : Result T Fault) → IsErrAnd result (λ e. e ≡ f) → ChangesUntil old mid None
      → ChangesUntil mid new (Some f) → Changes old new result
  changes_and_refuses old mid new f result is a b =
      subst (λ end. ChangesUntil old new end) (sym (ends_so result f is))
      (changes_in_turn old mid new (Some f) a b)

  -- calls that only asked, and then a change that is handed on, made or refused
  pub asks_and_changes : {T : Type 0} (old mid new : PageCache D A m) (result : Result T Fault)
      → AsksUntil old mid None → Changes mid new result → Changes old new result
  asks_and_changes old mid new result a b =
      changes_in_turn old mid new (fault_in result) (asks_changes old mid None a) b

  -- calls that only asked, of which the last is refused: nothing was changed
  pub asks_and_gives_up : {T : Type 0} (old mid new : PageCache D A m) (f : Fault) (result : Result T Fault)
      → IsErrAnd result (λ e. e ≡ f) → AsksUntil old mid None → AsksUntil mid new (Some f)
      → Changes old new result
  asks_and_gives_up old mid new f result is a b =
      asks_changes old new (fault_in result) (asks_and_refuses old mid new f result is a b)

-- what calls in turn are proved by
pub ruleset turns = (no_call_asks, asks_in_turn, asks_changes, changes_in_turn)

-- what changes in turn are proved by
pub ruleset changing = (
  asks_and_changes,
  asks_and_gives_up,
  asks_changes,
  changes_and_refuses,
  changes_in_turn,
)
