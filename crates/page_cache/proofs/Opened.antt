-- What a call does once it has opened the gate, said of the cache before that, and what one does where the gate is
-- refused.
use Rattle.std.proofs.Common.{◌≡◌, ◌∙◌, ◌⊎◌, ⊎_elim, inl, inr, ℕ, ◌≤◌, ◌<◌, ◌^◌, ◌||◌, List}
use Rattle.std.proofs.Common.{is_some, ap, arith, refl, subst, sym}
use Rattle.std.specs.Map.{keys_of}
use Rattle.std.specs.Prelude.{Result, Ok, Err, IsErrAnd, IsErrOf, IsSome, is_ok}
use Rattle.block_device.specs.Device.{block_at}
use Rattle.page_file.specs.Breaks.{some_free}
use Rattle.page_file.specs.Fault.{IsDamage, IsOfDevice}
use Rattle.page_file.specs.File as below
use Rattle.page_file.specs.Laws.{no_call_keeps_the_gate}
use Rattle.page_file.specs.Pages.{TakesFirst, free_page_link}
use Rattle.page_file.specs.declared.fault.Fault.{Fault}
use Rattle.page_file.specs.declared.fault.Fault.TheVariants as fault
use Rattle.page_file.specs.declared.file.PageFile.{PageFile}
use Rattle.page_file.specs.declared.header.Header.{Header}
use Rattle.page_cache.specs.Cache.{IsBroken, IsHeld, IsHonest, IsLive, KeepsMap, blocks_behind}
use Rattle.page_cache.specs.Cache.{device_of, free_of, looks_of, next_of, touched_of}
use Rattle.page_cache.specs.Calls.{Changes, ChangesUntil, changes_in_turn, counted_by_end, ends_so, fault_in}
use Rattle.page_cache.specs.Frames.{frame_at}
use Rattle.page_cache.specs.FrameSteps.{OpensGate}
use Rattle.page_cache.specs.Laws.{the_map_is_kept_in_turn}
use Rattle.page_cache.specs.PageSteps.{Allocates, ChangesInMemory, Edits, Frees, Refills}
use Rattle.page_cache.specs.declared.cache.PageCache.{PageCache}
use Rattle.page_cache.proofs.Results.{at_error, if_err_map, if_ok_map, no_answer, no_success, on_err_all}
use Rattle.page_cache.proofs.Results.{on_err_map, on_ok_map, untouched_by}
use Rattle.page_cache.proofs.Uses.{uses_after, uses_refused}

-- to open the gate is a change in which no page is touched
pub opening_changes : {D A : Type 0} {m : _} {T : Type 0} (old mid : PageCache D A m)
    (result : Result T Fault) → OpensGate old mid result → Changes old mid result
opening_changes {m = m} old mid result o = record {
  gate = λ was. subst (λ (f : PageFile _ _). below.KeepsGate old.file f) (sym (o.was_open was).0)
      (no_call_keeps_the_gate old.file);
  honest = o.honest;
  version = o.map.version;
  next = omega (arith, o.map.next);
  capacity = ap (λ l. l.cap) o.frames;
  looks = omega (arith, o.looks);
  touched = λ was. o.touched ∙ was;
  untouched = λ none. o.map;
  faults = counted_by_end (m.faults (device_of old)) (m.faults (device_of mid)) result o.cause;
}

-- ---- it was opened

module _ {D A : Type 0} {m : _} (old mid new : PageCache D A m) {X : Type 0} (x : X)
    (o : OpensGate old mid (Ok x)) {T : Type 0} (r : Result T Fault) where
  live_mid : IsHonest old → (n : ℕ) → IsLive old n → IsLive mid n
  live_mid h n live = ap is_some (o.map.pages_stay h n) ∙ live

  held_mid : (n : ℕ) → IsHeld old n → IsHeld mid n
  held_mid n held = subst (λ l. IsSome (frame_at l.entries n)) (sym o.frames) held

  pub opened_changes : Changes mid new r → Changes old new r
  opened_changes c = changes_in_turn old mid new (fault_in r) (opening_changes old mid (Ok x) o) c

  in_memory : (n : ℕ) → ChangesInMemory n mid new r → ChangesInMemory n old new r
  in_memory n i = record {
    given_others = λ h k ne. i.given_others (o.honest.0 h) k ne ∙ o.map.given_stay h k;
    refused = on_err_map r i.refused (λ map. the_map_is_kept_in_turn old mid new o.honest.0 o.map map);
    grows = omega (arith, i.grows, o.map.next, o.map.free_count);
    looks = i.looks ∙ o.looks;
    holds = i.holds;
    uses = uses_after old mid new n r (ap (λ l. keys_of l.entries) o.frames) (ap (λ l. l.cap) o.frames) i.uses;
    touched = i.touched ∙ ap (λ t. t || is_ok r) o.touched;
  }

  module _ (n : ℕ) (low : 2 ≤ n) (within : n < next_of old) where
    inside : {P : Type 0} → (n < 2) ⊎ (next_of old ≤ n) → P
    inside out = absurd (⊎_elim (λ (less : n < 2). omega (arith, less, low))
        (λ (more : next_of old ≤ n). omega (arith, more, within)) out)

    pub opened_edits : {did : List ℕ → T → List ℕ → Type 0} → Edits n did mid new r → Edits n did old new r
    opened_edits {did} e = record {
      changes = opened_changes e.changes;
      answered = e.answered;
      edited = λ h page there.
          if_ok_map r (e.edited (o.honest.0 h) page (o.map.given_stay h n ∙ there))
          (λ answer is. (is.0, is.1, λ live. is.2 (live_mid h n live), is.3));
      live = λ h live. e.live (o.honest.0 h) (live_mid h n live);
      others = λ h live k ne. e.others (o.honest.0 h) (live_mid h n live) k ne ∙ o.map.pages_stay h k;
      sound = λ was live. e.sound (o.map.sound.0 was) (live_mid was.honest n live);
      next = e.next ∙ o.map.next;
      in_memory = in_memory n e.in_memory;
      opens = e.opens;
      held = λ was held. e.held o.opened (held_mid n held);
      outside = λ out. inside out;
      faults = λ h _ _. e.faults (o.honest.0 h) low (omega (arith, within, o.map.next));
      other_faults = e.other_faults;
    }

    pub opened_refills : {did : List ℕ → List ℕ → Type 0} → Refills n did mid new r → Refills n did old new r
    opened_refills e = record {
      changes = opened_changes e.changes;
      filled = λ h. on_ok_map r (e.filled (o.honest.0 h))
          (λ is. (is.0, is.1, is.2, λ live. is.3 (live_mid h n live), is.4));
      live = λ h live. e.live (o.honest.0 h) (live_mid h n live);
      others = λ h live k ne. e.others (o.honest.0 h) (live_mid h n live) k ne ∙ o.map.pages_stay h k;
      sound = λ was live. e.sound (o.map.sound.0 was) (live_mid was.honest n live);
      next = e.next ∙ o.map.next;
      in_memory = in_memory n e.in_memory;
      opens = e.opens;
      held = λ was held. e.held o.opened (held_mid n held);
      outside = λ out. inside out;
      faults = λ h _ _. e.faults (o.honest.0 h) low (omega (arith, within, o.map.next));
      other_faults = e.other_faults;
    }

    pub opened_frees : 3 ≤ n → Frees n mid new r → Frees n old new r
    opened_frees three f = record {
      changes = opened_changes f.changes;
      freed = λ h live. f.freed (o.honest.0 h) (live_mid h n live);
      others = λ h live k ne. f.others (o.honest.0 h) (live_mid h n live) k ne ∙ o.map.pages_stay h k;
      given_others = λ h k ne. f.given_others (o.honest.0 h) k ne ∙ o.map.given_stay h k;
      sound = λ was live. f.sound (o.map.sound.0 was) (live_mid was.honest n live);
      next = f.next ∙ o.map.next;
      grows = omega (arith, f.grows, o.map.next, o.map.free_count);
      looks = f.looks ∙ o.looks;
      holds = λ k ne held. f.holds k ne (held_mid k held);
      touched = f.touched;
      opens = f.opens;
      untouched = λ _ _ none. f.untouched three (omega (arith, within, o.map.next)) none;
      outside = λ out. absurd (⊎_elim (λ (less : n < 3). omega (arith, less, three))
          (λ (more : next_of old ≤ n). omega (arith, more, within)) out);
      faults = λ was live other. f.faults (o.map.sound.0 was) (live_mid was.honest n live) other;
      other_faults = f.other_faults;
    }

module _ {D A : Type 0} {m : _} (old mid new : PageCache D A m) {X : Type 0} (x : X)
    (o : OpensGate old mid (Ok x)) (r : Result ℕ Fault) where
  -- the first free page is damaged, also before
  broken_before : IsHonest old → (f : Fault) → IsBroken mid new f → IsBroken old new f
  broken_before h f broken =
      let was = below.header_of old.file in
      let some : 0 < was.count = subst (λ (y : Header). 0 < y.count) o.header broken.some in
      let first = some_free was old.file.sound some in record {
        is = broken.is ∙ ap (λ (y : Header). fault.Damaged y.first) o.header;
        some = some;
        no_link = sym (ap (λ (y : Header). free_page_link y.count y.next (block_at y.first (blocks_behind mid)))
            o.header
            ∙ ap (free_page_link was.count was.next)
            (o.blocks h was.first (omega (arith, first.0)) first.1)) ∙ broken.no_link;
        map = the_map_is_kept_in_turn old mid new o.honest.0 o.map broken.map;
      }

  pub opened_allocates : (IsErrOf r fault.NoPages → (n : ℕ) → 2 ≤ n → n < 2 ^ 31 → IsLive old n)
      → Allocates mid new r → Allocates old new r
  opened_allocates all_live a = record {
    changes = opened_changes old mid new x o r a.changes;
    fresh = λ was. if_ok_map r (a.fresh (o.map.sound.0 was)) (λ n is. (
      sym (o.map.pages_stay was.honest n) ∙ is.0,
      is.1,
      λ k ne. is.2 k ne ∙ o.map.pages_stay was.honest k,
    ));
    taken = λ was. if_ok_map r (a.taken (o.map.sound.0 was))
        (λ n is. subst (λ next. TakesFirst n (free_of old) next (free_of new) (next_of new)) o.map.next
        (subst (λ free. TakesFirst n free (next_of mid) (free_of new) (next_of new)) (o.free was.honest) is));
    given_others = λ h. if_ok_map r (a.given_others (o.honest.0 h))
        (λ n is. λ k ne. is k ne ∙ o.map.given_stay h k);
    given_refused = λ h. on_err_map r (a.given_refused (o.honest.0 h))
        (λ is. (is.0, λ k ne. is.1 k ne ∙ o.map.given_stay h k));
    refused = λ was. on_err_map r (a.refused (o.map.sound.0 was)) (λ is. (
      is.0,
      sym (o.map.pages_stay was.honest is.0) ∙ is.1,
      λ k ne. is.2 k ne ∙ o.map.pages_stay was.honest k,
    ));
    kept = on_err_map r a.kept (λ kept. λ count. let is = kept (count ∙ sym o.map.free_count) in
        (the_map_is_kept_in_turn old mid new o.honest.0 o.map is.0, is.1 ∙ o.touched));
    touched = a.touched;
    opens = a.opens;
    holds = (
      a.holds.0,
      λ k ne held. a.holds.1 k ne (subst (λ l. IsSome (frame_at l.entries k)) (sym o.frames) held),
    );
    sound = λ was. a.sound (o.map.sound.0 was);
    number = a.number;
    next = (omega (arith, a.next.0, o.map.next), omega (arith, a.next.1, o.map.next));
    looks = a.looks ∙ o.looks;
    grows = omega (arith, a.grows, o.map.next, o.map.free_count);
    full = a.full;
    all_live = all_live;
    faults = λ was. a.faults (o.map.sound.0 was);
    damaged = λ h. if_err_map r (a.damaged (o.honest.0 h))
        (λ f is. ⊎_elim (λ (device : IsOfDevice f). inl device)
        (λ rest. inr (⊎_elim (λ (none : f ≡ fault.NoPages). inl none)
        (λ (broken : IsBroken mid new f). inr (broken_before h f broken)) rest)) is);
    other_faults = a.other_faults;
  }

-- ---- nothing was changed

same_error : {T : Type 0} (r : Result T Fault) (f e : Fault) → IsErrAnd r (λ x. x ≡ f) → r ≡ Err e → f ≡ e
same_error (Ok x) f e is at = absurd is
same_error (Err x) f e is at = cc

no_want : (f : Fault) → IsOfDevice f ⊎ IsDamage f → f ≡ fault.NoPages → ⊥
no_want f other none = ⊎_elim
    (λ (device : IsOfDevice f). ⊎_elim (λ (memory : f ≡ fault.Memory). cc)
    (λ (failed : f ≡ fault.Device). cc) device)
    (λ (damage : IsDamage f). let is = damage.1 in cc)
    other

module _ {D A : Type 0} {m : _} (old new : PageCache D A m) (f : Fault) {T : Type 0} (r : Result T Fault)
    (refused : IsErrAnd r (λ e. e ≡ f)) where
  memory_refused : (n : ℕ) → KeepsMap old new → new.frames ≡ old.frames → new.looks ≡ old.looks
      → new.touched ≡ old.touched → ChangesInMemory n old new r
  memory_refused n map frames looks touched = record {
    given_others = λ h k ne. map.given_stay h k;
    refused = on_err_all r map;
    grows = omega (arith, map.next, map.free_count);
    looks = looks;
    holds = no_success r f _ refused;
    uses = uses_refused old new n f r refused (inl (ap (λ l. keys_of l.entries) frames));
    touched = touched ∙ sym (untouched_by old.touched r f refused);
  }

  -- the gate was refused
  module _ (gate : Result (Unit {0}) Fault) (is : gate ≡ Err f) (at_gate : OpensGate old new gate) where
    o : OpensGate {T = Unit {0}} old new (Err f)
    o = subst (λ q. OpensGate old new q) is at_gate

    changes_refused : Changes old new r
    changes_refused = subst (λ end. ChangesUntil old new end) (sym (ends_so r f refused))
        (opening_changes old new (Err f) o)

    module _ (n : ℕ) (low : 2 ≤ n) (within : n < next_of old) where
      unless_outside : {P : Type 0} → (n < 2) ⊎ (next_of old ≤ n) → P
      unless_outside out = absurd (⊎_elim (λ (less : n < 2). omega (arith, less, low))
          (λ (more : next_of old ≤ n). omega (arith, more, within)) out)

      pub refused_edits : {did : List ℕ → T → List ℕ → Type 0} → Edits n did old new r
      refused_edits = record {
        changes = changes_refused;
        answered = no_answer r f _ refused;
        edited = λ h page there. no_answer r f _ refused;
        live = λ h live. ap is_some (o.map.pages_stay h n) ∙ live;
        others = λ h live k ne. o.map.pages_stay h k;
        sound = λ was live. o.map.sound.0 was;
        next = o.map.next;
        in_memory = memory_refused n o.map o.frames o.looks o.touched;
        opens = no_success r f _ refused;
        held = λ was held. absurd (let never = (o.was_open was).1 in cc);
        outside = λ out. unless_outside out;
        faults = λ h _ _. at_error r f IsOfDevice refused o.faults;
        other_faults = at_error r f (λ e. IsOfDevice e ⊎ IsDamage e) refused (inl o.faults);
      }

      pub refused_refills : {did : List ℕ → List ℕ → Type 0} → Refills n did old new r
      refused_refills = record {
        changes = changes_refused;
        filled = λ h. no_success r f _ refused;
        live = λ h live. ap is_some (o.map.pages_stay h n) ∙ live;
        others = λ h live k ne. o.map.pages_stay h k;
        sound = λ was live. o.map.sound.0 was;
        next = o.map.next;
        in_memory = memory_refused n o.map o.frames o.looks o.touched;
        opens = no_success r f _ refused;
        held = λ was held. absurd (let never = (o.was_open was).1 in cc);
        outside = λ out. unless_outside out;
        faults = λ h _ _. at_error r f IsOfDevice refused o.faults;
        other_faults = at_error r f (λ e. IsOfDevice e ⊎ IsDamage e) refused (inl o.faults);
      }

    module _ (n : ℕ) (three : 3 ≤ n) (within : n < next_of old) where
      pub refused_frees : Frees n old new r
      refused_frees = record {
        changes = changes_refused;
        freed = λ h live. no_success r f _ refused;
        others = λ h live k ne. o.map.pages_stay h k;
        given_others = λ h k ne. o.map.given_stay h k;
        sound = λ was live. o.map.sound.0 was;
        next = o.map.next;
        grows = omega (arith, o.map.next, o.map.free_count);
        looks = o.looks;
        holds = λ k ne held. subst (λ l. IsSome (frame_at l.entries k)) (sym o.frames) held;
        touched = no_success r f _ refused;
        opens = no_success r f _ refused;
        untouched = λ _ _ none. at_error r f IsOfDevice refused o.faults;
        outside = λ out. absurd (⊎_elim (λ (less : n < 3). omega (arith, less, three))
            (λ (more : next_of old ≤ n). omega (arith, more, within)) out);
        faults = λ was live other. at_error r f IsOfDevice refused o.faults;
        other_faults = at_error r f (λ e. IsOfDevice e ⊎ IsDamage e) refused (inl o.faults);
      }

-- no page was given out
module _ {D A : Type 0} {m : _} (old new : PageCache D A m) (f : Fault) (r : Result ℕ Fault)
    (refused : IsErrAnd r (λ e. e ≡ f)) (other : IsOfDevice f ⊎ IsDamage f) where
  pub no_number : {P : Type 0} → IsErrOf r fault.NoPages → P
  no_number none = absurd (no_want f other (same_error r f fault.NoPages refused none))

  pub gives_none : Changes old new r → KeepsMap old new → touched_of new ≡ touched_of old
      → looks_of new ≡ looks_of old → ((n : ℕ) × ((k : ℕ) → ¬ (k ≡ n) → IsHeld old k → IsHeld new k))
      → (IsHonest old → IsOfDevice f) → Allocates old new r
  gives_none changes map touched looks holds of_device = record {
    changes = changes;
    fresh = λ was. no_answer r f _ refused;
    taken = λ was. no_answer r f _ refused;
    given_others = λ h. no_answer r f _ refused;
    given_refused = λ h. on_err_all r (0, λ k ne. map.given_stay h k);
    refused = λ was. on_err_all r (0, refl, λ k ne. map.pages_stay was.honest k);
    kept = on_err_all r (λ count. (map, touched));
    touched = no_success r f _ refused;
    opens = no_success r f _ refused;
    holds = holds;
    sound = λ was. map.sound.0 was;
    number = no_answer r f _ refused;
    next = (omega (arith, map.next), omega (arith, map.next));
    looks = looks;
    grows = omega (arith, map.next, map.free_count);
    full = λ none. no_number none;
    all_live = λ none n low small. no_number none;
    faults = λ was. at_error r f (λ e. IsOfDevice e ⊎ (e ≡ fault.NoPages)) refused (inl (of_device was.honest));
    damaged = λ h. at_error r f (λ e. IsOfDevice e ⊎ ((e ≡ fault.NoPages) ⊎ IsBroken old new e)) refused
        (inl (of_device h));
    other_faults = at_error r f (λ e. IsOfDevice e ⊎ ((e ≡ fault.NoPages) ⊎ IsDamage e)) refused
        (⊎_elim (λ (device : IsOfDevice f). inl device) (λ (damage : IsDamage f). inr (inr damage)) other);
  }

module _ {D A : Type 0} {m : _} (old new : PageCache D A m) (f : Fault) (r : Result ℕ Fault)
    (refused : IsErrAnd r (λ e. e ≡ f)) (gate : Result (Unit {0}) Fault) (is : gate ≡ Err f)
    (at_gate : OpensGate old new gate) where
  pub refused_allocates : Allocates old new r
  refused_allocates =
      let o : OpensGate {T = Unit {0}} old new (Err f) = subst (λ q. OpensGate old new q) is at_gate in
      gives_none old new f r refused (inl o.faults) (changes_refused old new f r refused gate is at_gate) o.map
      o.touched o.looks
      (0, λ k ne held. subst (λ l. IsSome (frame_at l.entries k)) (sym o.frames) held) (λ h. o.faults)
