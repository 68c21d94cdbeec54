-- The steps of a store: alive, failed, and failing.
use Rattle.std.proofs.Common.{◌≡◌, ◌∙◌, ◌≤◌, ◌<◌, ◌⊎◌, ℕ, Bool, true, false, cond, ◌^◌, refl, sym, ap, subst}
use Rattle.std.proofs.Common.{arith, inl, inr}
use Rattle.std.specs.Prelude.{Result, Ok, Err, IfErr}
use Rattle.std.proofs.Math.Nat.{le-min}
use Rattle.block_device.specs.Device.{HasRisen, one_more}
use Rattle.live_layers.specs.Changes.{IsAnswered, IsChanged, IsFaultOfChange}
use Rattle.live_layers.specs.Faults.{HasRefusalCause, HasUnmadeCause, faults_after_refusal}
use Rattle.live_layers.specs.Faults.{faults_after_unmade}
use Rattle.live_layers.specs.Keeping as keeping
use Rattle.live_layers.specs.Keeping.{IsSound, Leaves, records_in}
use Rattle.live_layers.specs.Unmade.{is_broken, told, told_refusal}
use Rattle.live_layers.specs.declared.unmade.Unmade.{Unmade}
use Rattle.live_layers.specs.declared.unmade.Unmade.TheVariants as unmade
use Rattle.live_layers.proofs.OneTable.{pages_hold_one_table}
use Rattle.page_cache.specs.Cache.{IsHonest, next_of, pages}
use Rattle.page_file.specs.Fault.{number_of}
use Rattle.page_file.specs.declared.fault.Fault.{Fault}
use Rattle.page_file.specs.declared.fault.Fault.TheVariants as fault
use Rattle.plain_table.specs.Answers.{done_answer}
use Rattle.plain_table.specs.Commands.{Command, MayGiveUp}
use Rattle.plain_table.specs.Step.{Answer, after, reply_of}
use Rattle.plain_table.specs.Step.Answer.{Refused}
use Rattle.plain_table.specs.Table.{Table}
use Rattle.plain_table.specs.declared.refusal.Refusal.{Refusal}
use Rattle.plain_table.specs.declared.refusal.Refusal.TheVariants as refusal
use Rattle.store_law.specs.Lawful.{IsEnd, IsFault, Lawful, LawfulFrom, RefusedBy, blames_device}
use Rattle.layer_store.specs.Checked.{LawfulReply, Standing}
use Rattle.store_law.specs.Sessions.{LawfulStep, Reaches, SessionState}
use Rattle.store_law.specs.States.{StoreState}
use Rattle.store_law.specs.States.Request.{Asks}
use Rattle.store_law.specs.States.StoreState.{Alive, Dead}
use Rattle.store_law.specs.Stops.{Stops, after_command, after_request, is_end}
use Rattle.layer_store.specs.Commands.{TakesReply, TakesStep, TellsOfEnd}
use Rattle.layer_store.specs.Representation.{BeginsWith, HasFailed, IsInState, IsOfStore, IsSettled}
use Rattle.layer_store.specs.Representation.{Represents, RepresentsTable, StandsAs, cache_in, closed_since}
use Rattle.layer_store.specs.Representation.{device_in}
use Rattle.layer_store.specs.declared.store.Store.{Store}

pub not_both : (b : Bool) → b ≡ true → b ≡ false → ⊥
not_both b e f = cc

-- ---- faults and refusals

-- a fault that broke a change off ends the store
end_of_change : (rose : Type 0) (f : Fault) → IsFaultOfChange rose f
    → IsEnd rose (refusal.StoreFailed (number_of f))
end_of_change rose fault.Memory h = inl refl
end_of_change rose fault.Device h = inr (refl, h)
end_of_change rose fault.NoPages h = absurd h
end_of_change rose (fault.Damaged page) h = absurd h
end_of_change rose fault.NotClosed h = absurd h
end_of_change rose fault.NotAStore h = absurd h
end_of_change rose fault.WrongVersion h = absurd h

-- a fault that is answered by itself does not
pub no_end : (rose : Type 0) (r : Refusal) → IsFault rose r → is_end r ≡ false
no_end rose (refusal.StoreFailed n) h = absurd h
no_end rose r h = refl

pub err_so : {T : Type 0} {P Q : Refusal → Type 0} (result : Result T Refusal) → ((r : Refusal) → P r → Q r)
    → IfErr result P → IfErr result Q
err_so (Ok v) f h = tt
err_so (Err r) f h = f r h

-- ---- the count of faults

told_count : (why : Unmade) (before : ℕ)
    → faults_after_unmade why before ≡ faults_after_refusal (told_refusal why) before
told_count (unmade.Refused r) before = refl
told_count (unmade.Broken fault.Memory) before = refl
told_count (unmade.Broken fault.Device) before = refl
told_count (unmade.Broken (fault.Damaged page)) before = refl
told_count (unmade.Broken fault.NotClosed) before = refl
told_count (unmade.Broken fault.NotAStore) before = refl
told_count (unmade.Broken fault.WrongVersion) before = refl
told_count (unmade.Broken fault.NoPages) before = refl

-- that of a change is that of its answer
pub told_cause : (before now : ℕ) (made : Result (Unit {0}) Unmade) → HasUnmadeCause before now made
    → HasRefusalCause before now (told made)
told_cause before now (Ok u) cause = record { ok = cause.made; refused = tt }
told_cause before now (Err why) cause = record { ok = tt; refused = cause.unmade ∙ told_count why before }

-- a refusal that blames no device leaves it
pub blames_none : {T : Type 0} (now : ℕ) (result : Result T Refusal)
    → IfErr result (λ r. blames_device r ≡ false) → HasRefusalCause now now result
blames_none now (Ok v) blameless = record { ok = refl; refused = tt }
blames_none now (Err r) blameless =
    record { ok = tt; refused = sym (ap (λ (blamed : Bool). cond blamed (one_more now) now) blameless) }

-- it does not fall
blamed_grows : (blamed : Bool) (before : ℕ) → before < 2 ^ 64 → before ≤ cond blamed (one_more before) before
blamed_grows true before fits = le-min (omega arith) (omega (arith, fits))
blamed_grows false before fits = omega arith

pub no_fewer_faults : {T : Type 0} (before now : ℕ) (result : Result T Refusal) → before < 2 ^ 64
    → HasRefusalCause before now result → before ≤ now
no_fewer_faults before now (Ok v) fits cause = omega (arith, cause.ok)
no_fewer_faults before now (Err r) fits cause = let more = blamed_grows (blames_device r) before fits in
    omega (arith, more, cause.refused)

-- what a question is answered is lawful
lawful_answer : (rose : Type 0) (t : Table) (c : Command) (a : Answer) → MayGiveUp c → after t c ≡ t
    → (a ≡ reply_of t c) ⊎ RefusedBy (IsFault rose) a → LawfulFrom rose t c a (Alive t)
lawful_answer rose t c a may stays (inl as_table) = inl (as_table, ap Alive (sym stays))
lawful_answer rose t c a may stays (inr faulty) = inr (inl (faulty, may, refl))

module _ {D A : Type 0} {m : _} where
  -- ---- states

  pub alive_so : (store : Store D A m) (t : Table) → store.failed ≡ false → IsSound store.layers t
      → IsInState store (Alive t)
  unfolding IsInState
  alive_so store t going sound = (going, sound)

  pub is_alive : (store : Store D A m) (t : Table) → IsInState store (Alive t)
      → (store.failed ≡ false) × IsSound store.layers t
  unfolding IsInState
  is_alive store t alive = alive

  pub dead_so : (store : Store D A m) → store.failed ≡ true → IsInState store Dead
  unfolding IsInState
  dead_so store failed = failed

  pub is_dead : (store : Store D A m) → IsInState store Dead → store.failed ≡ true
  unfolding IsInState
  is_dead store dead = dead

  -- what a store that failed, and one that goes on, is refused by
  pub dead_tells : (store : Store D A m) (cause : ℕ) → store.failed ≡ true
      → TellsOfEnd store (refusal.StoreFailed cause)
  dead_tells store cause failed = (λ end. dead_so store failed, λ dead. refl)

  pub goes_on_tells : (store : Store D A m) (r : Refusal) → store.failed ≡ false → is_end r ≡ false
      → TellsOfEnd store r
  goes_on_tells store r going goes_on = (
    λ end. absurd (not_both (is_end r) end goes_on),
    λ dead. absurd (not_both store.failed (is_dead store dead) going),
  )

  -- it is in one state: its pages hold one table
  pub in_one_state : (store : Store D A m) (s t : StoreState) → IsInState store s → IsInState store t → s ≡ t
  in_one_state store (Alive t) (Alive u) a b =
      let held = (is_alive store t a).1.holds in
      ap Alive
      (pages_hold_one_table (pages store.layers.cache) (next_of store.layers.cache)
      (records_in store.layers) t u held (is_alive store u b).1.holds)
  in_one_state store (Alive t) Dead a b =
      absurd (not_both store.failed (is_dead store b) (is_alive store t a).0)
  in_one_state store Dead (Alive u) a b =
      absurd (not_both store.failed (is_dead store a) (is_alive store u b).0)
  in_one_state store Dead Dead a b = refl

  pub settled_so : (store : Store D A m) → keeping.IsSettled store.layers → IsSettled store
  unfolding IsSettled
  settled_so store settled = settled

  pub is_settled : (store : Store D A m) → IsSettled store → keeping.IsSettled store.layers
  unfolding IsSettled
  is_settled store settled = settled

  pub represents_so : (store : Store D A m) (s : SessionState) → IsOfStore store s
      → IsHonest (cache_in store) → Leaves (cache_in store) s.stops → Represents store s
  unfolding Represents
  represents_so store s is honest leaves = (is, honest, leaves)

  -- what a store that represents a state keeps
  pub record Keeps (store : Store D A m) (s : SessionState) : Type 0 where
    pub is : IsOfStore store s
    pub honest : IsHonest (cache_in store)
    pub leaves : Leaves (cache_in store) s.stops

  pub what_is_kept : (store : Store D A m) (s : SessionState) → Represents store s → Keeps store s
  unfolding Represents
  what_is_kept store s represents = record { is = represents.0; honest = represents.1; leaves = represents.2 }

  -- a live store in a state of its session
  pub alive_in : (store : Store D A m) (s : SessionState) (t : Table) → Represents store s
      → s.state ≡ Alive t → (store.failed ≡ false) × IsSound store.layers t
  alive_in store s t represents alive =
      is_alive store t (subst (IsInState store) alive (what_is_kept store s represents).is.state)

  pub alive_with : (store : Store D A m) (t : Table) → RepresentsTable store t
      → (store.failed ≡ false) × IsSound store.layers t
  alive_with store t r = alive_in store r.next t r.represents r.so

  pub failed_so : (store : Store D A m) → HasFailed store → store.failed ≡ true
  failed_so store r =
      is_dead store (subst (IsInState store) r.so (what_is_kept store r.next r.represents).is.state)

  -- a store that was made or opened
  pub begins : (store : Store D A m) (moment : ℕ) (t : Table) → IsInState store (Alive t)
      → IsHonest (cache_in store) → Leaves (cache_in store) (closed_since moment t)
      → BeginsWith store moment t
  begins store moment t alive honest leaves =
      let s : SessionState =
      record { state = Alive t; stops = closed_since moment t; faults = m.faults (device_in store) } in
      record {
        next = s;
        represents = represents_so store s (record { state = alive; faults = refl }) honest leaves;
        so = (refl, refl);
      }

  -- ---- steps

  -- the count of faults did not fall
  abbrev pub NoFewer : Store D A m → Store D A m → Type 0
  NoFewer old new = m.faults (device_in old) ≤ m.faults (device_in new)

  abbrev pub Rose : Store D A m → Store D A m → Type 0
  Rose old new = HasRisen (m.faults (device_in old)) (m.faults (device_in new))

  -- a lawful step from a state to another
  step : (old new : Store D A m) (c : Command) (a : Answer) (s : SessionState) (was now : StoreState)
      → s.state ≡ was → Represents old s → IsInState new now → IsHonest (cache_in new)
      → Leaves (cache_in new) (after_request was s.stops (Asks c) a)
      → Lawful (Rose old new) was (Asks c) a now → NoFewer old new
      → Reaches Represents new (λ s'. LawfulStep s (Asks c) a s')
  step old new c a s was now e represents is honest leaves lawful more =
      let of_old = (what_is_kept old s represents).is in
      let s' : SessionState =
      record {
        state = now;
        stops = after_request was s.stops (Asks c) a;
        faults = m.faults (device_in new);
      } in
      record {
        next = s';
        represents = represents_so new s' (record { state = is; faults = refl }) honest leaves;
        so = record {
          answer = subst (λ (x : StoreState). Lawful (HasRisen s.faults s'.faults) x (Asks c) a now) (sym e)
              (subst (λ (n : ℕ). Lawful (HasRisen n s'.faults) was (Asks c) a now) (sym of_old.faults)
              lawful);
          stops = ap (λ (x : StoreState). after_request x s.stops (Asks c) a) (sym e);
          faults = omega (arith, of_old.faults, more);
        };
      }

  -- a command of a store that failed
  pub takes_nothing : (store : Store D A m) (c : Command) → store.failed ≡ true
      → TakesStep store store c (Refused (refusal.StoreFailed 19))
  takes_nothing store c failed =
      λ s represents. go s represents s.state refl (what_is_kept store s represents).is.state
    where
      go : (s : SessionState) → Represents store s → (state : StoreState) → s.state ≡ state
          → IsInState store state
          → Reaches Represents store (λ s'. LawfulStep s (Asks c) (Refused (refusal.StoreFailed 19)) s')
      go s represents (Alive t) e alive = absurd (not_both store.failed failed (is_alive store t alive).0)
      go s represents Dead e dead =
          let kept = what_is_kept store s represents in
          step store store c (Refused (refusal.StoreFailed 19)) s Dead Dead e represents dead kept.honest
          kept.leaves (refl, refl) (omega arith)

  -- the state that a change leaves, and that it is lawful
  record Leads (old new : Store D A m) (t : Table) (c : Command) (a : Answer) : Type 0 where
    state : StoreState
    is : IsInState new state
    honest : IsHonest (cache_in new)
    lawful : LawfulFrom (Rose old new) t c a state

  leads : (old new : Store D A m) (t : Table) (c : Command) (made : Result (Unit {0}) Unmade) → MayGiveUp c
      → new.failed ≡ is_broken made → IsChanged old.layers new.layers t c made
      → Leads old new t c (done_answer (told made))
  leads old new t c (Ok u) may failed h =
      record {
        state = Alive (after t c);
        is = alive_so new (after t c) failed h.1;
        honest = h.1.map.honest;
        lawful = inl (h.0, refl);
      }
  leads old new t c (Err (unmade.Refused r)) may failed h =
      record { state = Alive t; is = alive_so new t failed h.0; honest = h.0.map.honest; lawful = case h.1 }
    where
      case : ((Refused r ≡ reply_of t c) × (after t c ≡ t)) ⊎ IsFault (Rose old new) r
          → LawfulFrom (Rose old new) t c (Refused r) (Alive t)
      case (inl as_table) = inl (as_table.0, ap Alive (sym as_table.1))
      case (inr faulty) = inr (inl (faulty, may, refl))
  leads old new t c (Err (unmade.Broken f)) may failed h =
      record {
        state = Dead;
        is = dead_so new failed;
        honest = h.0;
        lawful = inr (inr (end_of_change (Rose old new) f h.2, h.1, refl));
      }

  -- a change of a live store
  pub takes_change : (old new : Store D A m) (c : Command) (made : Result (Unit {0}) Unmade) (a : Answer)
      → old.failed ≡ false → MayGiveUp c → a ≡ done_answer (told made) → new.failed ≡ is_broken made
      → ((t : Table) → IsSound old.layers t → IsChanged old.layers new.layers t c made)
      → ((t : Table) (stops : Stops) → IsSound old.layers t → Leaves (cache_in old) stops
      → Leaves (cache_in new) (after_command t stops c (done_answer (told made))))
      → ((t : Table) → IsSound old.layers t → NoFewer old new) → TakesStep old new c a
  takes_change old new c made a going may answered failed changed leaves more =
      λ s represents. go s represents s.state refl (what_is_kept old s represents).is.state
    where
      go : (s : SessionState) → Represents old s → (state : StoreState) → s.state ≡ state
          → IsInState old state → Reaches Represents new (λ s'. LawfulStep s (Asks c) a s')
      go s represents Dead e dead = absurd (not_both old.failed (is_dead old dead) going)
      go s represents (Alive t) e alive =
          let sound = (is_alive old t alive).1 in
          let led = leads old new t c made may failed (changed t sound) in
          subst (λ (x : Answer). Reaches Represents new (λ s'. LawfulStep s (Asks c) x s')) (sym answered)
          (step old new c (done_answer (told made)) s (Alive t) led.state e represents led.is led.honest
          (leaves t s.stops sound (what_is_kept old s represents).leaves) led.lawful (more t sound))

  -- a command that leaves the table of a live store
  pub takes_asked : (old new : Store D A m) (c : Command) (a : Answer) → old.failed ≡ false
      → new.failed ≡ false → ((t : Table) (stops : Stops) → after_command t stops c a ≡ stops)
      → ((t : Table) → IsSound old.layers t
      → IsSound new.layers t × LawfulFrom (Rose old new) t c a (Alive t))
      → ((t : Table) (stops : Stops) → IsSound old.layers t → Leaves (cache_in old) stops
      → Leaves (cache_in new) stops) → NoFewer old new
      → TakesStep old new c a
  takes_asked old new c a going goes quiet lawful leaves more =
      λ s represents. go s represents s.state refl (what_is_kept old s represents).is.state
    where
      go : (s : SessionState) → Represents old s → (state : StoreState) → s.state ≡ state
          → IsInState old state → Reaches Represents new (λ s'. LawfulStep s (Asks c) a s')
      go s represents Dead e dead = absurd (not_both old.failed (is_dead old dead) going)
      go s represents (Alive t) e alive =
          let sound = (is_alive old t alive).1 in
          let h = lawful t sound in
          step old new c a s (Alive t) (Alive t) e represents (alive_so new t goes h.0) h.0.map.honest
          (subst (Leaves (cache_in new)) (sym (quiet t s.stops))
          (leaves t s.stops sound (what_is_kept old s represents).leaves)) h.1 more

  -- a question of a live store
  pub takes_question : (old new : Store D A m) (c : Command) (a : Answer) → old.failed ≡ false
      → new.failed ≡ false → MayGiveUp c → ((t : Table) → after t c ≡ t)
      → ((t : Table) (stops : Stops) → after_command t stops c a ≡ stops)
      → ((t : Table) → IsSound old.layers t → IsAnswered old.layers new.layers t c a)
      → ((t : Table) (stops : Stops) → IsSound old.layers t → Leaves (cache_in old) stops
      → Leaves (cache_in new) stops) → NoFewer old new
      → TakesStep old new c a
  takes_question old new c a going goes may stays quiet answered leaves more =
      takes_asked old new c a going goes quiet
      (λ t sound. let h = answered t sound in
      (h.0, lawful_answer (Rose old new) t c a may (stays t) h.1)) leaves more

  -- a command that the store answers as the table does, without a call
  pub takes_reply : (store : Store D A m) (c : Command) (a : Answer) → store.failed ≡ false
      → ((t : Table) → after t c ≡ t) → ((t : Table) (stops : Stops) → after_command t stops c a ≡ stops)
      → ((t : Table) → IsSound store.layers t → a ≡ reply_of t c) → TakesStep store store c a
  takes_reply store c a going stays quiet replied =
      takes_asked store store c a going going quiet
      (λ t sound. (sound, inl (replied t sound, ap Alive (sym (stays t))))) (λ t stops sound was. was)
      (omega arith)

module _ {D A : Type 0} {m : _} where
  -- ---- lawful answers, whatever stops leave

  -- one from a state to another
  replies : (old new : Store D A m) (c : Command) (a : Answer) (s : Standing) (was now : StoreState)
      → s.state ≡ was → StandsAs old s → IsInState new now → IsHonest (cache_in new)
      → Lawful (Rose old new) was (Asks c) a now → NoFewer old new
      → Reaches StandsAs new (λ s'. LawfulReply s (Asks c) a s')
  replies old new c a s was now e stands is honest lawful more =
      let s' : Standing = record { state = now; faults = m.faults (device_in new) } in
      record {
        next = s';
        represents = record { state = is; honest = honest; faults = refl };
        so = record {
          answer = subst (λ (x : StoreState). Lawful (HasRisen s.faults s'.faults) x (Asks c) a now) (sym e)
              (subst (λ (n : ℕ). Lawful (HasRisen n s'.faults) was (Asks c) a now) (sym stands.faults)
              lawful);
          faults = omega (arith, stands.faults, more);
        };
      }

  -- of a store that failed
  pub replies_nothing : (store : Store D A m) (c : Command) → store.failed ≡ true
      → TakesReply store store c (Refused (refusal.StoreFailed 19))
  replies_nothing store c failed = λ s stands. go s stands s.state refl stands.state
    where
      go : (s : Standing) → StandsAs store s → (state : StoreState) → s.state ≡ state → IsInState store state
          → Reaches StandsAs store (λ s'. LawfulReply s (Asks c) (Refused (refusal.StoreFailed 19)) s')
      go s stands (Alive t) e alive = absurd (not_both store.failed failed (is_alive store t alive).0)
      go s stands Dead e dead =
          replies store store c (Refused (refusal.StoreFailed 19)) s Dead Dead e stands dead stands.honest
          (refl, refl) (omega arith)

  -- of a change of a live store
  pub replies_change : (old new : Store D A m) (c : Command) (made : Result (Unit {0}) Unmade) (a : Answer)
      → old.failed ≡ false → MayGiveUp c → a ≡ done_answer (told made) → new.failed ≡ is_broken made
      → ((t : Table) → IsSound old.layers t → IsChanged old.layers new.layers t c made)
      → ((t : Table) → IsSound old.layers t → NoFewer old new) → TakesReply old new c a
  replies_change old new c made a going may answered failed changed more =
      λ s stands. go s stands s.state refl stands.state
    where
      go : (s : Standing) → StandsAs old s → (state : StoreState) → s.state ≡ state → IsInState old state
          → Reaches StandsAs new (λ s'. LawfulReply s (Asks c) a s')
      go s stands Dead e dead = absurd (not_both old.failed (is_dead old dead) going)
      go s stands (Alive t) e alive =
          let sound = (is_alive old t alive).1 in
          let led = leads old new t c made may failed (changed t sound) in
          subst (λ (x : Answer). Reaches StandsAs new (λ s'. LawfulReply s (Asks c) x s')) (sym answered)
          (replies old new c (done_answer (told made)) s (Alive t) led.state e stands led.is led.honest
          led.lawful (more t sound))

  -- of a command that leaves the table of a live store
  replies_asked : (old new : Store D A m) (c : Command) (a : Answer) → old.failed ≡ false → new.failed ≡ false
      → ((t : Table) → IsSound old.layers t
      → IsSound new.layers t × LawfulFrom (Rose old new) t c a (Alive t)) → NoFewer old new
      → TakesReply old new c a
  replies_asked old new c a going goes lawful more = λ s stands. go s stands s.state refl stands.state
    where
      go : (s : Standing) → StandsAs old s → (state : StoreState) → s.state ≡ state → IsInState old state
          → Reaches StandsAs new (λ s'. LawfulReply s (Asks c) a s')
      go s stands Dead e dead = absurd (not_both old.failed (is_dead old dead) going)
      go s stands (Alive t) e alive =
          let h = lawful t (is_alive old t alive).1 in
          replies old new c a s (Alive t) (Alive t) e stands (alive_so new t goes h.0) h.0.map.honest h.1 more

  -- of a question
  pub replies_question : (old new : Store D A m) (c : Command) (a : Answer) → old.failed ≡ false
      → new.failed ≡ false → MayGiveUp c → ((t : Table) → after t c ≡ t)
      → ((t : Table) → IsSound old.layers t → IsAnswered old.layers new.layers t c a) → NoFewer old new
      → TakesReply old new c a
  replies_question old new c a going goes may stays answered more =
      replies_asked old new c a going goes
      (λ t sound. let h = answered t sound in
      (h.0, lawful_answer (Rose old new) t c a may (stays t) h.1)) more

  -- of one that is answered as the table does, without a call
  pub replies_reply : (store : Store D A m) (c : Command) (a : Answer) → store.failed ≡ false
      → ((t : Table) → after t c ≡ t) → ((t : Table) → IsSound store.layers t → a ≡ reply_of t c)
      → TakesReply store store c a
  replies_reply store c a going stays replied =
      replies_asked store store c a going going
      (λ t sound. (sound, inl (replied t sound, ap Alive (sym (stays t))))) (omega arith)

-- a refusal that is not the table's is no end of the store
pub change_goes_on : (rose : Type 0) (t : Table) (c : Command) (r : Refusal)
    → (Refused r ≡ reply_of t c → after t c ≡ t → ⊥)
    → ((Refused r ≡ reply_of t c) × (after t c ≡ t)) ⊎ IsFault rose r → is_end r ≡ false
change_goes_on rose t c r never (inl as_table) = absurd (never as_table.0 as_table.1)
change_goes_on rose t c r never (inr faulty) = no_end rose r faulty
