-- A closing of layers is a closing of their store.
use Rattle.std.proofs.Common.{◌≡◌, ◌∙◌, ◌⊎◌, ◌<◌, ◌^◌, ℕ, List, ◌∷◌, true, false, inl, inr, refl, sym, ap}
use Rattle.std.proofs.Common.{subst}
use Rattle.std.specs.Prelude.{IsOk, Result, Ok, Err, OnErr}
use Rattle.block_device.specs.Device.{LeavesOnly, Only}
use Rattle.live_layers.specs.Changes.{IsBegun, Rose}
use Rattle.live_layers.specs.Closings.{ClosingLeaves}
use Rattle.live_layers.specs.Faults.{HasRefusalCause, as_refusal, faults_after_refusal}
use Rattle.live_layers.specs.Image.{IsImage, IsRefusedOrImageOf}
use Rattle.live_layers.specs.Keeping as keeping
use Rattle.live_layers.specs.Keeping.{IsSound}
use Rattle.live_layers.specs.Staying.{KeepsEachTree, KeepsVersions}
use Rattle.live_layers.specs.Unmade.{is_broken, told}
use Rattle.live_layers.specs.declared.layers.Layers.{Layers}
use Rattle.live_layers.specs.declared.unmade.Unmade.{Unmade}
use Rattle.live_layers.specs.declared.unmade.Unmade.TheVariants as unmade
use Rattle.live_layers.proofs.AskLemmas.{device_refuses, risen_of}
use Rattle.live_layers.proofs.StopLemmas.{shut_is_durable}
use Rattle.page_cache.specs.Cache.{IsHonest, device_of, gate_of}
use Rattle.page_file.specs.Fault.{IsOfDevice, faults_after}
use Rattle.page_file.specs.declared.fault.Fault.{Fault}
use Rattle.page_file.specs.declared.fault.Fault.TheVariants as fault
use Rattle.page_file.specs.declared.gate.Gate.TheVariants.{Shut}
use Rattle.plain_table.specs.Commands.Command.{Reopen}
use Rattle.plain_table.specs.Step.Answer.{Refused}
use Rattle.plain_table.specs.Table.{Table}
use Rattle.plain_table.specs.declared.refusal.Refusal.{Refusal}
use Rattle.store_law.specs.Sessions.{SessionState}
use Rattle.store_law.specs.States.StoreState.{Alive, Dead}
use Rattle.store_law.specs.Stops.{is_end, tables_left}
use Rattle.layer_store.specs.Commands.{IsUnfinished, Tells}
use Rattle.layer_store.specs.Faults.{IsMemoryOrDevice}
use Rattle.layer_store.specs.Representation.{IsInState, IsSettled, Represents, StopsLeave, blocks_in}
use Rattle.layer_store.specs.Representation.{cache_in, device_in}
use Rattle.layer_store.specs.declared.store.Store.{Store}
use Rattle.layer_store.proofs.StopLemmas.{OneCommit, OnlyNow, left_rests, read_alone, reopening_leaves}
use Rattle.layer_store.proofs.StoreLemmas.{alive_in, dead_so, is_alive, is_dead, is_settled, no_fewer_faults}
use Rattle.layer_store.proofs.StoreLemmas.{not_both, settled_so, takes_change, what_is_kept}

-- as a refusal
pub memory_or_device : (f : Fault) → IsOfDevice f → IsMemoryOrDevice (as_refusal f)
memory_or_device f (inl e) = inl (ap as_refusal e)
memory_or_device f (inr e) = inr (ap as_refusal e)

-- what its refusal says of the device
pub same_count : (f : Fault) (before : ℕ) → faults_after f before ≡ faults_after_refusal (as_refusal f) before
same_count fault.Memory before = λ i. before
same_count fault.Device before = λ i. faults_after fault.Device before
same_count (fault.Damaged page) before = λ i. before
same_count fault.NotClosed before = λ i. before
same_count fault.NotAStore before = λ i. before
same_count fault.WrongVersion before = λ i. before
same_count fault.NoPages before = λ i. before

-- a closing that was answered, or killed its store, was finished
begun_so : (made : Result (Unit {0}) Unmade) → IsOk (told made) ⊎ (is_broken made ≡ true) → IsBegun made
begun_so (Ok u) h = tt
begun_so (Err (unmade.Broken f)) h = tt
begun_so (Err (unmade.Refused r)) (inl ok) = cc
begun_so (Err (unmade.Refused r)) (inr broken) = cc

ok_so : (made : Result (Unit {0}) Unmade) → IsOk (told made) → IsOk made
ok_so (Ok u) h = h
ok_so (Err why) h = absurd (cc)

-- one that was refused has failed, or was not finished
ends_so : {D A : Type 0} {m : _} (new : Store D A m) (made : Result (Unit {0}) Unmade)
    → new.failed ≡ is_broken made → IsBegun made ⊎ ¬ (gate_of (cache_in new) ≡ Shut)
    → OnErr (told made) (IsInState new Dead ⊎ ¬ (gate_of (cache_in new) ≡ Shut))
ends_so new (Ok u) failed finished = tt
ends_so new (Err (unmade.Broken f)) failed finished = inl (dead_so new failed)
ends_so new (Err (unmade.Refused r)) failed (inl begun) = absurd begun
ends_so new (Err (unmade.Refused r)) failed (inr opened) = inr opened

-- the tables of which a closing may leave an image
pub rests_of_store : {D A : Type 0} {m : _} (store : Store D A m) (s : SessionState) → Represents store s
    → keeping.RestLeavesOneOf (cache_in store) (tables_left s.stops.now)
rests_of_store store s represents =
    left_rests (cache_in store) s.stops.now (what_is_kept store s represents).leaves.now

module _ {D A : Type 0} {m : _} (old new : Store D A m) {made : Result (Unit {0}) Unmade}
    {result : Result (Unit {0}) Refusal}
    (going : old.failed ≡ false) (tells : Tells old.failed new.failed made result) where
  finished : IsOk result ⊎ IsInState new Dead → IsBegun made
  finished (inl ok) = begun_so made (inl (subst (λ (r : Result (Unit {0}) Refusal). IsOk r) tells.answer ok))
  finished (inr dead) = begun_so made (inr (sym (tells.failed going) ∙ is_dead new dead))

  pub ends_closed : IsBegun made ⊎ ¬ (gate_of (cache_in new) ≡ Shut)
      → OnErr result (IsInState new Dead ⊎ ¬ (gate_of (cache_in new) ≡ Shut))
  ends_closed shut =
      subst (λ (r : Result (Unit {0}) Refusal). OnErr r
      (IsInState new Dead ⊎ ¬ (gate_of (cache_in new) ≡ Shut))) (sym tells.answer)
      (ends_so new made (tells.failed going) shut)

  pub settled_closed : (IsOk made → keeping.IsSettled new.layers) → IsOk result → IsSettled new
  settled_closed settled ok =
      settled_so new
      (settled (ok_so made (subst (λ (r : Result (Unit {0}) Refusal). IsOk r) tells.answer ok)))

  module _ (leaves : (t : Table) → IsSound old.layers t → ClosingLeaves old.layers new.layers t made) where
    pub image_closed : (t : Table) → IsInState old (Alive t) → IsOk result ⊎ IsInState new Dead
        → IsImage (blocks_in new) t
    image_closed t alive end = ((leaves t (is_alive old t alive).1).closed (finished end)).1

    pub durable_closed : (IsHonest (cache_in old) → IsHonest (cache_in new)) → (t : Table)
        → IsInState old (Alive t) → IsOk result ⊎ IsInState new Dead
        → Only (blocks_in new) (m.may_leave (device_in new))
    durable_closed honest t alive end =
        let sound = (is_alive old t alive).1 in
        shut_is_durable (cache_in new) (honest sound.map.honest) ((leaves t sound).closed (finished end)).0

    pub stops_closed : (s : SessionState) (t : Table) → Represents old s → s.state ≡ Alive t
        → StopsLeave old new (IsRefusedOrImageOf (t ∷ tables_left s.stops.now))
    stops_closed s t represents alive =
        (leaves t (alive_in old s t represents alive).1).stops (tables_left s.stops.now)
        (rests_of_store old s represents)

    pub quiet_closed : (IsHonest (cache_in old) → OnlyNow (cache_in old)) → (t : Table)
        → IsInState old (Alive t) → IsSettled old → StopsLeave old new (λ c. c ≡ blocks_in old)
    quiet_closed now t alive was =
        let sound = (is_alive old t alive).1 in
        let settled = is_settled old was in
        read_alone (cache_in old) (cache_in new) sound.map.honest (now sound.map.honest) settled.0
        ((leaves t sound).quiet settled)

-- ---- one that was not finished

-- a fault of the device does not end the store
goes_on : (f : Fault) (r : Refusal) → IsOfDevice f
    → ◌≡◌ {A = Result (Unit {0}) Unmade} (Err (unmade.Refused (as_refusal f))) (Err (unmade.Refused r))
    → is_end r ≡ false
goes_on f r (inl e) same = let is : r ≡ as_refusal f = cc in
    subst (λ (x : Refusal). is_end x ≡ false) (sym (is ∙ ap as_refusal e)) refl
goes_on f r (inr e) same = let is : r ≡ as_refusal f = cc in
    subst (λ (x : Refusal). is_end x ≡ false) (sym (is ∙ ap as_refusal e)) refl

module _ {D A : Type 0} {m : _} where
  -- what a settling of a live store's layers that was refused leaves
  pub record Unsettled (old new : Layers D A m) (f : Fault) : Type 0 where
    pub sound : (t : Table) → IsSound old t → IsSound new t
    pub stops : (ts : List Table) (t : Table) → IsSound old t → keeping.RestLeavesOneOf old.cache ts
        → LeavesOnly m.moment m.left_since m.recovery (device_of old.cache) (device_of new.cache)
        (IsRefusedOrImageOf (t ∷ ts))
    pub rests : (ts : List Table) (t : Table) → IsSound old t → keeping.RestLeavesOneOf old.cache ts
        → keeping.RestLeavesOneOf new.cache (t ∷ ts)
    pub trees : (t : Table) → IsSound old t → KeepsEachTree old new
    pub versions : KeepsVersions old new
    pub faults : (t : Table) → IsSound old t → IsOfDevice f
    pub counted : m.faults (device_of new.cache) ≡ faults_after f (m.faults (device_of old.cache))
    pub unsettled : keeping.IsSettled old → ⊥
    pub unshut : ¬ (gate_of new.cache ≡ Shut)

  pub not_finished : (store : Store D A m) (layers : Layers D A m) (f : Fault) (device : D) (t : Table)
      → store.failed ≡ false → Unsettled store.layers layers f → device ≡ device_of layers.cache
      → m.faults (device_in store) < 2 ^ 64 → (IsHonest layers.cache → OneCommit layers.cache)
      → IsSound store.layers t → IsUnfinished store (as_refusal f) device
  not_finished store layers f device t going left has fits one sound =
      let after : Store D A m = record store { layers = layers } in
      let made : Result (Unit {0}) Unmade = Err (unmade.Refused (as_refusal f)) in
      let cause : HasRefusalCause {T = Unit {0}} (m.faults (device_in store)) (m.faults (device_in after))
      (Err (as_refusal f)) =
      record { ok = tt; refused = left.counted ∙ same_count f (m.faults (device_in store)) } in
      record {
        left = after;
        has = has;
        step = takes_change store after Reopen made (Refused (as_refusal f)) going tt refl going
            (λ t sound. (
              left.sound t sound,
              inr (device_refuses (Rose store.layers layers) f (left.faults t sound)
                  (risen_of (m.faults (device_in store)) (m.faults (device_in after)) f left.counted)),
            ))
            (λ t stops sound was. reopening_leaves store.layers layers t stops made (record {
              stops = λ ts rests. left.stops ts t sound rests;
              rests = λ ts rests. left.rests ts t sound rests;
              closed = λ begun. absurd begun;
              quiet = λ settled. absurd (left.unsettled settled);
            }) (λ r is. goes_on f r (left.faults t sound) is) (left.sound t sound).map.honest
            (one (left.sound t sound).map.honest) was)
            (λ t sound. no_fewer_faults (m.faults (device_in store)) (m.faults (device_in after))
            (Err (as_refusal f)) fits cause);
        going = λ dead. not_both store.failed (is_dead after dead) going;
        trees = left.trees t sound;
        versions = left.versions;
        unshut = left.unshut;
      }
