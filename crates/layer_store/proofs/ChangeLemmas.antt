-- A change of layers is a change of their store.
use Rattle.std.proofs.Common.{◌≡◌, ◌∙◌, ◌^◌, ◌<◌, ◌⊎◌, ℕ, List, Bool, true, false, not, cond, inl, inr, refl}
use Rattle.std.proofs.Common.{sym, ap, subst, ⊎_elim}
use Rattle.std.specs.Prelude.{Option, Some, None, is_some, Result, Ok, Err, OnErr, OnOk, IfErr}
use Rattle.catalog_page.specs.Layout.{Record}
use Rattle.live_layers.specs.Changes.{ChangeLeaves, GoesOn, IsChangeBy, IsChanged, KeepsInChange, OnRefused}
use Rattle.live_layers.specs.Faults.{HasRefusalCause, HasUnmadeCause, IsMet}
use Rattle.live_layers.specs.Keeping as keeping
use Rattle.live_layers.specs.Keeping.{IsSound, IsWritten, Leaves, records_in}
use Rattle.live_layers.specs.Layers.{catalog_in}
use Rattle.live_layers.specs.Refusals.{IsTriedChange, refusals_in}
use Rattle.live_layers.specs.Staying.{KeepsPagesAndRecords, LeavesVersion}
use Rattle.live_layers.specs.Unmade.{is_broken, told}
use Rattle.live_layers.specs.declared.layers.Layers.{Layers}
use Rattle.live_layers.specs.declared.unmade.Unmade.{Unmade}
use Rattle.live_layers.specs.declared.unmade.Unmade.TheVariants as unmade
use Rattle.live_layers.proofs.BegunLemmas.{OnlyNow as OnlyNowOfLayers}
use Rattle.live_layers.proofs.ChangeLemmas.{refused_by}
use Rattle.live_layers.proofs.KeepLemmas.{kept_catalog, nothing_moved}
use Rattle.page_cache.specs.Cache.{IsHonest, gate_of, pages}
use Rattle.page_cache.specs.declared.cache.PageCache.{PageCache}
use Rattle.page_file.specs.declared.gate.Gate.TheVariants.{Open}
use Rattle.page_file.specs.declared.header.Version.{Version}
use Rattle.page_file.specs.Fault.{number_of}
use Rattle.plain_table.specs.Answers.{done_answer}
use Rattle.plain_table.specs.Commands.{Command, MayGiveUp}
use Rattle.plain_table.specs.Laws.{a_change_makes_another_table, no_change_leaves_the_table}
use Rattle.plain_table.specs.Step.{Answer, after, changes, refusal_of, refused_or, reply_of}
use Rattle.plain_table.specs.Step.Answer.{Done, Refused}
use Rattle.plain_table.specs.Table.{Table}
use Rattle.plain_table.specs.declared.refusal.Refusal.{Refusal}
use Rattle.plain_table.specs.declared.refusal.Refusal.TheVariants as refusal
use Rattle.store_law.specs.States.StoreState.{Dead}
use Rattle.store_law.specs.Stops.{Stops, after_change, after_command, is_end, tables_left, with_now}
use Rattle.layer_store.specs.Commands.{Changes, IsInTurn, IsMetIn, TakesReply, TakesStep, Tells, TellsOfEnd}
use Rattle.layer_store.specs.Representation.{IsInState, cache_in, device_in}
use Rattle.layer_store.specs.declared.store.Store.{Store}
use Rattle.layer_store.proofs.StopLemmas.{OnlyNow, change_leaves, kept_leaves, left_rests}
use Rattle.layer_store.proofs.StoreLemmas.{alive_in, alive_with, blames_none, change_goes_on, dead_so}
use Rattle.layer_store.proofs.StoreLemmas.{dead_tells, goes_on_tells, is_alive, is_dead, is_settled}
use Rattle.layer_store.proofs.StoreLemmas.{no_fewer_faults, not_both, replies_change, replies_nothing}
use Rattle.layer_store.proofs.StoreLemmas.{settled_so, takes_change, takes_nothing, told_cause, what_is_kept}

-- ---- one of a store that failed

pub failed_changes : {D A : Type 0} {m : _} {store : Store D A m} {c : Command} → store.failed ≡ true
    → Changes store store c (Err (refusal.StoreFailed 19))
failed_changes {m = m} {store = store} {c = c} failed = record {
  step = takes_nothing store c failed;
  reply = replies_nothing store c failed;
  honest = λ honest. honest;
  stops = λ s t represents alive. absurd
      (not_both store.failed failed (alive_in store s t represents alive).0);
  quiet = λ s t represents alive unchanged. absurd
      (not_both store.failed failed (alive_in store s t represents alive).0);
  settled = λ t represents unchanged was. was;
  spelled = λ t alive was. inr was;
  refused = inr (nothing_moved store.layers);
  ended = dead_tells store 19 failed;
  met = inl (dead_so store failed);
  in_turn = inl (dead_so store failed);
  dead = λ dead. (refl, refl);
  versions = record { done = λ honest. tt; undone = λ honest. refl; newest = refl };
  cause = blames_none (m.faults (device_in store)) (Err (refusal.StoreFailed 19)) refl;
}

-- ---- what leaves the table is refused

not_made : (why : Option Refusal) → not (is_some why) ≡ false → Done ≡ refused_or why Done → ⊥
not_made None e f = cc
not_made (Some r) e f = cc

unless_made : (P : Type 0) (made : Result (Unit {0}) Unmade) → ((u : Unit {0}) → made ≡ Ok u → ⊥)
    → OnErr made P → P
unless_made P (Ok u) refused p = absurd (refused u (λ i. Ok u))
unless_made P (Err why) refused p = p

-- and then what was written is so still
pub refused_written : {D A : Type 0} {m : _} {old mid : Layers D A m} {c : Command}
    {made : Result (Unit {0}) Unmade} → IsChangeBy old mid c made
    → ((t : Table)
    → (changes t c ≡ not (is_some (refusal_of t c))) × (reply_of t c ≡ refused_or (refusal_of t c) Done))
    → (t : Table) → IsSound old t → changes t c ≡ false → IsWritten old → IsWritten mid
refused_written {old = old} {mid = mid} {c = c} {made = made} change done t sound unchanged =
    let no_change =
    λ (u : Unit {0}) (is : made ≡ Ok u). not_made (refusal_of t c) (sym (done t).0 ∙ unchanged)
    ((subst (λ (r : Result (Unit {0}) Unmade). IsChanged old mid t c r) is
    (change.lawful t sound).changed).0 ∙ (done t).1) in
    unless_made (IsWritten old → IsWritten mid) made no_change change.keeps.written

-- and no page and no record moves where it was made so
ok_unless : (P : Type 0) (made : Result (Unit {0}) Unmade) → ((u : Unit {0}) → made ≡ Ok u → ⊥) → OnOk made P
ok_unless P (Ok u) refused = absurd (refused u (λ i. Ok u))
ok_unless P (Err why) refused = tt

pub refused_same : {D A : Type 0} {m : _} {old mid : Layers D A m} {c : Command}
    {made : Result (Unit {0}) Unmade} → IsChangeBy old mid c made
    → ((t : Table)
    → (changes t c ≡ not (is_some (refusal_of t c))) × (reply_of t c ≡ refused_or (refusal_of t c) Done))
    → (t : Table) → IsSound old t → changes t c ≡ false → OnOk made (KeepsPagesAndRecords old mid)
refused_same {old = old} {mid = mid} {c = c} {made = made} change done t sound unchanged =
    ok_unless (KeepsPagesAndRecords old mid) made
    (λ u is. not_made (refusal_of t c) (sym (done t).0 ∙ unchanged)
    ((subst (λ (r : Result (Unit {0}) Unmade). IsChanged old mid t c r) is
    (change.lawful t sound).changed).0 ∙ (done t).1))

pub ok_any : (P : Type 0) (made : Result (Unit {0}) Unmade) → P → OnOk made P
ok_any P (Ok u) p = p
ok_any P (Err why) p = tt

-- where pages and records stay, page 2 spells the records still, if an open gate stays open
pub kept_spelled : {D A : Type 0} {m : _} (old new : Layers D A m) → IsHonest old.cache
    → KeepsPagesAndRecords old new → (gate_of old.cache ≡ Open → gate_of new.cache ≡ Open)
    → keeping.SpellsUnchanged old → keeping.SpellsUnchanged new
kept_spelled old new honest keeps stays was = λ unopened.
    subst (λ (rs : List Record). catalog_in (pages new.cache) ≡ Some rs) (sym keeps.records)
    (kept_catalog old.cache new.cache (records_in old) honest keeps.map
    (was (λ opened. unopened (stays opened))))

-- and so after a change, but where it broke off half way
spelled_so : {D A : Type 0} {m : _} {by : Version} (old new : Store D A m) (t : Table) (c : Command)
    (made : Result (Unit {0}) Unmade) → new.failed ≡ is_broken made → IsSound old.layers t
    → KeepsInChange old.layers new.layers by made → ChangeLeaves old.layers new.layers t c made
    → (changes t c ≡ false → OnOk made (KeepsPagesAndRecords old.layers new.layers))
    → keeping.SpellsUnchanged old.layers → (b : Bool) → changes t c ≡ b
    → IsInState new Dead ⊎ keeping.SpellsUnchanged new.layers
spelled_so old new t c (Ok u) failed sound keeps leaves same was true e =
    inr (λ unopened. absurd (unopened (leaves.opened (a_change_makes_another_table t c e) tt)))
spelled_so old new t c (Ok u) failed sound keeps leaves same was false e =
    inr (kept_spelled old.layers new.layers sound.map.honest (same e)
    (λ opened. (leaves.quiet (no_change_leaves_the_table t c e)).gate ∙ opened) was)
spelled_so old new t c (Err (unmade.Refused r)) failed sound keeps leaves same was b e =
    inr (kept_spelled old.layers new.layers sound.map.honest keeps.refused keeps.stays_open was)
spelled_so old new t c (Err (unmade.Broken f)) failed sound keeps leaves same was b e =
    inl (dead_so new failed)

-- a refusal where the table is not asked does not end the store
pub refused_goes_on : {D A : Type 0} {m : _} (old mid : Layers D A m) (t : Table) (c : Command)
    (made : Result (Unit {0}) Unmade) (r : Refusal) → (Refused r ≡ reply_of t c → after t c ≡ t → ⊥)
    → IsChanged old mid t c made → made ≡ Err (unmade.Refused r) → is_end r ≡ false
refused_goes_on old mid t c made r never e is =
    let h = subst (λ (x : Result (Unit {0}) Unmade). IsChanged old mid t c x) is e in
    change_goes_on _ t c r never h.1

-- what the table answers so is not refused
pub not_refused : (r : Refusal) → Refused r ≡ Done → ⊥
not_refused r e = cc

-- ---- one of a live store

-- the count of faults is told
pub cause_told : {before after : ℕ} {was now : Bool} {made : Result (Unit {0}) Unmade}
    {result : Result (Unit {0}) Refusal} → Tells was now made result → HasUnmadeCause before after made
    → HasRefusalCause before after result
cause_told {before = before} {after = after} {made = made} tells cause =
    subst (λ (r : Result (Unit {0}) Refusal). HasRefusalCause before after r) (sym tells.answer)
    (told_cause before after made cause)

-- and the version is left as is told
version_so : {D A : Type 0} {m : _} {old new : Layers D A m} {by : Version} (made : Result (Unit {0}) Unmade)
    → LeavesVersion old new by made → LeavesVersion old new by (told made)
version_so (Ok u) leaves = record { done = leaves.done; undone = leaves.undone; newest = leaves.newest }
version_so (Err why) leaves = record { done = leaves.done; undone = leaves.undone; newest = leaves.newest }

version_told : {D A : Type 0} {m : _} {old new : Layers D A m} {by : Version} {was now : Bool}
    {made : Result (Unit {0}) Unmade} {result : Result (Unit {0}) Refusal} → Tells was now made result
    → LeavesVersion old new by made → LeavesVersion old new by result
version_told {old = old} {new = new} {by = by} {made = made} tells leaves =
    subst (λ (r : Result (Unit {0}) Refusal). LeavesVersion old new by r) (sym tells.answer)
    (version_so made leaves)

-- what is refused keeps each tree, and what broke off half way ends the store
refused_so : {D A : Type 0} {m : _} (new : Store D A m) (P : Type 0) (made : Result (Unit {0}) Unmade)
    → new.failed ≡ is_broken made → OnRefused made P → OnErr (told made) (IsInState new Dead ⊎ P)
refused_so new P (Ok u) failed kept = tt
refused_so new P (Err (unmade.Broken f)) failed kept = inl (dead_so new failed)
refused_so new P (Err (unmade.Refused r)) failed kept = inr kept

-- and is told so exactly then
ended_so : {D A : Type 0} {m : _} (new : Store D A m) (made : Result (Unit {0}) Unmade)
    → new.failed ≡ is_broken made → GoesOn made → IfErr (told made) (TellsOfEnd new)
ended_so new (Ok u) failed goes_on = tt
ended_so new (Err (unmade.Broken f)) failed goes_on = dead_tells new (number_of f) failed
ended_so new (Err (unmade.Refused r)) failed goes_on = goes_on_tells new r failed goes_on

-- what refused it or ended it was met
met_so : {D A : Type 0} {m : _} (cache : PageCache D A m) (made : Result (Unit {0}) Unmade)
    → IfErr made (IsMet cache) → IfErr (told made) (IsMetIn cache)
met_so cache (Ok u) met = tt
met_so cache (Err (unmade.Refused r)) met = inl met
met_so cache (Err (unmade.Broken f)) met = inr (f, refl, met)

-- in its turn
turn_so : (conditions : Bool → List (Bool × Refusal)) (made : Result (Unit {0}) Unmade)
    → IsTriedChange conditions made → IsInTurn conditions (told made)
turn_so conditions (Ok u) turn = turn
turn_so conditions (Err (unmade.Refused r)) turn = ⊎_elim inl (λ none. inr (inl none)) turn
turn_so conditions (Err (unmade.Broken f)) turn = inr (inr (refl, turn))

module _ {D A : Type 0} {m : _} (old new : Store D A m) {made : Result (Unit {0}) Unmade}
    {result : Result (Unit {0}) Refusal}
    (going : old.failed ≡ false) (tells : Tells old.failed new.failed made result) where
  -- it is a lawful step
  pub step_told : {c : Command} → MayGiveUp c
      → ((t : Table) → IsSound old.layers t → IsChanged old.layers new.layers t c made)
      → ((t : Table) (stops : Stops) → IsSound old.layers t → Leaves (cache_in old) stops
      → Leaves (cache_in new) (after_command t stops c (done_answer (told made))))
      → m.faults (device_in old) < 2 ^ 64
      → HasUnmadeCause (m.faults (device_in old)) (m.faults (device_in new)) made
      → TakesStep old new c (done_answer result)
  step_told {c = c} may changed leaves fits cause =
      takes_change old new c made (done_answer result) going may (ap done_answer tells.answer)
      (tells.failed going) changed leaves
      (λ t sound. no_fewer_faults (m.faults (device_in old)) (m.faults (device_in new)) result fits
      (cause_told tells cause))

  -- and a lawful answer, whatever stops leave
  pub reply_told : {c : Command} → MayGiveUp c
      → ((t : Table) → IsSound old.layers t → IsChanged old.layers new.layers t c made)
      → m.faults (device_in old) < 2 ^ 64
      → HasUnmadeCause (m.faults (device_in old)) (m.faults (device_in new)) made
      → TakesReply old new c (done_answer result)
  reply_told {c = c} may changed fits cause =
      replies_change old new c made (done_answer result) going may (ap done_answer tells.answer)
      (tells.failed going) changed
      (λ t sound. no_fewer_faults (m.faults (device_in old)) (m.faults (device_in new)) result fits
      (cause_told tells cause))

  -- what is refused is told
  pub told_end : GoesOn made → IfErr result (TellsOfEnd new)
  told_end goes_on =
      subst (λ (r : Result (Unit {0}) Refusal). IfErr r (TellsOfEnd new)) (sym tells.answer)
      (ended_so new made (tells.failed going) goes_on)

  -- and so it is told
  pub told_met : IfErr made (IsMet (cache_in new)) → IfErr result (IsMetIn (cache_in new))
  told_met met =
      subst (λ (r : Result (Unit {0}) Refusal). IfErr r (IsMetIn (cache_in new))) (sym tells.answer)
      (met_so (cache_in new) made met)

  told_turn : (conditions : Bool → List (Bool × Refusal)) → IsTriedChange conditions made
      → IsInTurn conditions result
  told_turn conditions turn =
      subst (λ (r : Result (Unit {0}) Refusal). IsInTurn conditions r) (sym tells.answer)
      (turn_so conditions made turn)

  -- what the layers keep of a change is what their store does
  pub told_changes : {c : Command} → MayGiveUp c
      → ((t : Table) (stops : Stops) (a : Answer)
      → after_command t stops c a ≡ cond (changes t c) (with_now (after_change stops.now a) stops) stops)
      → m.faults (device_in old) < 2 ^ 64 → (IsHonest (cache_in old) → OnlyNow (cache_in old))
      → IsChangeBy old.layers new.layers c made
      → ((t : Table) → IsSound old.layers t → changes t c ≡ false → IsWritten old.layers
      → IsWritten new.layers)
      → ((t : Table) → IsSound old.layers t → changes t c ≡ false
      → OnOk made (KeepsPagesAndRecords old.layers new.layers)) → Changes old new c result
  told_changes {c = c} may by_change fits now change written same = record {
    step = step_told may (λ t sound. (change.lawful t sound).changed)
        (λ t stops sound was. subst (Leaves (cache_in new))
        (sym (by_change t stops (done_answer (told made))))
        (change_leaves old.layers new.layers t c stops sound.map.honest was (changes t c) made
        (change.lawful t sound).leaves (no_change_leaves_the_table t c) (a_change_makes_another_table t c)
        (λ r is changing. refused_goes_on old.layers new.layers t c made r
        (λ as_table. a_change_makes_another_table t c changing) (change.lawful t sound).changed is)))
        fits change.keeps.cause;
    reply = reply_told may (λ t sound. (change.lawful t sound).changed) fits change.keeps.cause;
    honest = change.keeps.honest;
    stops = λ s t represents alive. (change.lawful t (alive_in old s t represents alive).1).leaves.stops
        (tables_left s.stops.now)
        (left_rests (cache_in old) s.stops.now (what_is_kept old s represents).leaves.now);
    quiet = λ s t represents alive unchanged.
        let kept = what_is_kept old s represents in
        kept_leaves (cache_in old) (cache_in new) s.stops.now kept.honest (now kept.honest) kept.leaves.now
        ((change.lawful t (alive_in old s t represents alive).1).leaves.quiet
        (no_change_leaves_the_table t c unchanged));
    settled = λ t represents unchanged was.
        let sound = (alive_with old t represents).1 in
        let settled = is_settled old was in
        settled_so new (
          ((change.lawful t sound).leaves.quiet (no_change_leaves_the_table t c unchanged)).gate
              ∙ settled.0,
          written t sound unchanged settled.1,
        );
    spelled = λ t alive was.
        let sound = (is_alive old t alive).1 in
        spelled_so old new t c made (tells.failed going) sound change.keeps (change.lawful t sound).leaves
        (same t sound) was (changes t c) refl;
    refused =
        subst (λ (r : Result (Unit {0}) Refusal). OnErr r
        (IsInState new Dead ⊎ KeepsPagesAndRecords old.layers new.layers)) (sym tells.answer)
        (refused_so new (KeepsPagesAndRecords old.layers new.layers) made (tells.failed going)
        change.keeps.refused);
    ended = told_end change.keeps.goes_on;
    met = inr (told_met change.keeps.met);
    in_turn = inr (told_turn (refusals_in old.layers c) change.in_turn);
    dead = λ dead. absurd (not_both old.failed (is_dead old dead) going);
    versions = version_told tells change.keeps.versions;
    cause = cause_told tells change.keeps.cause;
  }

-- a change that is refused for want of memory, before anything is asked of the layers
pub no_memory_changes : {D A : Type 0} {m : _} (store : Store D A m) {c : Command} → MayGiveUp c
    → ((t : Table) (stops : Stops) (a : Answer)
    → after_command t stops c a ≡ cond (changes t c) (with_now (after_change stops.now a) stops) stops)
    → m.faults (device_in store) < 2 ^ 64 → (IsHonest (cache_in store) → OnlyNow (cache_in store))
    → OnlyNowOfLayers store.layers → store.failed ≡ false → Changes store store c (Err refusal.Memory)
no_memory_changes store {c = c} may by_change fits now only going =
    told_changes store store going
    (record { answer = refl; failed = λ e. e }) may by_change fits now
    (refused_by store.layers c refusal.Memory only refl (λ t sound. inr tt) (inr (refl, refl)))
    (λ t sound unchanged was. was)
    (λ t sound unchanged. tt)

-- what a change did that was made is done where it is told so
ok_told : (P : Type 0) (made : Result (Unit {0}) Unmade) → OnOk made P → OnOk (told made) P
ok_told P (Ok u) h = h
ok_told P (Err why) h = tt

pub on_told : (P : Type 0) {was now : Bool} {made : Result (Unit {0}) Unmade}
    {result : Result (Unit {0}) Refusal} → Tells was now made result → OnOk made P → OnOk result P
on_told P {made = made} tells h =
    subst (λ (r : Result (Unit {0}) Refusal). OnOk r P) (sym tells.answer) (ok_told P made h)

-- and of what was not made where that is told
err_so_told : (P : Type 0) (made : Result (Unit {0}) Unmade) → OnErr made P → OnErr (told made) P
err_so_told P (Ok u) h = tt
err_so_told P (Err why) h = h

pub err_told : (P : Type 0) {was now : Bool} {made : Result (Unit {0}) Unmade}
    {result : Result (Unit {0}) Refusal} → Tells was now made result → OnErr made P → OnErr result P
err_told P {made = made} tells h =
    subst (λ (r : Result (Unit {0}) Refusal). OnErr r P) (sym tells.answer) (err_so_told P made h)
