-- What is left of a store that was closed, or whose closing was refused.
use Rattle.std.proofs.Common.{◌≡◌, ◌∙◌, ap, false, true, List, ◌∷◌, Result, Ok, Err, refl, sym, subst, arith}
use Rattle.std.proofs.Common.{Option, ℕ}
use Rattle.std.specs.Io.KnownBytes.{Keeps}
use Rattle.store_law.specs.Sessions.{SessionState, Takes}
use Rattle.store_law.specs.States.{StoreState}
use Rattle.store_law.specs.States.StoreState.{Alive, Dead}
use Rattle.plain_table.specs.Table.{Table}
use Rattle.block_device.specs.Device.{Blocks, LeavesOnly}
use Rattle.block_device.specs.Moments.{leaves_then, leaves_weaker}
use Rattle.layer_store.specs.Checked.{LawfulOnceChecked, Standing}
use Rattle.layer_store.specs.Representation.{HasFailed, IsInState, Represents, StandsAs, StopsLeave}
use Rattle.layer_store.specs.Representation.{device_in}
use Rattle.layer_store.proofs.SessionLemmas.{once_checked_so}
use Rattle.store_law.specs.Stops.{tables_left}
use Rattle.layer_store.specs.declared.store.Store.{Store}
use Rattle.layer_store.proofs.StopLemmas.{found_by_closing, found_of_store, left_by_closing, left_more}
use Rattle.layer_store.proofs.StopLemmas.{left_so_far, session_state_is}
use Rattle.live_layers.proofs.StopLemmas.{or_this}
use Rattle.live_layers.specs.Image.{IsImage, IsRefusedOrImageOf, IsImageOfOne}
use Rattle.store_law.specs.Laws.{a_session_keeps_its_beginning}
use Rattle.command_shell.specs.Runs.{FoundSince, LeavesTablesOf, Runs, with_last}
use Rattle.command_shell.specs.declared.session.LinesEnd.{LinesEnd}
use Rattle.command_shell.specs.declared.session.RunEnd.{RunEnd}
use Rattle.command_shell.specs.declared.strict.Outcome.{Outcome}
use Rattle.command_shell.specs.declared.strict.Outcome.TheVariants.{WentWell}
use Rattle.command_shell.specs.Serving.{IsSession, RunState, of_any_text}
use Rattle.command_shell.specs.Strict.{IsLeft, RunsStrictly, RunsToSettle, SettlesInImage, TellsOutcome}
use Rattle.command_shell.specs.Strict.{tables_found}
use Rattle.command_shell.proofs.RunLemmas.{strict_kept, strict_served, strict_so}
use Rattle.command_shell.proofs.SessionLemmas.{served_by}

-- the table of a store that has not failed
pub record HasTable {D A : Type 0} {m : _} (store : Store D A m) (s : SessionState) : Type 0 where
  pub table : Table
  pub alive : s.state ≡ Alive table
  pub state : IsInState store (Alive table)

pub has_table : {D A : Type 0} {m : _} (store : Store D A m) (s : SessionState) → Represents store s
    → (HasFailed store → ⊥) → HasTable store s
has_table store s represents going = at s.state refl
  where
    at : (state : StoreState) → s.state ≡ state → HasTable store s
    at (Alive t) e =
        record {
          table = t;
          alive = e;
          state = subst (IsInState store) e (session_state_is store s represents).state;
        }
    at Dead e = absurd (going (record { next = s; represents = represents; so = e }))

-- a store that was closed has the table of which the blocks are an image
pub closed_in_image : {D A : Type 0} {m : _} (store : Store D A m) (blocks : Blocks)
    → ((t : Table) → IsInState store (Alive t) → IsImage blocks t) → (IsInState store Dead → ⊥)
    → (s : Standing) → StandsAs store s → (t : Table) × (s.state ≡ Alive t) × IsImage blocks t
closed_in_image store blocks closed going s stands = at s.state refl stands.state
  where
    at : (state : StoreState) → s.state ≡ state → IsInState store state
        → (t : Table) × (s.state ≡ Alive t) × IsImage blocks t
    at (Alive t) e is = (t, e, closed t is)
    at Dead e is = absurd (going is)

pub false_is_not_true : false ≡ true → ⊥
false_is_not_true e = absurd (cc)

pub ok_is_no_refusal : {T E : Type 0} {v : T} {e : E} → Ok v ≡ Err e → ⊥
ok_is_no_refusal h = absurd (cc)

abbrev device_in_refusal : {T R D : Type 0} → D → Result T (R × D) → D
device_in_refusal none (Ok v) = none
device_in_refusal none (Err e) = e.1

pub refused_device : {T R D : Type 0} (a b : Result T (R × D)) (r q : R) (d e : D) → a ≡ Err (r, d)
    → b ≡ Err (q, e) → a ≡ b → d ≡ e
refused_device a b r q d e is so same = ap (device_in_refusal d) (sym is ∙ (same ∙ so))

-- what a closing that was refused left, of a store in either state
pub left_when_refused : {D A : Type 0} {m : _} (store : Store D A m) (s : SessionState) (device : D)
    → Represents store s
    → ((t : Table) → s.state ≡ Alive t
    → LeavesOnly m.moment m.left_since m.recovery (device_in store) device
    (IsRefusedOrImageOf (t ∷ tables_left s.stops.now)))
    → (HasFailed store → device ≡ device_in store) → (state : StoreState) → s.state ≡ state
    → (c : Blocks) → m.left_since device s.stops.since c
    → IsRefusedOrImageOf (with_last s.state s.stops.so_far) c
left_when_refused {m = m} store s device represents refused failed (Alive t) is c left =
    subst (λ (state : StoreState). IsRefusedOrImageOf (with_last state s.stops.so_far) c) (sym is)
    (left_by_closing store s t device represents (refused t is) c left)
left_when_refused {m = m} store s device represents refused failed Dead is c left =
    let same = failed (record { next = s; represents = represents; so = is }) in
    subst (λ (state : StoreState). IsRefusedOrImageOf (with_last state s.stops.so_far) c) (sym is)
    (left_so_far store s represents c (subst (λ d. m.left_since d s.stops.since c) same left))

-- and what such stops are found to have left
pub found_when_refused : {D A : Type 0} {m : _} (store : Store D A m) (s : SessionState) (device : D)
    → Represents store s
    → ((t : Table) → s.state ≡ Alive t
    → LeavesOnly m.moment m.left_since m.recovery (device_in store) device
    (IsRefusedOrImageOf (t ∷ tables_left s.stops.now)))
    → (HasFailed store → device ≡ device_in store) → (state : StoreState) → s.state ≡ state
    → (c : Blocks) → FoundSince m.recovery device s.stops.since c
    → IsImageOfOne (with_last s.state s.stops.kept_so_far) c
found_when_refused {m = m} store s device represents refused failed (Alive t) is c found =
    subst (λ (state : StoreState). IsImageOfOne (with_last state s.stops.kept_so_far) c) (sym is)
    (found_by_closing store s t device represents (refused t is) found.0 c found.1)
found_when_refused {m = m} store s device represents refused failed Dead is c found =
    let same = failed (record { next = s; represents = represents; so = is }) in
    subst (λ (state : StoreState). IsImageOfOne (with_last state s.stops.kept_so_far) c) (sym is)
    ((found_of_store store s represents found.0).so_far c
    (subst (λ d. m.recovery.found_since d s.stops.since c) same found.1))

-- stops are told from the same moment on through a run
pub same_beginning : (end : RunEnd) (before after : RunState) → Runs end before after
    → after.session.stops.since ≡ before.session.stops.since
same_beginning end before after h =
    let served =
    served_by (of_any_text (IsSession before.session after.session)) end before.unread after.unread before.written
    after.written h in
    a_session_keeps_its_beginning before.session after.session served.requests served.answers served.lawful

-- within a run and the closing after it a stop left blocks that opening refuses, or an image of one of the
-- tables
pub run_leaves : {D A : Type 0} {m : _} (first : D) (store : Store D A m) (s : SessionState) (t : Table) (device : D)
    → Represents store s → s.state ≡ Alive t → LeavesOnly m.moment m.left_since m.recovery first (device_in store) (IsRefusedOrImageOf s.stops.so_far)
    → LeavesOnly m.moment m.left_since m.recovery (device_in store) device
    (IsRefusedOrImageOf (t ∷ tables_left s.stops.now))
    → LeavesTablesOf m.moment m.left_since m.recovery s first device
run_leaves {m = m} first store s t device represents alive run closing =
    let all = IsRefusedOrImageOf (t ∷ s.stops.so_far) in
    subst (λ (state : StoreState). LeavesOnly m.moment m.left_since m.recovery first device
    (IsRefusedOrImageOf (with_last state s.stops.so_far))) (sym alive)
    (leaves_then m.moment m.left_since m.recovery first (device_in store) device all
    (leaves_weaker m.moment m.left_since m.recovery first (device_in store)
    (IsRefusedOrImageOf s.stops.so_far) all (or_this s.stops.so_far t) run)
    (leaves_weaker m.moment m.left_since m.recovery (device_in store) device
    (IsRefusedOrImageOf (t ∷ tables_left s.stops.now)) all (left_more store s t represents) closing))

-- of a store that failed, which hands its device back
dead_leaves : {D A : Type 0} {m : _} (first : D) (store : Store D A m) (s : SessionState) (device : D)
    → s.state ≡ Dead → device ≡ device_in store → LeavesOnly m.moment m.left_since m.recovery first (device_in store) (IsRefusedOrImageOf s.stops.so_far)
    → LeavesTablesOf m.moment m.left_since m.recovery s first device
dead_leaves {m = m} first store s device dead same run =
    subst (λ (state : StoreState). LeavesOnly m.moment m.left_since m.recovery first device
    (IsRefusedOrImageOf (with_last state s.stops.so_far))) (sym dead)
    (subst (λ d. LeavesOnly m.moment m.left_since m.recovery first d
    (IsRefusedOrImageOf s.stops.so_far)) (sym same) run)

-- of one whose closing was refused, in either state
pub refused_leaves : {D A : Type 0} {m : _} (first : D) (store : Store D A m) (s : SessionState) (device : D)
    → Represents store s → LeavesOnly m.moment m.left_since m.recovery first (device_in store) (IsRefusedOrImageOf s.stops.so_far)
    → ((t : Table) → s.state ≡ Alive t
    → LeavesOnly m.moment m.left_since m.recovery (device_in store) device
    (IsRefusedOrImageOf (t ∷ tables_left s.stops.now)))
    → (HasFailed store → device ≡ device_in store) → (state : StoreState) → s.state ≡ state
    → LeavesTablesOf m.moment m.left_since m.recovery s first device
refused_leaves first store s device represents run refused failed (Alive t) is =
    run_leaves first store s t device represents is run (refused t is)
refused_leaves first store s device represents run refused failed Dead is =
    dead_leaves first store s device is (failed (record { next = s; represents = represents; so = is })) run

-- ---- of a strict run

-- one of the tables so far, or of these and the last
with_more : (state : StoreState) (so_far : List Table) (c : Blocks) → IsRefusedOrImageOf so_far c
    → IsRefusedOrImageOf (with_last state so_far) c
with_more (Alive t) so_far c h = or_this so_far t c h
with_more Dead so_far c h = h

-- a store that was given up leaves its device as it is
pub left_when_given_up : {D A : Type 0} {m : _} (store : Store D A m) (s : SessionState) (device : D)
    (outcome : Outcome) → (outcome ≡ WentWell → ⊥) → tables_found outcome s ≡ s.stops.kept_so_far
    → Represents store s → device ≡ device_in store → IsLeft m outcome s.stops.since device s
left_when_given_up {m = m} store s device outcome ill tables represents same = record {
  well = λ well. absurd (ill well);
  stops = λ c stop. with_more s.state s.stops.so_far c
      (left_so_far store s represents c (subst (λ d. m.left_since d s.stops.since c) same stop));
  kept = λ c found. subst (λ (ts : List Table). IsImageOfOne ts c) (sym tables)
      ((found_of_store store s represents found.0).so_far c
      (subst (λ d. m.recovery.found_since d s.stops.since c) same found.1));
  counted = let is = (session_state_is store s represents).faults in
      let kept = ap m.faults same in omega (arith, is, kept);
}

pub leaves_when_given_up : {D A : Type 0} {m : _} (first : D) (store : Store D A m) (s : SessionState)
    (device : D) → device ≡ device_in store
    → LeavesOnly m.moment m.left_since m.recovery first (device_in store)
    (IsRefusedOrImageOf s.stops.so_far)
    → LeavesTablesOf m.moment m.left_since m.recovery s first device
leaves_when_given_up {m = m} first store s device same run =
    subst (λ d. LeavesTablesOf m.moment m.left_since m.recovery s first d) (sym same)
    (leaves_weaker m.moment m.left_since m.recovery first (device_in store)
    (IsRefusedOrImageOf s.stops.so_far) (IsRefusedOrImageOf (with_last s.state s.stops.so_far))
    (with_more s.state s.stops.so_far) run)

-- a strict run, the flushing after it, and what is left then
pub settles : {D A : Type 0} {m : _} (first mid : Store D A m) (outcome : Outcome) (left : D)
    (end : LinesEnd) (r r' w w' flushed e e' : Option (List ℕ)) → TellsOutcome end outcome e e'
    → Keeps w' flushed
    → Takes Represents first mid (λ s s'. RunsStrictly (IsSession s s') end r r' w w'
    × StopsLeave first mid (IsRefusedOrImageOf s'.stops.so_far))
    → (m.honest (device_in first) → RunsStrictly (LawfulOnceChecked (StandsAs mid)) end r r' w w')
    → ((s : SessionState) → Represents mid s → IsLeft m outcome s.stops.since left s)
    → ((s : Standing) → StandsAs mid s → SettlesInImage outcome (m.shown left) s)
    → ((s : SessionState) (from : D) → Represents mid s
    → LeavesOnly m.moment m.left_since m.recovery from (device_in mid) (IsRefusedOrImageOf s.stops.so_far)
    → LeavesTablesOf m.moment m.left_since m.recovery s from left)
    → RunsToSettle m (λ s. Represents first s) outcome (device_in first) left r r' w flushed e e'
settles {m = m} first mid outcome left end r r' w w' flushed e e' told kept session checked is_left image leaves =
    record {
      end = end;
      told = told;
      run = λ s represents.
          let went = session s represents in
          let s' = went.next in
          let since =
          strict_served (IsSession s s') (s'.stops.since ≡ s.stops.since)
          (λ rs xs h. a_session_keeps_its_beginning s s' rs xs h) end r r' w w' went.so.0 in (
            s',
            strict_kept (IsSession s s') end r r' w w' flushed went.so.0 kept,
            subst (λ (k : ℕ). IsLeft m outcome k left s') since (is_left s' went.represents),
            leaves s' (device_in first) went.represents went.so.1,
          );
      checked = λ honest.
          strict_so _ _ (λ rs xs once. once_checked_so _ _ image rs xs once) end r r' w flushed
          (strict_kept _ end r r' w w' flushed (checked honest) kept);
    }
