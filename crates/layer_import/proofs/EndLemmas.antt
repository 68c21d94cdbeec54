-- How an import ends: the store is given up, or closed.
use Rattle.std.proofs.Common.{◌≡◌, ◌∙◌, ℕ, Bool, true, false, List, [], ◌∷◌, ap, inl, inr, refl, subst}
use Rattle.std.proofs.Common.{Result, sym}
use Rattle.std.specs.Prelude.{is_ok}
use Rattle.block_device.specs.Device.{LeavesOnly, Only}
use Rattle.block_device.specs.Moments.{leaves_then, leaves_weaker}
use Rattle.live_layers.specs.Image.{IsImage, IsImageOfOne, IsRefusedOrImageOf}
use Rattle.live_layers.proofs.StopLemmas.{or_this}
use Rattle.plain_table.specs.Commands.{Command}
use Rattle.plain_table.specs.Loads.{GivenObjects}
use Rattle.plain_table.specs.Table.{Table}
use Rattle.store_law.specs.Laws.{a_session_keeps_its_beginning}
use Rattle.store_law.specs.Sessions.{SessionState}
use Rattle.store_law.specs.States.StoreState.{Alive}
use Rattle.store_law.specs.Stops.{Stops, tables_left}
use Rattle.layer_store.specs.Calls.{Calls}
use Rattle.layer_store.specs.Representation.{IsInState, Represents, StopsLeave, closed_since, device_in}
use Rattle.layer_store.specs.declared.store.Store.{Store}
use Rattle.layer_store.proofs.CallLemmas.{LeavesNow, calls_are_a_session}
use Rattle.layer_store.proofs.StopLemmas.{found_by_closing, found_of_store, left_more, session_state_is}
use Rattle.layer_import.specs.declared.import.Unimported.{Unimported}
use Rattle.layer_import.specs.Imports.{HasImported, Puts, import_commands}
use Rattle.layer_import.proofs.DoneLemmas.{LeavesTable, put_so, session_keeps}

-- A store into which objects were put, where a table was closed at this moment and since then no other.
pub record HasPut {D A : Type 0} {m : _} (old new : Store D A m) (moment : ℕ) (t : Table)
    (commands : List Command) (went_well : Bool) : Type 0 where
  pub next : SessionState
  pub represents : Represents new next
  pub so_far : next.stops.so_far ≡ t ∷ []
  pub kept : next.stops.kept_so_far ≡ t ∷ []
  pub since : next.stops.since ≡ moment
  pub stops : StopsLeave old new (IsRefusedOrImageOf (t ∷ []))
  pub well : went_well ≡ true → LeavesTable t commands next

pub has_put : {D A : Type 0} {m : _} → ((store : Store D A m) → LeavesNow store)
    → (old new : Store D A m) (layer : List ℕ) (dims fanout : ℕ) (objects : GivenObjects)
    (outcome : Result (Unit {0}) Unimported) → Puts (Calls old new) layer dims fanout objects outcome
    → (s : SessionState) (t : Table) (moment : ℕ) → Represents old s → s.state ≡ Alive t
    → s.stops ≡ closed_since moment t
    → HasPut old new moment t (import_commands t layer dims fanout objects) (is_ok outcome)
has_put now old new layer dims fanout objects outcome puts s t moment represents alive closed =
    let all = calls_are_a_session now old new puts.requests puts.answers puts.so s represents in
    let same = session_keeps s all.next puts.requests puts.answers puts.are_put all.so.0 in
    let so_far = same.so_far ∙ ap (λ (x : Stops). x.so_far) closed in
    record {
      next = all.next;
      represents = all.represents;
      so_far = so_far;
      kept = same.kept ∙ ap (λ (x : Stops). x.kept_so_far) closed;
      since =
          a_session_keeps_its_beginning s all.next puts.requests puts.answers all.so.0
          ∙ ap (λ (x : Stops). x.since) closed;
      stops = subst (λ (ts : List Table). StopsLeave old new (IsRefusedOrImageOf ts)) so_far all.so.1;
      well =
          λ well. put_so t layer dims fanout objects s all.next puts.requests puts.answers alive all.so.0
          (puts.all well);
    }

-- given up, its device is left as it is
pub given_up : {D A : Type 0} {m : _} (old new : Store D A m) (moment : ℕ) (t : Table)
    (commands : List Command) (went_well : Bool) (left : D) → HasPut old new moment t commands went_well
    → left ≡ device_in new → HasImported m moment t commands false (device_in old) left
given_up {m = m} old new moment t commands went_well left put same =
    subst (λ (d : _). HasImported m moment t commands false (device_in old) d) (sym same)
    (record {
      tables = t ∷ [];
      ends = inl (refl, refl);
      stops = put.stops;
      found =
          λ opens c found. subst (λ (ts : List Table). IsImageOfOne ts c) put.kept
          ((found_of_store new put.next put.represents opens).so_far c
          (subst (λ (k : ℕ). m.recovery.found_since (device_in new) k c) (sym put.since) found));
    })

-- closed, or the closing was refused
pub ends_closing : {D A : Type 0} {m : _} (old new : Store D A m) (moment : ℕ) (t : Table)
    (commands : List Command) (went_well closes : Bool) (left : D)
    → HasPut old new moment t commands went_well → went_well ≡ true
    → ((s : SessionState) (u : Table) → Represents new s → s.state ≡ Alive u
    → LeavesOnly m.moment m.left_since m.recovery (device_in new) left
    (IsRefusedOrImageOf (u ∷ tables_left s.stops.now)))
    → (closes ≡ true → (u : Table) → IsInState new (Alive u)
    → IsImage (m.shown left) u × Only (m.shown left) (m.may_leave left))
    → HasImported m moment t commands closes (device_in old) left
ends_closing {m = m} old new moment t commands went_well closes left put is closing image =
    let next = put.next in
    let done = put.well is in
    let u = done.table in
    let only = closing next u put.represents done.alive in
    let state = subst (IsInState new) done.alive (session_state_is new next put.represents).state in
    let all = IsRefusedOrImageOf (u ∷ t ∷ []) in
    record {
      tables = u ∷ t ∷ [];
      ends = inr (record {
        table = u;
        done = done.done;
        tables_are = refl;
        image = λ well. (image well u state).0;
        durable = λ well. (image well u state).1;
      });
      stops =
          leaves_then m.moment m.left_since m.recovery (device_in old) (device_in new) left all
          (leaves_weaker m.moment m.left_since m.recovery (device_in old) (device_in new)
          (IsRefusedOrImageOf (t ∷ [])) all (or_this (t ∷ []) u) put.stops)
          (leaves_weaker m.moment m.left_since m.recovery (device_in new) left
          (IsRefusedOrImageOf (u ∷ tables_left next.stops.now)) all
          (λ c p. subst (λ (ts : List Table). IsRefusedOrImageOf (u ∷ ts) c) put.so_far
          (left_more new next u put.represents c p)) only);
      found =
          λ opens c found. subst (λ (ts : List Table). IsImageOfOne (u ∷ ts) c) put.kept
          (found_by_closing new next u left put.represents only opens c
          (subst (λ (k : ℕ). m.recovery.found_since left k c) (sym put.since) found));
    }
