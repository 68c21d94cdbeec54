-- A question of layers is a question of their store.
use Rattle.std.proofs.Common.{◌≡◌, ◌∙◌, ◌<◌, ◌^◌, Bool, List, true, false, inl, inr, refl, sym, subst, ⊎_elim}
use Rattle.std.specs.Prelude.{Result, Ok, Err, IfErr}
use Rattle.live_layers.specs.Changes.{IsAnswered, KeepsInQuestion}
use Rattle.live_layers.specs.Faults.{is_plain}
use Rattle.live_layers.specs.Image.{MayRemain}
use Rattle.live_layers.specs.Keeping.{IsSound}
use Rattle.live_layers.specs.Refusals.{IsTried, refusals_in}
use Rattle.live_layers.specs.declared.layers.Layers.{Layers}
use Rattle.live_layers.proofs.KeepLemmas.{nothing_moved}
use Rattle.live_layers.proofs.QuestionLemmas.{plain_goes_on, plain_is_quiet, plain_may}
use Rattle.live_layers.proofs.StopLemmas.{leaves_kept}
use Rattle.page_cache.specs.Cache.{IsHonest, device_of}
use Rattle.page_cache.specs.Laws.{no_call_keeps_the_gate}
use Rattle.plain_table.specs.Commands.{Command, MayGiveUp}
use Rattle.plain_table.specs.Laws.{no_change_leaves_the_table}
use Rattle.plain_table.specs.Step.{Answer, changes, reply_of}
use Rattle.plain_table.specs.Step.Answer.{Refused}
use Rattle.plain_table.specs.Table.{Table}
use Rattle.plain_table.specs.declared.refusal.Refusal.{Refusal}
use Rattle.plain_table.specs.declared.refusal.Refusal.TheVariants as refusal
use Rattle.store_law.specs.Sessions.{SessionState}
use Rattle.store_law.specs.States.{StoreState}
use Rattle.store_law.specs.States.StoreState.{Alive, Dead}
use Rattle.store_law.specs.Stops.{Stops, after_command}
use Rattle.layer_store.specs.Commands.{Answers, IsInTurn, OnlyAsks, TakesReply, TakesStep}
use Rattle.layer_store.specs.Representation.{IsInState, KeepsStore, Represents, StopsLeave}
use Rattle.layer_store.specs.Representation.{cache_in, device_in}
use Rattle.layer_store.specs.declared.store.Store.{Store}
use Rattle.layer_store.proofs.ChangeLemmas.{kept_spelled}
use Rattle.layer_store.proofs.StopLemmas.{OnlyNow, kept_leaves}
use Rattle.layer_store.proofs.StoreLemmas.{alive_so, blames_none, dead_so, dead_tells, err_so}
use Rattle.layer_store.proofs.StoreLemmas.{goes_on_tells}
use Rattle.layer_store.proofs.StoreLemmas.{is_alive, is_dead, is_settled, no_fewer_faults, not_both}
use Rattle.layer_store.proofs.StoreLemmas.{replies_nothing, replies_question, replies_reply}
use Rattle.layer_store.proofs.StoreLemmas.{represents_so, settled_so, takes_nothing}
use Rattle.layer_store.proofs.StoreLemmas.{takes_question, takes_reply, what_is_kept}

-- a question ends no store
turn_asked : {T : Type 0} (conditions : Bool → List (Bool × Refusal)) (result : Result T Refusal)
    → IsTried conditions result → IsInTurn conditions result
turn_asked conditions (Ok x) turn = turn
turn_asked conditions (Err r) turn = ⊎_elim inl (λ none. inr (inl none)) turn

module _ {D A : Type 0} {m : _} where
  -- what a question keeps of its store
  pub keeps_asked : {T : Type 0} {result : Result T Refusal} (old : Store D A m) (mid : Layers D A m)
      → KeepsInQuestion old.layers mid result → KeepsStore old (record old { layers = mid })
  keeps_asked old mid keeps = record {
    gate = keeps.gate;
    trees = keeps.trees;
    settled = λ was. let settled = is_settled old was in
        settled_so (record old { layers = mid }) (keeps.gate.gate ∙ settled.0, keeps.trees.written settled.1);
    spelled =
        λ honest was. kept_spelled old.layers mid honest keeps.trees (λ opened. keeps.gate.gate ∙ opened) was;
  }

  -- nothing was asked
  nothing_asked : (store : Store D A m) → KeepsStore store store
  nothing_asked store =
      record {
        gate = no_call_keeps_the_gate (cache_in store);
        trees = nothing_moved store.layers;
        settled = λ was. was;
        spelled = λ honest was. was;
      }

  -- what stops leave of one
  stops_asked : (old new : Store D A m) → (IsHonest (cache_in old) → OnlyNow (cache_in old))
      → KeepsStore old new → (s : SessionState) → Represents old s
      → StopsLeave old new (MayRemain s.stops.now)
  stops_asked old new now keeps s represents =
      let kept = what_is_kept old s represents in
      kept_leaves (cache_in old) (cache_in new) s.stops.now kept.honest (now kept.honest) kept.leaves.now
      keeps.gate

  -- ---- questions that are no command

  module _ {T : Type 0} where
    -- one of a store that failed
    pub failed_asks : {store : Store D A m} → store.failed ≡ true
        → (IsHonest (cache_in store) → OnlyNow (cache_in store))
        → OnlyAsks {T = T} store store (Err (refusal.StoreFailed 19))
    failed_asks {store = store} failed now = record {
      kept = nothing_asked store;
      goes_on = λ s represents.
          let kept = what_is_kept store s represents in
          represents_so store (record s { faults = m.faults (device_in store) })
          (record { state = kept.is.state; faults = refl }) kept.honest kept.leaves;
      stands_on = λ s stands. record { state = stands.state; honest = stands.honest; faults = refl };
      stops = stops_asked store store now (nothing_asked store);
      ended = dead_tells store 19 failed;
      met = inl (dead_so store failed);
      dead = λ dead. (refl, refl);
      cause = blames_none (m.faults (device_in store)) (Err (refusal.StoreFailed 19)) refl;
    }

    -- one of the layers of a live store
    pub layers_ask : {old : Store D A m} {mid : Layers D A m} {result : Result T Refusal}
        → old.failed ≡ false → (IsHonest (cache_in old) → OnlyNow (cache_in old))
        → KeepsInQuestion old.layers mid result → OnlyAsks old (record old { layers = mid }) result
    layers_ask {old = old} {mid = mid} {result = result} going now keeps =
        let kept = keeps_asked old mid keeps in
        let new : Store D A m = record old { layers = mid } in
        record {
          kept = kept;
          goes_on = λ s represents.
              let was = what_is_kept old s represents in
              represents_so new (record s { faults = m.faults (device_in new) })
              (record { state = stays s.state was.is.state; faults = refl }) (keeps.gate.honest.0 was.honest)
              (leaves_kept old.layers.cache mid.cache s.stops was.honest keeps.gate was.leaves);
          stands_on = λ s stands. record {
            state = stays s.state stands.state;
            honest = keeps.gate.honest.0 stands.honest;
            faults = refl;
          };
          stops = stops_asked old new now kept;
          ended = err_so result (λ r. goes_on_tells new r going) keeps.goes_on;
          met = inr keeps.met;
          dead = λ dead. absurd (not_both old.failed (is_dead old dead) going);
          cause = keeps.cause;
        }
      where
        stays : (state : StoreState) → IsInState old state → IsInState (record old { layers = mid }) state
        stays (Alive t) alive =
            alive_so (record old { layers = mid }) t going (keeps.sound t (is_alive old t alive).1)
        stays Dead dead = absurd (not_both old.failed (is_dead old dead) going)

  -- ---- questions that are commands

  module _ {T : Type 0} {c : Command} {answer : Result T Refusal → Answer} where
    -- one of a store that failed
    pub failed_answers : {store : Store D A m} → store.failed ≡ true
        → (IsHonest (cache_in store) → OnlyNow (cache_in store))
        → answer (Err (refusal.StoreFailed 19)) ≡ Refused (refusal.StoreFailed 19)
        → Answers store store c answer (Err (refusal.StoreFailed 19))
    failed_answers {store = store} failed now refused = record {
      step = subst (TakesStep store store c) (sym refused) (takes_nothing store c failed);
      reply = subst (TakesReply store store c) (sym refused) (replies_nothing store c failed);
      kept = nothing_asked store;
      stops = stops_asked store store now (nothing_asked store);
      ended = dead_tells store 19 failed;
      met = inl (dead_so store failed);
      in_turn = inl (dead_so store failed);
      dead = λ dead. (refl, refl);
      cause = blames_none (m.faults (device_in store)) (Err (refusal.StoreFailed 19)) refl;
    }

    -- one that a live store answers without a call of the device
    pub reply_answers : {store : Store D A m} (result : Result T Refusal) → store.failed ≡ false
        → (IsHonest (cache_in store) → OnlyNow (cache_in store)) → ((t : Table) → changes t c ≡ false)
        → ((t : Table) (stops : Stops) → after_command t stops c (answer result) ≡ stops)
        → ((t : Table) → IsSound store.layers t → answer result ≡ reply_of t c)
        → IfErr result (λ r. is_plain r ≡ true) → IsTried (refusals_in store.layers c) result
        → Answers store store c answer result
    reply_answers {store = store} result going now unchanged quiet replied plain turn = record {
      step = takes_reply store c (answer result) going (λ t. no_change_leaves_the_table t c (unchanged t))
          quiet replied;
      reply = replies_reply store c (answer result) going (λ t. no_change_leaves_the_table t c (unchanged t))
          replied;
      kept = nothing_asked store;
      stops = stops_asked store store now (nothing_asked store);
      ended = err_so result (λ r p. goes_on_tells store r going (plain_goes_on r p)) plain;
      met = inr (err_so result plain_may plain);
      in_turn = inr (turn_asked (refusals_in store.layers c) result turn);
      dead = λ dead. absurd (not_both store.failed (is_dead store dead) going);
      cause = blames_none (m.faults (device_in store)) result (err_so result plain_is_quiet plain);
    }

    -- one of the layers of a live store
    pub asked_answers : {old : Store D A m} {mid : Layers D A m} {result : Result T Refusal}
        → old.failed ≡ false → (IsHonest (cache_in old) → OnlyNow (cache_in old))
        → ((t : Table) → changes t c ≡ false)
        → ((t : Table) (stops : Stops) → after_command t stops c (answer result) ≡ stops)
        → MayGiveUp c → m.faults (device_in old) < 2 ^ 64
        → ((t : Table) → IsSound old.layers t → IsAnswered old.layers mid t c (answer result))
        → IsTried (refusals_in old.layers c) result → KeepsInQuestion old.layers mid result
        → Answers old (record old { layers = mid }) c answer result
    asked_answers {old = old} {mid = mid} {result = result} going now unchanged quiet may fits answered
        turn keeps =
        let kept = keeps_asked old mid keeps in
        let new : Store D A m = record old { layers = mid } in
        record {
          step = takes_question old new c (answer result) going going may
              (λ t. no_change_leaves_the_table t c (unchanged t)) quiet answered
              (λ t stops sound was. leaves_kept old.layers.cache mid.cache stops sound.map.honest keeps.gate
              was)
              (no_fewer_faults (m.faults (device_in old)) (m.faults (device_of mid.cache)) result fits
              keeps.cause);
          reply = replies_question old new c (answer result) going going may
              (λ t. no_change_leaves_the_table t c (unchanged t)) answered
              (no_fewer_faults (m.faults (device_in old)) (m.faults (device_of mid.cache)) result fits
              keeps.cause);
          kept = kept;
          stops = stops_asked old new now kept;
          ended = err_so result (λ r. goes_on_tells new r going) keeps.goes_on;
          met = inr keeps.met;
          in_turn = inr (turn_asked (refusals_in old.layers c) result turn);
          dead = λ dead. absurd (not_both old.failed (is_dead old dead) going);
          cause = keeps.cause;
        }
