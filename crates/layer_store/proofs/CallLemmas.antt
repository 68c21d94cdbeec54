-- A call of a store is a request that was made of it; and calls in turn are a session.
use Rattle.std.proofs.Common.{◌≡◌, List, [], ◌∷◌, refl, sym, ap, subst}
use Rattle.std.specs.Prelude.{Result, Ok, Err, OnOk}
use Rattle.block_device.specs.Device.{Blocks}
use Rattle.block_device.specs.Moments.{leaves_then, leaves_weaker}
use Rattle.live_layers.specs.Image.{IsRefusedOrImageOf, MayRemain}
use Rattle.live_layers.proofs.StopLemmas.{this_one}
use Rattle.page_cache.specs.Cache.{IsHonest}
use Rattle.page_cache.specs.Laws.{no_call_keeps_the_gate}
use Rattle.plain_table.specs.Answers.{done_answer}
use Rattle.plain_table.specs.Commands.{Command}
use Rattle.plain_table.specs.Commands.Command.{Check, Reopen}
use Rattle.plain_table.specs.Step.{Answer}
use Rattle.plain_table.specs.Step.Answer.{Done, Refused}
use Rattle.plain_table.specs.Table.{Table}
use Rattle.plain_table.specs.declared.refusal.Refusal.{Refusal}
use Rattle.plain_table.specs.declared.refusal.Refusal.TheVariants as refusal
use Rattle.layer_store.specs.Checked.{IsPassedCheck, LawfulOnceChecked, LawfulReplies, LawfulReply, LawfulTo}
use Rattle.layer_store.specs.Checked.{Standing}
use Rattle.store_law.specs.Laws.{a_bad_line_is_lawful}
use Rattle.layer_store.proofs.SessionLemmas.{a_bad_line_is_a_lawful_reply, a_session_keeps_its_tables}
use Rattle.layer_store.proofs.SessionLemmas.{a_step_keeps_its_tables}
use Rattle.store_law.specs.Sessions.{LawfulStep, Session, SessionState, Takes}
use Rattle.store_law.specs.States.{Request, StoreState}
use Rattle.store_law.specs.States.Request.{Asks, BadCommand}
use Rattle.store_law.specs.States.StoreState.{Alive, Dead}
use Rattle.store_law.specs.Stops.{AfterStop, Stops, after_request, tables_left}
use Rattle.store_law.specs.Stops.AfterStop.{Surely, Perhaps}
use Rattle.layer_store.specs.Calls.{Calls, IsAsked}
use Rattle.layer_store.specs.Commands.{Answers, Changes, StaysDead, StaysHonest, TakesReply, TakesStep}
use Rattle.layer_store.specs.Representation.{BeginsWithSome, IsAliveWithSome, IsInState, IsSettled}
use Rattle.layer_store.specs.Representation.{Represents, StandsAs, StopsLeave, cache_in, device_in}
use Rattle.layer_store.specs.declared.store.Store.{Store}
use Rattle.layer_store.proofs.StopLemmas.{OnlyNow, either_among, kept_leaves, left_among}
use Rattle.layer_store.proofs.StoreLemmas.{what_is_kept}

-- what a stop now leaves is an image of one of the tables left, or refused
remains_so : (left : AfterStop) (c : Blocks) → MayRemain left c → IsRefusedOrImageOf (tables_left left) c
remains_so (Surely t) c image = this_one [] t c image
remains_so (Perhaps ts) c there = there

-- one command is the other
abbrev asked_so : Request → Command → Command
asked_so (Asks c) other = c
asked_so BadCommand other = other

same_command : (c d : Command) → Asks c ≡ Asks d → c ≡ d
same_command c d e = ap (λ (r : Request). asked_so r c) e

bad_is_no_check : BadCommand ≡ Asks Check → ⊥
bad_is_no_check e = absurd (cc)

-- a check that is told as done was done
done_is_ok : (result : Result (Unit {0}) Refusal) (P : Type 0) → done_answer result ≡ Done → OnOk result P → P
done_is_ok (Ok u) P e p = p
done_is_ok (Err r) P e p = absurd (cc)

module _ {D A : Type 0} {m : _} where
  -- since its moment an honest device leaves nothing but what it may leave now
  abbrev pub LeavesNow : Store D A m → Type 0
  LeavesNow store = IsHonest (cache_in store) → OnlyNow (cache_in store)

  -- what a stop within a step leaves is an image of one of the tables so far, or refused
  within : (old new : Store D A m) (s s' : SessionState) (r : Request) (a : Answer) (P : Blocks → Type 0)
      → Represents old s → LawfulStep s r a s'
      → ((c : Blocks) → P c → IsRefusedOrImageOf (tables_left s.stops.now) c) → StopsLeave old new P
      → StopsLeave old new (IsRefusedOrImageOf s'.stops.so_far)
  within old new s s' r a P represents step weaker leaves =
      leaves_weaker m.moment m.left_since m.recovery (device_in old) (device_in new) P
      (IsRefusedOrImageOf s'.stops.so_far)
      (λ c p. left_among (tables_left s.stops.now) s'.stops.so_far c
      (λ u there. a_step_keeps_its_tables s s' r a step u
      ((what_is_kept old s represents).leaves.among u there)) (weaker c p)) leaves

  -- where no call was made
  still : (store : Store D A m) (s : SessionState) → LeavesNow store → Represents store s
      → StopsLeave store store (MayRemain s.stops.now)
  still store s now represents =
      let kept = what_is_kept store s represents in
      kept_leaves (cache_in store) (cache_in store) s.stops.now kept.honest (now kept.honest) kept.leaves.now
      (no_call_keeps_the_gate (cache_in store))

  -- in each state of a session
  by_state : {old new : Store D A m} {r : Request} {a : Answer} → LeavesNow old
      → (IsInState old Dead → new ≡ old)
      → ((s s' : SessionState) (t : Table) → Represents old s → LawfulStep s r a s' → s.state ≡ Alive t
      → StopsLeave old new (IsRefusedOrImageOf s'.stops.so_far))
      → Takes Represents old new (λ s s'. LawfulStep s r a s')
      → Takes Represents old new
      (λ s s'. LawfulStep s r a s' × StopsLeave old new (IsRefusedOrImageOf s'.stops.so_far))
  by_state {old = old} {new = new} {r = r} {a = a} now dead alive takes = λ s represents.
      let went = takes s represents in
      record {
        next = went.next;
        represents = went.represents;
        so = (went.so, go s went.next represents went.so s.state refl);
      }
    where
      go : (s s' : SessionState) → Represents old s → LawfulStep s r a s' → (state : StoreState)
          → s.state ≡ state → StopsLeave old new (IsRefusedOrImageOf s'.stops.so_far)
      go s s' represents step (Alive t) e = alive s s' t represents step e
      go s s' represents step Dead e =
          let is = subst (IsInState old) e (what_is_kept old s represents).is.state in
          subst (λ (x : Store D A m). StopsLeave old x (IsRefusedOrImageOf s'.stops.so_far)) (sym (dead is))
          (within old old s s' r a (MayRemain s.stops.now) represents step (remains_so s.stops.now)
          (still old s now represents))

  -- ---- each kind of call

  pub asked_by_change : {old new : Store D A m} {c : Command} {result : Result (Unit {0}) Refusal}
      → LeavesNow old → (c ≡ Check → ⊥) → Changes old new c result
      → IsAsked old (Asks c) (done_answer result) new
  asked_by_change {old = old} {new = new} {c = c} {result = result} now other h = record {
    step = by_state now (λ dead. (h.dead dead).1)
        (λ s s' t represents step alive. within old new s s' (Asks c) (done_answer result)
        (IsRefusedOrImageOf (tables_left s.stops.now)) represents step (λ b p. p)
        (h.stops s t represents alive)) h.step;
    reply = h.reply;
    honest = h.honest;
    checked = λ passed honest. absurd (other (same_command c Check passed.0));
  }

  -- what stops leave of a question
  question_step : {T : Type 0} {old new : Store D A m} {c : Command} {answer : Result T Refusal → Answer}
      {result : Result T Refusal} → Answers old new c answer result
      → Takes Represents old new
      (λ s s'. LawfulStep s (Asks c) (answer result) s'
      × StopsLeave old new (IsRefusedOrImageOf s'.stops.so_far))
  question_step {old = old} {new = new} {c = c} {answer = answer} {result = result} h = λ s represents.
      let went = h.step s represents in
      record {
        next = went.next;
        represents = went.represents;
        so = (
          went.so,
          within old new s went.next (Asks c) (answer result) (MayRemain s.stops.now) represents went.so
              (remains_so s.stops.now) (h.stops s represents),
        );
      }

  pub asked_by_question : {T : Type 0} {old new : Store D A m} {c : Command}
      {answer : Result T Refusal → Answer} {result : Result T Refusal} → (c ≡ Check → ⊥)
      → Answers old new c answer result
      → IsAsked old (Asks c) (answer result) new
  asked_by_question {c = c} other h = record {
    step = question_step h;
    reply = h.reply;
    honest = λ honest. h.kept.gate.honest.0 honest;
    checked = λ passed honest. absurd (other (same_command c Check passed.0));
  }

  pub asked_by_check : {old new : Store D A m} {result : Result (Unit {0}) Refusal}
      → Answers old new Check done_answer result
      → (IsHonest (cache_in old) → OnOk result (IsAliveWithSome new))
      → (IsHonest (cache_in old) → IsSettled old
      → OnOk result (BeginsWithSome new (m.moment (device_in new))))
      → IsAsked old (Asks Check) (done_answer result) new
  asked_by_check {new = new} {result = result} h sound begins = record {
    step = question_step h;
    reply = h.reply;
    honest = λ honest. h.kept.gate.honest.0 honest;
    checked = λ passed honest. (
      done_is_ok result (IsAliveWithSome new) passed.1 (sound honest),
      λ settled. done_is_ok result (BeginsWithSome new (m.moment (device_in new))) passed.1
          (begins honest settled),
    );
  }

  -- a reopening may leave its table too
  pub asked_by_reopening : {old new : Store D A m} {result : Result (Unit {0}) Refusal} → LeavesNow old
      → TakesStep old new Reopen (done_answer result) → TakesReply old new Reopen (done_answer result)
      → StaysHonest old new
      → ((s : SessionState) (t : Table) → Represents old s → s.state ≡ Alive t
      → StopsLeave old new (IsRefusedOrImageOf (t ∷ tables_left s.stops.now))) → StaysDead old new result
      → IsAsked old (Asks Reopen) (done_answer result) new
  asked_by_reopening {old = old} {new = new} {result = result} now step reply honest stops dead = record {
    step = by_state now (λ is. (dead is).1) closing step;
    reply = reply;
    honest = honest;
    checked = λ passed honest. absurd (reopen_is_no_check passed.0);
  }
    where
      reopen_is_no_check : Asks Reopen ≡ Asks Check → ⊥
      reopen_is_no_check e = let no : Reopen ≡ Check = same_command Reopen Check e in absurd (cc)

      tables : (s s' : SessionState) (t : Table) → LawfulStep s (Asks Reopen) (done_answer result) s'
          → s.state ≡ Alive t → s'.stops.so_far ≡ t ∷ s.stops.so_far
      tables s s' t step alive =
          ap (λ (x : Stops). x.so_far)
          (subst (λ (state : StoreState). s'.stops ≡ after_request state s.stops (Asks Reopen)
          (done_answer result)) alive step.stops)

      closing : (s s' : SessionState) (t : Table) → Represents old s
          → LawfulStep s (Asks Reopen) (done_answer result) s' → s.state ≡ Alive t
          → StopsLeave old new (IsRefusedOrImageOf s'.stops.so_far)
      closing s s' t represents step alive =
          subst (λ (ts : List Table). StopsLeave old new (IsRefusedOrImageOf ts))
          (sym (tables s s' t step alive))
          (leaves_weaker m.moment m.left_since m.recovery (device_in old) (device_in new)
          (IsRefusedOrImageOf (t ∷ tables_left s.stops.now)) (IsRefusedOrImageOf (t ∷ s.stops.so_far))
          (λ c p. left_among (t ∷ tables_left s.stops.now) (t ∷ s.stops.so_far) c
          (either_among t (tables_left s.stops.now) s.stops.so_far
          (what_is_kept old s represents).leaves.among) p)
          (stops s t represents alive))

  -- what makes no call of the store
  asked_still : (store : Store D A m) (r : Request) (a : Answer) → LeavesNow store → (IsPassedCheck r a → ⊥)
      → Takes Represents store store (λ s s'. LawfulStep s r a s')
      → Takes StandsAs store store (λ s s'. LawfulReply s r a s')
      → IsAsked store r a store
  asked_still store r a now other step reply = record {
    step = λ s represents.
        let went = step s represents in
        record {
          next = went.next;
          represents = went.represents;
          so = (
            went.so,
            within store store s went.next r a (MayRemain s.stops.now) represents went.so
                (remains_so s.stops.now) (still store s now represents),
          );
        };
    reply = reply;
    honest = λ honest. honest;
    checked = λ passed honest. absurd (other passed);
  }

  pub asked_badly : (store : Store D A m) (a : Answer) → LeavesNow store → a ≡ Refused refusal.BadLine
      → IsAsked store BadCommand a store
  asked_badly store a now is =
      asked_still store BadCommand a now (λ passed. bad_is_no_check passed.0)
      (λ s represents.
      record {
        next = s;
        represents = represents;
        so = subst (λ (x : Answer). LawfulStep s BadCommand x s) (sym is) (a_bad_line_is_lawful s);
      })
      (λ s stands.
      record {
        next = s;
        represents = stands;
        so = subst (λ (x : Answer). LawfulReply s BadCommand x s) (sym is) (a_bad_line_is_a_lawful_reply s);
      })

  -- a command for which memory was wanting
  pub asked_in_want : {old new : Store D A m} (c : Command) (r : Refusal) → LeavesNow old → new ≡ old
      → TakesStep old new c (Refused r) → TakesReply old new c (Refused r)
      → IsAsked old (Asks c) (Refused r) new
  asked_in_want {old = old} c r now same step reply =
      subst (λ (x : Store D A m). IsAsked old (Asks c) (Refused r) x) (sym same)
      (asked_still old (Asks c) (Refused r) now (λ passed. refused_is_not_done passed.1)
      (subst (λ (x : Store D A m). TakesStep old x c (Refused r)) same step)
      (subst (λ (x : Store D A m). TakesReply old x c (Refused r)) same reply))
    where
      refused_is_not_done : Refused r ≡ Done → ⊥
      refused_is_not_done e = cc

  -- ---- calls in turn

  -- They are a session from each state that the store was in, and a stop within them leaves blocks that
  -- opening refuses, or an image of one of the tables so far.
  pub calls_are_a_session : ((store : Store D A m) → LeavesNow store)
      → (old new : Store D A m) (rs : List Request) (as' : List Answer) → Calls old new rs as'
      → Takes Represents old new
      (λ s s'. Session s rs as' s' × StopsLeave old new (IsRefusedOrImageOf s'.stops.so_far))
  calls_are_a_session now old new [] [] same = λ s represents. record {
    next = s;
    represents = subst (λ (x : Store D A m). Represents x s) (sym same) represents;
    so = (
      refl,
      subst (λ (x : Store D A m). StopsLeave old x (IsRefusedOrImageOf s.stops.so_far)) (sym same)
          (leaves_weaker m.moment m.left_since m.recovery (device_in old) (device_in old)
          (MayRemain s.stops.now) (IsRefusedOrImageOf s.stops.so_far)
          (λ c p. left_among (tables_left s.stops.now) s.stops.so_far c
          (what_is_kept old s represents).leaves.among (remains_so s.stops.now c p))
          (still old s (now old) represents)),
    );
  }
  calls_are_a_session now old new (r ∷ rs) (a ∷ as') calls = λ s represents.
      let mid = calls.0 in
      let one = calls.1.step s represents in
      let rest = calls_are_a_session now mid new rs as' calls.2 one.next one.represents in
      let more = IsRefusedOrImageOf rest.next.stops.so_far in
      record {
        next = rest.next;
        represents = rest.represents;
        so = (
          (one.next, one.so.0, rest.so.0),
          leaves_then m.moment m.left_since m.recovery (device_in old) (device_in mid) (device_in new) more
              (leaves_weaker m.moment m.left_since m.recovery (device_in old) (device_in mid)
              (IsRefusedOrImageOf one.next.stops.so_far) more
              (λ c p. left_among one.next.stops.so_far rest.next.stops.so_far c
              (a_session_keeps_its_tables one.next rest.next rs as' rest.so.0) p) one.so.1)
              rest.so.1,
        );
      }
  calls_are_a_session now old new [] (a ∷ as') calls = elim calls [ ]
  calls_are_a_session now old new (r ∷ rs) [] calls = elim calls [ ]

  -- and lawful, whatever stops leave
  pub calls_are_lawful : (old new : Store D A m) (rs : List Request) (as' : List Answer)
      → Calls old new rs as' → Takes StandsAs old new (λ s s'. LawfulReplies s rs as' s')
  calls_are_lawful old new [] [] same =
      λ s stands.
      record { next = s; represents = subst (λ (x : Store D A m). StandsAs x s) (sym same) stands; so = refl }
  calls_are_lawful old new (r ∷ rs) (a ∷ as') calls = λ s stands.
      let one = calls.1.reply s stands in
      let rest = calls_are_lawful calls.0 new rs as' calls.2 one.next one.represents in
      record { next = rest.next; represents = rest.represents; so = (one.next, one.so, rest.so) }
  calls_are_lawful old new [] (a ∷ as') calls = elim calls [ ]
  calls_are_lawful old new (r ∷ rs) [] calls = elim calls [ ]

  -- those after a check that was answered ok
  lawful_from : (mid new : Store D A m) (rs : List Request) (as' : List Answer) → IsHonest (cache_in mid)
      → IsAliveWithSome mid → Calls mid new rs as' → LawfulTo (StandsAs new) rs as'
  lawful_from mid new rs as' honest alive calls =
      let old : Standing = record { state = Alive alive.0; faults = m.faults (device_in mid) } in
      let went =
      calls_are_lawful mid new rs as' calls old
      (record { state = alive.1; honest = honest; faults = refl }) in
      record {
        table = alive.0;
        old = old;
        new = went.next;
        begins = refl;
        lawful = went.so;
        ends = went.represents;
      }

  pub calls_once_checked : (old new : Store D A m) (rs : List Request) (as' : List Answer)
      → IsHonest (cache_in old) → Calls old new rs as' → LawfulOnceChecked (StandsAs new) rs as'
  calls_once_checked old new [] [] honest same = tt
  calls_once_checked old new (r ∷ rs) (a ∷ as') honest calls =
      let then = calls.1.honest honest in (
        λ passed. lawful_from calls.0 new rs as' then (calls.1.checked passed honest).0 calls.2,
        calls_once_checked calls.0 new rs as' then calls.2,
      )
  calls_once_checked old new [] (a ∷ as') honest calls = elim calls [ ]
  calls_once_checked old new (r ∷ rs) [] honest calls = elim calls [ ]

  pub calls_stay_honest : (old new : Store D A m) (rs : List Request) (as' : List Answer)
      → Calls old new rs as' → StaysHonest old new
  calls_stay_honest old new [] [] same =
      λ honest. subst (λ (x : Store D A m). IsHonest (cache_in x)) (sym same) honest
  calls_stay_honest old new (r ∷ rs) (a ∷ as') calls =
      λ honest. calls_stay_honest calls.0 new rs as' calls.2 (calls.1.honest honest)
  calls_stay_honest old new [] (a ∷ as') calls = elim calls [ ]
  calls_stay_honest old new (r ∷ rs) [] calls = elim calls [ ]
