-- What a call makes of the notes of a journaled device, and of what a stop leaves of it.
use Rattle.std.proofs.Common.{◌≡◌, ◌∙◌, ◌-◌, ◌+◌, ◌<◌, ◌≤◌, ℕ, Bool, true, false, nat_lt, if◌then◌else◌, List}
use Rattle.std.proofs.Common.{[], ◌∷◌, length, take, set, Option, Some, None, Result, Ok, Err, IsErr, OnOk, OnErr}
use Rattle.std.proofs.Common.{refl, sym, ap, subst, arith, inl, inr, ⊎_elim}
use Rattle.std.specs.List.{All}
use Rattle.std.proofs.lemmas.Bool.{ltb-true, ltb-false}
use Rattle.std.proofs.lemmas.List.{set-get_or, set-set, take_at}
use Rattle.std.proofs.lemmas.List.Elements.{All-push}
use Rattle.block_device.specs.Device.{Begins, Blocks, Brings, Elapses, Follows, IsBlock, OrTaken, Torn}
use Rattle.block_device.specs.Device.{block_at, written}
use Rattle.block_device.specs.History.{Event, IsHistory, IsThere, LeftSince, MayLeave, at_sync, before}
use Rattle.block_device.specs.History.{undone, unsynced}
use Rattle.block_device.specs.Outcomes.{set_blocks, shown_left, sync_le}
use Rattle.block_device.specs.Stop.{IsOutcome}
use Rattle.block_device.specs.Written.{length-written_behind, push_written, set_written}
use Rattle.block_device.specs.declared.device.DeviceError.{DeviceError}
use Rattle.block_device.proofs.Stops.{elapses_more, only_shown, outcome_before}
use Rattle.page_file.specs.Opening.{failed_check}
use Rattle.logged_pair.specs.Commits.{CommitsNoMore, OrOpened}
use Rattle.journaled_device.specs.EventLaws.{back_le, fall_more, length-moments, until_le, until_new}
use Rattle.journaled_device.specs.Events.{IsNoted, event, events, events_until, moments}
use Rattle.journaled_device.specs.Journaled.{HasSynced, HasWritten, events_of, inner_of, left_since_of}
use Rattle.journaled_device.specs.Journaled.{may_leave_of, moment_of, pair_moment_of, pair_of, recovery_of}
use Rattle.logged_pair.specs.Standing.{KeepsTo, commits_of, shown_of}
use Rattle.logged_pair.specs.Standing as logged
use Rattle.logged_pair.specs.Shown.{within_written}
use Rattle.logged_pair.specs.declared.pair.LoggedPair.{LoggedPair}
use Rattle.journaled_device.specs.declared.device.JournaledDevice.{JournaledDevice}

abbrev Answer : Type 0
Answer = Result (Unit {0}) DeviceError

-- the time that passes without an event, and with one
time_still : (b b' : Blocks) (es es' : List Event) (ts ts' : List ℕ) (now now' : ℕ) → b' ≡ b → es' ≡ es
    → ts' ≡ ts → now ≤ now'
    → Elapses (now + length ts) (now' + length ts') (λ t c. LeftSince b es (events_until ts t) c)
    (λ t c. LeftSince b' es' (events_until ts' t) c) (MayLeave b' es')
time_still b b' es es' ts ts' now now' eb ee et le =
    rw (eb, ee, et)
    record { later = omega (arith, le); nothing_else = λ t c at left. inl left; keeps = λ t c at left. left }

time_event : (b b' : Blocks) (es es' : List Event) (ts ts' : List ℕ) (now now' : ℕ) (e : Event)
    → es' ≡ e ∷ es → ts' ≡ now ∷ ts → length ts ≡ length es → before e b' ≡ b → now ≤ now'
    → Elapses (now + length ts) (now' + length ts') (λ t c. LeftSince b es (events_until ts t) c)
    (λ t c. LeftSince b' es' (events_until ts' t) c) (MayLeave b' es')
time_event b b' es es' ts ts' now now' e ee et size back le =
    let more = elapses_more b b' es e back in
    rw (ee, et) record {
      later = omega (arith, le);
      nothing_else =
          λ t c at left. more.nothing_else (events_until ts t) c (omega (arith, until_le ts t, size))
          (subst (λ (n : ℕ). LeftSince b' (e ∷ es) n c) (until_new now ts t at) left);
      keeps = λ t c at left. subst (λ (n : ℕ). LeftSince b' (e ∷ es) n c) (sym (until_new now ts t at))
          (more.keeps (events_until ts t) c (omega (arith, until_le ts t, size)) left);
    }

-- what a write leaves, done or refused: some bytes in the block, or nothing where it was to be appended
module _ (i : ℕ) (bytes : List ℕ) (old new : Blocks) (at_most : i ≤ length old)
    (sized : All IsBlock old) where
  same_bytes : i < length old → written i (block_at i old) old ≡ old
  same_bytes lt = sym (set_written i (block_at i old) old lt) ∙ set-get_or old i []

  pub is_written : (r : Answer) → IsBlock bytes → i < length new → OnOk r (new ≡ written i bytes old)
      → OnErr r (Torn i old new) → (b : List ℕ) × IsBlock b × (new ≡ written i b old)
  is_written (Ok u) block lt done torn = (bytes, block, done)
  is_written (Err e) block lt done torn = ⊎_elim
      (λ (same : new ≡ old).
      let there : i < length old = omega (arith, lt, ap length same) in
      (block_at i old, sized i [] there, same ∙ sym (same_bytes there)))
      (λ w. w)
      torn

  pub is_same : (r : Answer) → length new ≤ i → OnOk r (new ≡ written i bytes old) → OnErr r (Torn i old new)
      → new ≡ old
  is_same (Ok u) le done torn = absurd (omega (arith, le, ap length done, within_written i bytes old at_most))
  is_same (Err e) le done torn =
      ⊎_elim (λ same. same)
      (λ w. absurd (omega (arith, le, ap length w.2, within_written i w.0 old at_most))) torn

-- bytes written, as an event
module _ (i : ℕ) (b : List ℕ) (old : Blocks) (at_most : i ≤ length old) (sized : All IsBlock old)
    (block : IsBlock b) where
  abbrev held : Bool → Option (List ℕ)
  held t = if t then Some (block_at i old) else None

  back_at : (t : Bool) → nat_lt i (length old) ≡ t → undone i (held t) (written i b old) ≡ old
  back_at true lt =
      ap (λ (c : Blocks). set c i (block_at i old)) (sym (set_written i b old (ltb-true i (length old) lt)))
      ∙ set-set old i b (block_at i old)
      ∙ set-get_or old i []
  back_at false le =
      let last : length old ≡ i = omega (arith, at_most, ltb-false i (length old) le) in
      ap (take i) (sym (push_written i b old (omega (arith, last)))) ∙ take_at old (b ∷ []) i last

  there_at : (t : Bool) → nat_lt i (length old) ≡ t → IsThere i (held t) (written i b old)
  there_at true lt = (within_written i b old at_most, sized i [] (ltb-true i (length old) lt))
  there_at false le =
      omega (
        arith,
        at_most,
        ltb-false i (length old) le,
        length-written_behind i b old (ltb-false i (length old) le),
      )

  blocks_at : (t : Bool) → nat_lt i (length old) ≡ t → All IsBlock (written i b old)
  blocks_at true lt =
      subst (All IsBlock) (set_written i b old (ltb-true i (length old) lt)) (set_blocks i b old block sized)
  blocks_at false le =
      subst (All IsBlock) (push_written i b old (ltb-false i (length old) le))
      (All-push IsBlock old b sized block)

  pub undoes : before (event old (Some i)) (written i b old) ≡ old
  undoes = back_at (nat_lt i (length old)) refl

  pub all_blocks : All IsBlock (written i b old)
  all_blocks = blocks_at (nat_lt i (length old)) refl

  pub leads_on : (es : List Event) → IsHistory old es → IsHistory (written i b old) (event old (Some i) ∷ es)
  leads_on es h =
      (there_at (nat_lt i (length old)) refl, subst (λ (c : Blocks). IsHistory c es) (sym undoes) h)

  pub follows_on : (es : List Event) → IsHistory old es
      → Follows (Torn i) (MayLeave old es) (MayLeave (written i b old) (event old (Some i) ∷ es))
  follows_on es h c now =
      let same : at_sync (written i b old) (event old (Some i) ∷ es) ≡ at_sync old es =
      ap (λ (x : Blocks). at_sync x es) undoes in
      outcome_before old (at_sync old es) (unsynced es) i b at_most (sync_le old es h) sized c
      (subst (λ (x : Blocks). IsOutcome (written i b old) x (i ∷ unsynced es) c) same now)

-- What stands of no notes.
pub noted_new : {P A : Type 0} {m : _} (p : LoggedPair P A m) (ns : List (LoggedPair P A m × Option ℕ))
    → ns ≡ [] → All IsBlock (shown_of p) → ((k : Blocks) → commits_of p k → k ≡ shown_of p) → IsNoted p ns
noted_new p ns e whole one =
    rw e record { whole = whole; leads = tt; falls = tt; durable = λ none taken. one }

-- where there are none, a stop of a plain disk leaves what is read
pub only_new : {P A : Type 0} {m : _} (blocks : Blocks) (ns : List (LoggedPair P A m × Option ℕ))
    (c : Blocks) → ns ≡ [] → MayLeave blocks (events ns) c → c ≡ blocks
only_new {P} {A} {m} blocks ns c e left =
    only_shown blocks [] c
    (subst (λ (es : List (LoggedPair P A m × Option ℕ)). MayLeave blocks (events es) c) e left)

-- What stands of the notes after a call.
module _ {P A : Type 0} {m : _} (p p' : LoggedPair P A m) (ns : List (LoggedPair P A m × Option ℕ))
    (n : IsNoted p ns) (later : m.moment (logged.pair_of p) ≤ m.moment (logged.pair_of p')) where
  pub noted_same : shown_of p' ≡ shown_of p
      → CommitsNoMore (OrOpened (commits_of p) (shown_of p)) (commits_of p') → IsNoted p' ns
  noted_same e more = record {
    whole = subst (All IsBlock) (sym e) n.whole;
    leads = subst (λ (b : Blocks). IsHistory b (events ns)) (sym e) n.leads;
    falls = fall_more (m.moment (logged.pair_of p)) (m.moment (logged.pair_of p')) (moments ns) later n.falls;
    durable =
        λ none taken k is. ⊎_elim (λ was. n.durable none (ap failed_check (sym e) ∙ taken) k was)
        (λ new. new.1) (more k is) ∙ sym e;
  }

  pub noted_written : (ns' : List (LoggedPair P A m × Option ℕ)) (i : ℕ) (b : List ℕ)
      → ns' ≡ (p, Some i) ∷ ns → i ≤ length (shown_of p) → IsBlock b → shown_of p' ≡ written i b (shown_of p)
      → IsNoted p' ns'
  noted_written ns' i b ens le block e = rw ens record {
    whole = subst (All IsBlock) (sym e) (all_blocks i b (shown_of p) le n.whole block);
    leads = subst (λ (c : Blocks). IsHistory c (event (shown_of p) (Some i) ∷ events ns)) (sym e)
        (leads_on i b (shown_of p) le n.whole block (events ns) n.leads);
    falls = (later, n.falls);
    durable = λ none taken k is. absurd (cc);
  }

  pub noted_synced : (ns' : List (LoggedPair P A m × Option ℕ)) → ns' ≡ (p, None) ∷ ns
      → shown_of p' ≡ shown_of p
      → (failed_check (shown_of p) ≡ None → (k : Blocks) → commits_of p' k → k ≡ shown_of p) → IsNoted p' ns'
  noted_synced ns' ens e durable = rw ens record {
    whole = subst (All IsBlock) (sym e) n.whole;
    leads = subst (λ (b : Blocks). IsHistory b (events ns)) (sym e) n.leads;
    falls = (later, n.falls);
    durable = λ none taken k is. durable (ap failed_check (sym e) ∙ taken) k is ∙ sym e;
  }

never_ok : (r : Answer) (P : Type 0) → IsErr r → OnOk r P
never_ok (Ok u) P is = absurd (cc)
never_ok (Err x) P is = tt

-- What a call brings.
module _ {P A G : Type 0} {m : _} (old new : JournaledDevice P A G m)
    (n : IsNoted (inner_of old) old.past.taken) where
  brings_by : (C : Blocks → Type 0) (Q : Blocks → Type 0)
      → ((t : ℕ) → t ≤ moment_of old → pair_moment_of new t ≡ pair_moment_of old t)
      → KeepsTo C (inner_of old) (inner_of new)
      → ((k : Blocks) → C k → OrTaken recovery_of old Q k) → Brings moment_of recovery_of old new Q
  brings_by C Q same keeps so = record {
    commits = λ k is. so k (keeps.now k is);
    found = λ t c le left. ⊎_elim
        (λ was. inl (left.0, left.1, was, left.3))
        (λ one. inr (one.0, so one.0 one.1, subst (Begins one.0) (sym left.3) one.2))
        (keeps.stops.before (pair_moment_of old t) left.0 left.1
        (back_le (m.moment (pair_of old)) (moments old.past.taken) t n.falls le)
        (subst (λ (u : ℕ). m.left_since (pair_of new) u left.0 left.1) (same t le) left.2));
  }

  -- without an event
  pub brings_same : (C : Blocks → Type 0) (Q : Blocks → Type 0) → new.past.taken ≡ old.past.taken
      → KeepsTo C (inner_of old) (inner_of new) → ((k : Blocks) → C k → OrTaken recovery_of old Q k)
      → Brings moment_of recovery_of old new Q
  brings_same C Q e keeps so =
      brings_by C Q
      (λ t le. ap (λ (ns : List (LoggedPair P A m × Option ℕ)). t - events_until (moments ns) t) e) keeps
      so

  -- and with one
  pub brings_event : (C : Blocks → Type 0) (Q : Blocks → Type 0) (x : Option ℕ)
      → new.past.taken ≡ (inner_of old, x) ∷ old.past.taken → KeepsTo C (inner_of old) (inner_of new)
      → ((k : Blocks) → C k → OrTaken recovery_of old Q k) → Brings moment_of recovery_of old new Q
  brings_event C Q x e keeps so =
      brings_by C Q
      (λ t le. ap (λ (ns : List (LoggedPair P A m × Option ℕ)). t - events_until (moments ns) t) e
      ∙ ap (λ (k : ℕ). t - k) (until_new (m.moment (pair_of old)) (moments old.past.taken) t le)) keeps so

  still_time : new.past.taken ≡ old.past.taken → shown_of (inner_of new) ≡ shown_of (inner_of old)
      → m.moment (pair_of old) ≤ m.moment (pair_of new)
      → Elapses (moment_of old) (moment_of new) (left_since_of old) (left_since_of new) (may_leave_of new)
  still_time e same le =
      time_still (shown_of (inner_of old)) (shown_of (inner_of new)) (events_of old) (events_of new)
      (moments old.past.taken) (moments new.past.taken) (m.moment (pair_of old)) (m.moment (pair_of new))
      same (ap events e) (ap moments e) le

  event_time : (x : Option ℕ) → new.past.taken ≡ (inner_of old, x) ∷ old.past.taken
      → before (event (shown_of (inner_of old)) x) (shown_of (inner_of new)) ≡ shown_of (inner_of old)
      → m.moment (pair_of old) ≤ m.moment (pair_of new)
      → Elapses (moment_of old) (moment_of new) (left_since_of old) (left_since_of new) (may_leave_of new)
  event_time x e back le =
      time_event (shown_of (inner_of old)) (shown_of (inner_of new)) (events_of old) (events_of new)
      (moments old.past.taken) (moments new.past.taken) (m.moment (pair_of old)) (m.moment (pair_of new))
      (event (shown_of (inner_of old)) x)
      (ap events e) (ap moments e) (length-moments old.past.taken) back le

  -- what is left where nothing was written
  left_same : new.past.taken ≡ old.past.taken → shown_of (inner_of new) ≡ shown_of (inner_of old)
      → (c : Blocks) → may_leave_of new c → may_leave_of old c
  left_same e same c now =
      subst (λ (es : List Event). MayLeave (shown_of (inner_of old)) es c) (ap events e)
      (subst (λ (b : Blocks). MayLeave b (events_of new) c) same now)

  kept_commits : (Q : Blocks → Type 0) (k : Blocks) → commits_of (inner_of old) k
      → OrTaken recovery_of old Q k
  kept_commits Q k was = inl was

  -- an append that was refused, and all other writes
  pub refused_write : (i : ℕ) (bytes : List ℕ) (r : Answer) → new.past.taken ≡ old.past.taken
      → i ≤ length (shown_of (inner_of old)) → length (shown_of (inner_of new)) ≤ i
      → OnOk r (shown_of (inner_of new) ≡ written i bytes (shown_of (inner_of old)))
      → OnErr r (Torn i (shown_of (inner_of old)) (shown_of (inner_of new)))
      → KeepsTo (commits_of (inner_of old)) (inner_of old) (inner_of new) → HasWritten i bytes old r new
  refused_write i bytes r e le short done torn keeps =
      let same =
      is_same i bytes (shown_of (inner_of old)) (shown_of (inner_of new)) le n.whole r short done torn in
      record {
        done = done;
        torn = torn;
        stops = λ c now. (c, left_same e same c now, inl refl);
        time = still_time e same keeps.stops.later;
        brings =
            brings_same (commits_of (inner_of old)) (may_leave_of new) e keeps
            (kept_commits (may_leave_of new));
      }

  pub noted_write : (i : ℕ) (bytes : List ℕ) (r : Answer)
      → new.past.taken ≡ (inner_of old, Some i) ∷ old.past.taken → IsBlock bytes
      → i ≤ length (shown_of (inner_of old)) → i < length (shown_of (inner_of new))
      → OnOk r (shown_of (inner_of new) ≡ written i bytes (shown_of (inner_of old)))
      → OnErr r (Torn i (shown_of (inner_of old)) (shown_of (inner_of new)))
      → KeepsTo (commits_of (inner_of old)) (inner_of old) (inner_of new) → HasWritten i bytes old r new
  noted_write i bytes r e block le lt done torn keeps =
      let b = shown_of (inner_of old) in
      let w = is_written i bytes b (shown_of (inner_of new)) le n.whole r block lt done torn in
      record {
        done = done;
        torn = torn;
        stops = λ c now. follows_on i w.0 b le n.whole w.1 (events_of old) n.leads c
            (subst (λ (x : Blocks). MayLeave x (event b (Some i) ∷ events_of old) c) w.2
            (subst (λ (es : List Event). MayLeave (shown_of (inner_of new)) es c) (ap events e) now));
        time = event_time (Some i) e (ap (before (event b (Some i))) w.2 ∙ undoes i w.0 b le n.whole w.1)
            keeps.stops.later;
        brings =
            brings_event (commits_of (inner_of old)) (may_leave_of new) (Some i) e keeps
            (kept_commits (may_leave_of new));
      }

  -- a commit that was there, or one of what is read
  opened_commits : IsNoted (inner_of new) new.past.taken → shown_of (inner_of new) ≡ shown_of (inner_of old)
      → (k : Blocks) → OrOpened (commits_of (inner_of old)) (shown_of (inner_of old)) k
      → OrTaken recovery_of old (may_leave_of new) k
  opened_commits n' same k one = ⊎_elim
      (λ was. inl was)
      (λ new'. inr (
        ap failed_check new'.1 ∙ new'.0,
        subst (may_leave_of new) (same ∙ sym new'.1)
            (shown_left (shown_of (inner_of new)) (events_of new) n'.whole n'.leads),
      ))
      one

  -- a sync that was refused, and one that was done
  pub refused_sync : (r : Answer) → IsErr r → IsNoted (inner_of new) new.past.taken
      → new.past.taken ≡ old.past.taken → shown_of (inner_of new) ≡ shown_of (inner_of old)
      → KeepsTo (OrOpened (commits_of (inner_of old)) (shown_of (inner_of old))) (inner_of old)
      (inner_of new) → HasSynced old r new
  refused_sync r is n' e same keeps = record {
    durable = never_ok r ((c : Blocks) → may_leave_of new c → c ≡ shown_of (inner_of old)) is;
    shown = same;
    stops = left_same e same;
    time = still_time e same keeps.stops.later;
    brings =
        brings_same (OrOpened (commits_of (inner_of old)) (shown_of (inner_of old))) (may_leave_of new) e
        keeps (opened_commits n' same);
  }

  pub noted_sync : IsNoted (inner_of new) new.past.taken
      → new.past.taken ≡ (inner_of old, None) ∷ old.past.taken
      → shown_of (inner_of new) ≡ shown_of (inner_of old)
      → KeepsTo (OrOpened (commits_of (inner_of old)) (shown_of (inner_of old))) (inner_of old)
      (inner_of new) → HasSynced old (Ok tt) new
  noted_sync n' e same keeps =
      let only : (c : Blocks) → may_leave_of new c → c ≡ shown_of (inner_of old) = λ c now.
      only_shown (shown_of (inner_of new)) (events_of old) c
      (subst (λ (es : List Event). MayLeave (shown_of (inner_of new)) es c) (ap events e) now) ∙ same in
      record {
        durable = only;
        shown = same;
        stops = λ c now. subst (may_leave_of old) (sym (only c now))
            (shown_left (shown_of (inner_of old)) (events_of old) n.whole n.leads);
        time = event_time None e same keeps.stops.later;
        brings =
            brings_event (OrOpened (commits_of (inner_of old)) (shown_of (inner_of old))) (may_leave_of new)
            None e keeps (opened_commits n' same);
      }
