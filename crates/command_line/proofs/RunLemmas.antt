-- A run over a store, strict or not.
use Rattle.std.proofs.Common.{◌≡◌, ◌∙◌, ◌⊎◌, ◌≤◌, ◌==◌, ap, ℕ, Bool, true, false, List, Option, refl, sym, subst}
use Rattle.std.proofs.Common.{inl, inr, arith}
use Rattle.std.proofs.lemmas.Bool.{true≢false}
use Rattle.std.specs.Io.KnownBytes.{Keeps}
use Rattle.block_device.specs.Device.{Only}
use Rattle.block_device.specs.declared.device.BlockDevice as device
use Rattle.layer_store.proofs.SessionLemmas.{once_checked_so}
use Rattle.plain_table.specs.Step.{Answer}
use Rattle.store_law.specs.Sessions.{SessionState}
use Rattle.store_law.specs.States.{Request}
use Rattle.command_shell.proofs.RunLemmas.{strict_so}
use Rattle.command_shell.proofs.SessionLemmas.{runs_so}
use Rattle.command_shell.specs.Runs.{ChecksToClose, FoundSince, LeavesTablesOf, RunsToClose, TellsEnd}
use Rattle.command_shell.specs.Serving.{IsSession, run_state}
use Rattle.command_shell.specs.Strict.{RunsToSettle, TellsOutcome}
use Rattle.command_shell.specs.declared.session.LinesEnd.{LinesEnd}
use Rattle.command_shell.specs.declared.strict.Outcome.{Outcome}
use Rattle.command_shell.specs.declared.strict.Outcome.TheVariants.{WentWell, StoppedAtLine, Failed, Unclosed}
use Rattle.command_line.specs.Running.{Answers, Runs, RunsOver, status_of_outcome}
use Rattle.command_line.specs.Streams.{Streams}
use Rattle.command_line.specs.declared.serving.Served.{Served}

-- what follows of the requests and the answers
pub answers_so : {R W : Type 0} (strict : Bool) (So Also : List Request → List Answer → Type 0)
    → ((rs : List Request) (as' : List Answer) → So rs as' → Also rs as') → (before after : Streams R W)
    (status : ℕ) → Answers strict So before after status → Answers strict Also before after status
unfolding Answers
answers_so false So Also f before after status h = record {
  end = h.end;
  runs = runs_so _ _ (λ text rs xs so. f rs xs so) h.end _ _ _ _ h.runs;
  well = h.well;
}
answers_so true So Also f before after status h = record {
  outcome = h.outcome;
  status_is = h.status_is;
  end = h.end;
  told = h.told;
  runs = strict_so So Also f h.end _ _ _ _ h.runs;
}

-- a run over a device answers what it read, and the session counts no fault that the device does not count
pub answers_of : {D R W : Type 0} (strict : Bool) (m : device.Ghosts D) (moment : ℕ) (old new : SessionState)
    (before after : Streams R W) (left : Served D) → Runs strict m moment old new before after left
    → Answers strict (IsSession old new) before after left.status
unfolding Answers Runs
answers_of false m moment old new before after left h = record {
  end = h.runs.end;
  runs = h.runs.runs;
  well = λ zero. (h.runs.well (ap (λ (k : ℕ). k == 0) zero)).0;
}
answers_of true m moment old new before after left h = h.answers

pub counted_of : {D R W : Type 0} (strict : Bool) (m : device.Ghosts D) (moment : ℕ) (old new : SessionState)
    (before after : Streams R W) (left : Served D) → Runs strict m moment old new before after left
    → new.faults ≤ m.faults left.device
unfolding Runs
counted_of false m moment old new before after left h = h.runs.counted
counted_of true m moment old new before after left h = h.is_left.counted

-- ---- a run that is not strict

-- what is left of a run that closed its store
pub closed_over : {D R W : Type 0} (m : device.Ghosts D) (Was : SessionState → Type 0) (went_well : Bool)
    (opened : D) (before after : Streams R W) (left : Served D) → (left.status == 0) ≡ went_well
    → ((old : SessionState) → Was old → (new : SessionState)
    × RunsToClose went_well (m.shown left.device) (m.left_since left.device old.stops.since)
    (FoundSince m.recovery left.device old.stops.since) (m.faults left.device)
    (run_state old before.unread before.written) (run_state new after.unread after.written)
    × LeavesTablesOf m.moment m.left_since m.recovery new opened left.device)
    → ((old : SessionState) → Was old → went_well ≡ true → Only (m.shown left.device) (m.may_leave left.device))
    → (m.honest opened
    → ChecksToClose went_well (m.shown left.device) before.unread after.unread before.written after.written)
    → RunsOver false m Was opened before after left
unfolding Answers Runs
closed_over m Was went_well opened before after left is run durable checked = record {
  runs = λ old was. let it = run old was in (
    it.0,
    record {
      runs = subst
          (λ (well : Bool). RunsToClose well (m.shown left.device) (m.left_since left.device old.stops.since)
          (FoundSince m.recovery left.device old.stops.since) (m.faults left.device)
          (run_state old before.unread before.written) (run_state it.0 after.unread after.written)) (sym is) it.1;
      durable = λ zero. durable old was (sym is ∙ ap (λ (k : ℕ). k == 0) zero);
    },
    it.2,
  );
  checked = λ honest. let it =
      subst
      (λ (well : Bool). ChecksToClose well (m.shown left.device) before.unread after.unread before.written
      after.written) (sym is) (checked honest) in
      record { end = it.end; runs = it.runs; well = λ zero. it.well (ap (λ (k : ℕ). k == 0) zero) };
}

-- where it went well nothing was said
pub quiet_end : (well : Bool) (said said' : Option (List ℕ)) → well ≡ true → TellsEnd well said said'
    → Keeps said said'
quiet_end true said said' is told = told
quiet_end false said said' is told = absurd (true≢false (sym is))

-- ---- a strict run

-- its status is 0 only where it went well
well_so : (outcome : Outcome) (status : ℕ) → status ≡ status_of_outcome outcome → (status == 0) ≡ true
    → outcome ≡ WentWell
well_so WentWell status is well = refl
well_so StoppedAtLine status is well = absurd (true≢false (sym well ∙ ap (λ (k : ℕ). k == 0) is))
well_so Failed status is well = absurd (true≢false (sym well ∙ ap (λ (k : ℕ). k == 0) is))
well_so Unclosed status is well = absurd (true≢false (sym well ∙ ap (λ (k : ℕ). k == 0) is))

-- what is left of it
pub settled_over : {D R W : Type 0} (m : device.Ghosts D) (Was : SessionState → Type 0) (outcome : Outcome)
    (opened : D) (before after : Streams R W) (left : Served D) → left.status ≡ status_of_outcome outcome
    → RunsToSettle m Was outcome opened left.device before.unread after.unread before.written after.written
    before.said after.said
    → RunsOver true m Was opened before after left
unfolding Answers Runs
settled_over m Was outcome opened before after left is h = record {
  runs = λ old was. let run = h.run old was in (
    run.0,
    record {
      answers = record { outcome = outcome; status_is = is; end = h.end; told = h.told; runs = run.1 };
      is_left = run.2;
    },
    run.3,
  );
  checked = λ honest. record {
    outcome = outcome;
    status_is = is;
    end = h.end;
    told = h.told;
    runs = strict_so _ _
        (λ rs xs once. once_checked_so _ _ (λ s settles well. settles (well_so outcome left.status is well)) rs xs
        once) h.end _ _ _ _ (h.checked honest);
  };
}

-- where the last flush is known but where it failed, it is with status 0
pub flushed_so : (outcome : Outcome) (status : ℕ) (F : Type 0) → status ≡ status_of_outcome outcome
    → (outcome ≡ Failed) ⊎ F → status ≡ 0 → F
flushed_so outcome status F is (inl failed) zero =
    let one : status ≡ 1 = is ∙ ap status_of_outcome failed in absurd (omega (arith, one, zero))
flushed_so outcome status F is (inr f) zero = f

-- and nothing was said
pub quiet_so : (end : LinesEnd) (outcome : Outcome) (status : ℕ) (said said' : Option (List ℕ))
    → status ≡ status_of_outcome outcome → TellsOutcome end outcome said said' → status ≡ 0
    → Keeps said said'
quiet_so end WentWell status said said' is told zero = told.1
quiet_so end StoppedAtLine status said said' is told zero = absurd (omega (arith, is, zero))
quiet_so end Failed status said said' is told zero = absurd (omega (arith, is, zero))
quiet_so end Unclosed status said said' is told zero = absurd (omega (arith, is, zero))

pub status_is_small : (outcome : Outcome) (status : ℕ) → status ≡ status_of_outcome outcome → status ≤ 3
status_is_small WentWell status is = omega (arith, is)
status_is_small StoppedAtLine status is = omega (arith, is)
status_is_small Failed status is = omega (arith, is)
status_is_small Unclosed status is = omega (arith, is)
