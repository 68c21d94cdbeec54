-- A closing that is finished leaves an image of the session's table.
use Rattle.std.proofs.Common.{◌≡◌, ℕ, Bool, true, false, List, Option, Result, Err, inl}
use Rattle.std.proofs.Common.{inr, refl, sym, subst, arith}
use Rattle.std.proofs.KnownBytes.{Keeps-refl}
use Rattle.store_law.specs.States.{StoreState}
use Rattle.layer_store.specs.Representation.{device_in}
use Rattle.layer_store.proofs.StopLemmas.{found_by_closing, left_by_closing, session_state_is}
use Rattle.layer_store.proofs.StoreLemmas.{no_fewer_faults}
use Rattle.live_layers.specs.Image.{IsRefusedOrImageOf, IsImageOfOne}
use Rattle.layer_store.proofs.SessionLemmas.{once_checked_so}
use Rattle.command_shell.specs.Runs.{TellsEnd, with_last}
use Rattle.command_shell.specs.Serving.{run_state}
use Rattle.reply_texts.specs.Texts.{told_fault}
use Rattle.reply_texts.specs.Writing.{Writes}
use Rattle.command_shell.proofs.CloseLemmas.{closed_in_image, false_is_not_true, found_when_refused}
use Rattle.command_shell.proofs.CloseLemmas.{has_table}
use Rattle.command_shell.proofs.CloseLemmas.{left_when_refused, ok_is_no_refusal, refused_device}
use Rattle.command_shell.proofs.CloseLemmas.{refused_leaves, run_leaves, same_beginning}
use Rattle.command_shell.proofs.SessionLemmas.{runs_kept, runs_so}
use Rattle.reply_texts.proofs.WriteLemmas.{some_written}
use Rattle.command_shell.proofs.program.run_and_close.Goals.{then-not-went_well, else-not-went_well}
use Rattle.command_shell.proofs.program.run_and_close.Goals as goal

pub returns-after-not-went_well-clause-run : goal.returns-after-not-went_well-clause-run
returns-after-not-went_well-clause-run g c = λ s represents.
    let left = c.run-end.ensures.session s represents in
    let closed = c.in-Ok.ensures in
    let of_table =
    has_table c.run-end.new.store left.next left.represents
    (λ failed. ok_is_no_refusal (closed.failed failed)) in (
      left.next,
      record {
        end = c.run-end.result;
        runs = runs_kept _ c.run-end.result (g.R.Read.remaining c.args.input.now)
            (g.R.Read.remaining c.run-end.new.input) (g.W.Write.contents c.args.output.now)
            (g.W.Write.contents c.run-end.new.output) (g.W.Write.contents c.flush_out-flushed.new.self)
            left.so.0 c.flush_out-flushed.ensures.bytes;
        well = λ well. (
          (c.is_whole-went_well.ensures well).0,
          of_table.table,
          of_table.alive,
          closed.closed of_table.table of_table.state,
        );
        stops = λ b stop.
            let since =
            same_beginning c.run-end.result
            (run_state s (g.R.Read.remaining c.args.input.now) (g.W.Write.contents c.args.output.now))
            (run_state left.next (g.R.Read.remaining c.run-end.new.input)
            (g.W.Write.contents c.run-end.new.output)) left.so.0 in
            let tables = left.next.stops.so_far in
            subst (λ (state : StoreState). IsRefusedOrImageOf (with_last state tables) b) (sym of_table.alive)
            (left_by_closing c.run-end.new.store left.next of_table.table c.in-Ok.device left.represents
            (closed.stops left.next of_table.table left.represents of_table.alive) b
            (subst (λ k. g.D.BlockDevice.left_since c.in-Ok.device k b) (sym since) stop));
        kept = λ b found.
            let since =
            same_beginning c.run-end.result
            (run_state s (g.R.Read.remaining c.args.input.now) (g.W.Write.contents c.args.output.now))
            (run_state left.next (g.R.Read.remaining c.run-end.new.input)
            (g.W.Write.contents c.run-end.new.output)) left.so.0 in
            let tables = left.next.stops.kept_so_far in
            subst (λ (state : StoreState). IsImageOfOne (with_last state tables) b) (sym of_table.alive)
            (found_by_closing c.run-end.new.store left.next of_table.table c.in-Ok.device left.represents
            (closed.stops left.next of_table.table left.represents of_table.alive) found.0 b
            (subst (λ k. g.D.BlockDevice.recovery.found_since c.in-Ok.device k b) (sym since) found.1));
        counted = let of_store = (session_state_is c.run-end.new.store left.next left.represents).faults in
            let kept = closed.no_fault in omega (arith, of_store, kept);
      },
      run_leaves (device_in c.args.store) c.run-end.new.store left.next of_table.table c.in-Ok.device left.represents
          of_table.alive left.so.1 (closed.stops left.next of_table.table left.represents of_table.alive),
    )

pub returns-after-not-went_well-clause-checked : goal.returns-after-not-went_well-clause-checked
returns-after-not-went_well-clause-checked g c = λ honest.
    let closed = c.in-Ok.ensures in
    let store = c.run-end.new.store in
    record {
      end = c.run-end.result;
      runs = runs_kept _ c.run-end.result (g.R.Read.remaining c.args.input.now)
          (g.R.Read.remaining c.run-end.new.input) (g.W.Write.contents c.args.output.now)
          (g.W.Write.contents c.run-end.new.output) (g.W.Write.contents c.flush_out-flushed.new.self)
          (runs_so _ _
          (λ text rs xs once. once_checked_so _ _
          (λ s stands well. closed_in_image store (g.D.BlockDevice.shown c.in-Ok.device)
          closed.closed (λ dead. ok_is_no_refusal (closed.dead dead)) s stands) rs xs once) c.run-end.result
          (g.R.Read.remaining c.args.input.now) (g.R.Read.remaining c.run-end.new.input)
          (g.W.Write.contents c.args.output.now) (g.W.Write.contents c.run-end.new.output)
          (c.run-end.ensures.checked honest)) c.flush_out-flushed.ensures.bytes;
      well = λ well. (c.is_whole-went_well.ensures well).0;
    }

pub returns-after-not-went_well-clause-durable : goal.returns-after-not-went_well-clause-durable
returns-after-not-went_well-clause-durable g c = λ s represents well.
    let left = c.run-end.ensures.session s represents in
    let closed = c.in-Ok.ensures in
    let of_table =
    has_table c.run-end.new.store left.next left.represents
    (λ failed. ok_is_no_refusal (closed.failed failed)) in
    closed.durable of_table.table of_table.state

pub returns-in-Err-clause-run : goal.returns-in-Err-clause-run
returns-in-Err-clause-run g c = λ s represents.
    let left = c.run-end.ensures.session s represents in (
      left.next,
      record {
        end = c.run-end.result;
        runs = runs_kept _ c.run-end.result (g.R.Read.remaining c.args.input.now)
            (g.R.Read.remaining c.run-end.new.input) (g.W.Write.contents c.args.output.now)
            (g.W.Write.contents c.run-end.new.output) (g.W.Write.contents c.flush_out-flushed.new.self)
            left.so.0 c.flush_out-flushed.ensures.bytes;
        well = λ well. absurd (false_is_not_true well);
        stops = λ b stop.
            let since =
            same_beginning c.run-end.result
            (run_state s (g.R.Read.remaining c.args.input.now) (g.W.Write.contents c.args.output.now))
            (run_state left.next (g.R.Read.remaining c.run-end.new.input)
            (g.W.Write.contents c.run-end.new.output)) left.so.0 in
            let told = subst (λ k. g.D.BlockDevice.left_since c.in-Err.device k b) (sym since) stop in
            left_when_refused c.run-end.new.store left.next c.in-Err.device left.represents
            (λ t alive. c.in-Err.ensures.refused_stops left.next t left.represents alive)
            (λ failed. refused_device _ _ _ _ _ _ refl refl (c.in-Err.ensures.failed failed)) left.next.state
            refl b told;
        kept = λ b found.
            let since =
            same_beginning c.run-end.result
            (run_state s (g.R.Read.remaining c.args.input.now) (g.W.Write.contents c.args.output.now))
            (run_state left.next (g.R.Read.remaining c.run-end.new.input)
            (g.W.Write.contents c.run-end.new.output)) left.so.0 in
            found_when_refused c.run-end.new.store left.next c.in-Err.device left.represents
            (λ t alive. c.in-Err.ensures.refused_stops left.next t left.represents alive)
            (λ failed. refused_device _ _ _ _ _ _ refl refl (c.in-Err.ensures.failed failed)) left.next.state
            refl b (
              found.0,
              subst (λ k. g.D.BlockDevice.recovery.found_since c.in-Err.device k b) (sym since) found.1,
            );
        counted =
            let of_store = (session_state_is c.run-end.new.store left.next left.represents).faults in
            let fits = g.met.D.BlockDevice.faults_fit (device_in c.run-end.new.store) in
            let grows =
            no_fewer_faults {T = Unit {0}} _ _ (Err c.in-Err.refusal) fits
            (record { ok = tt; refused = c.in-Err.ensures.cause }) in
            omega (arith, of_store, grows);
      },
      refused_leaves (device_in c.args.store) c.run-end.new.store left.next c.in-Err.device left.represents left.so.1
          (λ t alive. c.in-Err.ensures.refused_stops left.next t left.represents alive)
          (λ failed. refused_device _ _ _ _ _ _ refl refl (c.in-Err.ensures.failed failed)) left.next.state
          refl,
    )

pub returns-in-Err-clause-checked : goal.returns-in-Err-clause-checked
returns-in-Err-clause-checked g c = λ honest. record {
  end = c.run-end.result;
  runs = runs_kept _ c.run-end.result (g.R.Read.remaining c.args.input.now)
      (g.R.Read.remaining c.run-end.new.input) (g.W.Write.contents c.args.output.now)
      (g.W.Write.contents c.run-end.new.output) (g.W.Write.contents c.flush_out-flushed.new.self)
      (runs_so _ _
      (λ text rs xs once. once_checked_so _ _ (λ s stands well. absurd (false_is_not_true well)) rs xs once)
      c.run-end.result
      (g.R.Read.remaining c.args.input.now) (g.R.Read.remaining c.run-end.new.input)
      (g.W.Write.contents c.args.output.now) (g.W.Write.contents c.run-end.new.output)
      (c.run-end.ensures.checked honest)) c.flush_out-flushed.ensures.bytes;
  well = λ well. absurd (false_is_not_true well);
}

-- a line was written where the run did not go well, or nothing where it did
told : {E T : Type 0} (went_well : Bool) (a b : Option (List ℕ)) (r : Result T E) → went_well ≡ false
    → Writes a b r told_fault → TellsEnd went_well a b
told true a b r e h = absurd (cc)
told false a b r e h = inl (some_written a b r told_fault h)

untold : (went_well : Bool) (a : Option (List ℕ)) → went_well ≡ true → TellsEnd went_well a a
untold true a e = Keeps-refl a
untold false a e = absurd (cc)

pub returns-after-not-went_well-clause-told : goal.returns-after-not-went_well-clause-told
returns-after-not-went_well-clause-told g c =
    let Says : g.row.E.Denot
    → Type 0 =
    λ errors. TellsEnd c.is_whole-went_well.result (g.E.Write.contents c.args.errors.now)
    (g.E.Write.contents errors) in
    elim c.if-not-went_well.branch [
      | then-not-went_well w ↦ subst Says (sym w.errors-is)
          (told _ _ _ w.put.result w.if-not-went_well.true w.put.ensures)
      | else-not-went_well w ↦ subst Says (sym w.errors-is) (untold _ _ w.if-not-went_well.false)
    ]

pub returns-in-Err-clause-told : goal.returns-in-Err-clause-told
returns-in-Err-clause-told g c = inr (_, some_written _ _ c.tell_refusal.result _ c.tell_refusal.ensures)
