-- What is left of a store that is closed after a strict run.
use Rattle.std.proofs.Common.{Err, refl, sym, subst, arith}
use Rattle.store_law.specs.States.{StoreState}
use Rattle.layer_store.specs.Representation.{device_in}
use Rattle.layer_store.proofs.StopLemmas.{found_by_closing, left_by_closing, session_state_is}
use Rattle.layer_store.proofs.StoreLemmas.{no_fewer_faults}
use Rattle.live_layers.specs.Image.{IsRefusedOrImageOf, IsImageOfOne}
use Rattle.command_shell.specs.Runs.{with_last}
use Rattle.command_shell.proofs.CloseLemmas.{closed_in_image, found_when_refused, has_table}
use Rattle.command_shell.proofs.CloseLemmas.{left_when_refused}
use Rattle.command_shell.proofs.CloseLemmas.{ok_is_no_refusal, refused_device, refused_leaves, run_leaves}
use Rattle.reply_texts.proofs.WriteLemmas.{some_written}
use Rattle.command_shell.proofs.strict.close.Goals as goal

pub returns-in-Ok-clause-left : goal.returns-in-Ok-clause-left
returns-in-Ok-clause-left g c = λ s represents.
    let closed = c.in-Ok.ensures in
    let of_table = has_table c.args.store s represents (λ failed. ok_is_no_refusal (closed.failed failed)) in
    record {
      well = λ well. (
        of_table.table,
        of_table.alive,
        closed.closed of_table.table of_table.state,
        closed.durable of_table.table of_table.state,
      );
      stops = λ b stop.
          subst (λ (state : StoreState). IsRefusedOrImageOf (with_last state s.stops.so_far) b)
          (sym of_table.alive)
          (left_by_closing c.args.store s of_table.table c.in-Ok.device represents
          (closed.stops s of_table.table represents of_table.alive) b stop);
      kept = λ b found.
          subst (λ (state : StoreState). IsImageOfOne (with_last state s.stops.kept_so_far) b)
          (sym of_table.alive)
          (found_by_closing c.args.store s of_table.table c.in-Ok.device represents
          (closed.stops s of_table.table represents of_table.alive) found.0 b found.1);
      counted = let of_store = (session_state_is c.args.store s represents).faults in
          let kept = closed.no_fault in omega (arith, of_store, kept);
    }

pub returns-in-Ok-clause-image : goal.returns-in-Ok-clause-image
returns-in-Ok-clause-image g c = λ s stands well.
    let closed = c.in-Ok.ensures in
    closed_in_image c.args.store (g.D.BlockDevice.shown c.in-Ok.device) closed.closed
    (λ dead. ok_is_no_refusal (closed.dead dead)) s stands

pub returns-in-Err-clause-image : goal.returns-in-Err-clause-image
returns-in-Err-clause-image g c = λ s stands well. absurd (cc)

pub returns-in-Ok-clause-leaves : goal.returns-in-Ok-clause-leaves
returns-in-Ok-clause-leaves g c = λ s first represents run.
    let closed = c.in-Ok.ensures in
    let of_table = has_table c.args.store s represents (λ failed. ok_is_no_refusal (closed.failed failed)) in
    run_leaves first c.args.store s of_table.table c.in-Ok.device represents of_table.alive run
    (closed.stops s of_table.table represents of_table.alive)

pub returns-in-Err-clause-left : goal.returns-in-Err-clause-left
returns-in-Err-clause-left g c = λ s represents. record {
  well = λ well. absurd (cc);
  stops = λ b stop.
      left_when_refused c.args.store s c.in-Err.device represents
      (λ t alive. c.in-Err.ensures.refused_stops s t represents alive)
      (λ failed. refused_device _ _ _ _ _ _ refl refl (c.in-Err.ensures.failed failed)) s.state refl b stop;
  kept = λ b found.
      found_when_refused c.args.store s c.in-Err.device represents
      (λ t alive. c.in-Err.ensures.refused_stops s t represents alive)
      (λ failed. refused_device _ _ _ _ _ _ refl refl (c.in-Err.ensures.failed failed)) s.state refl b found;
  counted =
      let of_store = (session_state_is c.args.store s represents).faults in
      let fits = g.met.D.BlockDevice.faults_fit (device_in c.args.store) in
      let grows =
      no_fewer_faults {T = Unit {0}} _ _ (Err c.in-Err.refusal) fits
      (record { ok = tt; refused = c.in-Err.ensures.cause }) in
      omega (arith, of_store, grows);
}

pub returns-in-Err-clause-leaves : goal.returns-in-Err-clause-leaves
returns-in-Err-clause-leaves g c = λ s first represents run.
    refused_leaves first c.args.store s c.in-Err.device represents run
    (λ t alive. c.in-Err.ensures.refused_stops s t represents alive)
    (λ failed. refused_device _ _ _ _ _ _ refl refl (c.in-Err.ensures.failed failed)) s.state refl

pub returns-in-Err-clause-told : goal.returns-in-Err-clause-told
returns-in-Err-clause-told g c =
    (refl, c.in-Err.refusal, some_written _ _ c.tell_refusal.result _ c.tell_refusal.ensures)
