-- A sync that was refused, and one that is noted.
use Rattle.std.proofs.Common.{refl}
use Rattle.journaled_device.proofs.Noting.{noted_same, noted_sync, noted_synced, refused_sync}
use Rattle.journaled_device.proofs.device.JournaledDevice.make_last.Goals as goal

pub invariant_of-self : goal.invariant_of-self
invariant_of-self g c = record {
  noted = λ h'.
      let p = c.args.self.now.pair in
      let h = c.sync_marked.ensures.honest.1 h' in
      let k = c.sync_marked.ensures.keeps h in
      noted_same p c.sync_marked.new.self c.args.self.now.past.taken (c.args.self.now.noted h) k.stops.later
      (c.sync_marked.ensures.shown h) k.now;
}

pub returns-in_err-sync_marked-clause-done : goal.returns-in_err-sync_marked-clause-done
returns-in_err-sync_marked-clause-done g c = λ h.
    let d = c.args.self.now in
    let k = c.sync_marked.ensures.keeps h in
    refused_sync d _ (d.noted h) c.from_residual.result c.from_residual.ensures.0
    (noted_same d.pair c.sync_marked.new.self d.past.taken (d.noted h) k.stops.later (c.sync_marked.ensures.shown h)
    k.now) refl (c.sync_marked.ensures.shown h) k

pub invariant_of-self-2 : goal.invariant_of-self-2
invariant_of-self-2 g c = record {
  noted = λ h'.
      let p = c.args.self.now.pair in
      let h = c.sync_marked.ensures.honest.1 h' in
      noted_synced p c.sync_marked.new.self c.args.self.now.past.taken (c.args.self.now.noted h)
      (c.sync_marked.ensures.keeps h).stops.later c.with-past.result.taken c.with-past.ensures
      (c.sync_marked.ensures.shown h) (c.in_ok-sync_marked.ensures.durable h);
}

pub returns-clause-done : goal.returns-clause-done
returns-clause-done g c = λ h.
    let d = c.args.self.now in
    noted_sync d _ (d.noted h)
    (noted_synced d.pair c.sync_marked.new.self d.past.taken (d.noted h) (c.sync_marked.ensures.keeps h).stops.later
    c.with-past.result.taken c.with-past.ensures (c.sync_marked.ensures.shown h)
    (c.in_ok-sync_marked.ensures.durable h)) c.with-past.ensures (c.sync_marked.ensures.shown h)
    (c.sync_marked.ensures.keeps h)
