-- A read changes nothing.
use Rattle.std.proofs.Common.{inl, refl}
use Rattle.logged_pair.specs.Standing.{commits_of, pair_of}
use Rattle.journaled_device.proofs.Noting.{brings_same, noted_same}
use Rattle.journaled_device.proofs.Stills.{commits_still, keeps_still, shown_still}
use Rattle.journaled_device.proofs.device.calls.JournaledDeviceBlockDevice.read.Goals as goal

pub invariant_of-self : goal.invariant_of-self
invariant_of-self g c = record {
  noted = λ h'.
      let d = c.args.self.now in let e = c.read.new.self in
      let h = c.read.ensures.honest.1 h' in
      let s = c.read.ensures.still h in
      noted_same d.pair e d.past.taken (d.noted h) s.log.time.later (shown_still d.pair e s)
      (λ k is. inl (commits_still d.pair e s k is));
}

pub returns-clause-brings : goal.returns-clause-brings
returns-clause-brings g c = λ h.
    let d = c.args.self.now in let e = c.read.new.self in
    brings_same d _ (d.noted h) (commits_of d.pair) _ refl
    (keeps_still d.pair e (c.read.ensures.still h) (g.met.P.DevicePair.few_blocks (pair_of e)).0
    (c.read.ensures.honest.0 h)) (λ k was. inl was)
