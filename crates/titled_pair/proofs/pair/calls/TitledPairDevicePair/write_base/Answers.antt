-- A write of the base.
use Rattle.titled_pair.specs.TitleLaws.{of_based}
use Rattle.titled_pair.proofs.pair.calls.TitledPairDevicePair.write_base.Goals as goal

pub invariant_of-self : goal.invariant_of-self
invariant_of-self g c =
    let d = c.args.self.now in let p = g.P.DevicePair in let e = c.write_base.new.self in
    let w = c.write_base.ensures in
    record {
      room = λ h2. let h = w.honest.1 h2 in λ a x left. let from = w.stops h a x left in
          d.room h from.0 x from.1;
      titled = λ h2. let h = w.honest.1 h2 in λ q n is.
          of_based p.journal p.moment p.left_since p.may_leave c.args.i q d.pair e (d.titled h q n is)
          (w.time h) (λ t b x le left. g.met.P.DevicePair.counts_now d.pair t b x h le left) (w.stops h);
    }
