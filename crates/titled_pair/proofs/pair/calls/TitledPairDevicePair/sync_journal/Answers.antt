-- A sync of the journal.
use Rattle.titled_pair.specs.TitleLaws.{of_still}
use Rattle.titled_pair.proofs.pair.calls.TitledPairDevicePair.sync_journal.Goals as goal

pub invariant_of-self : goal.invariant_of-self
invariant_of-self g c =
    let d = c.args.self.now in let p = g.P.DevicePair in let e = c.sync_journal.new.self in
    let w = c.sync_journal.ensures in
    record {
      room = λ h2. let h = w.honest.1 h2 in λ a x left. d.room h a x (w.stops h a x left);
      titled = λ h2. let h = w.honest.1 h2 in λ q n is.
          of_still p.journal p.moment p.left_since p.may_leave q d.pair e (d.titled h q n is) (w.time h)
          (λ t b x le left. g.met.P.DevicePair.counts_now d.pair t b x h le left) (w.stops h);
    }
