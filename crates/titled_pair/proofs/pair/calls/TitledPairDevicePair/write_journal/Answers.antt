-- A write of the journal.
use Rattle.std.proofs.Common.{◌+◌, refl, inl}
use Rattle.titled_pair.specs.TitleLaws.{of_journaled, room_torn, untitled_follows}
use Rattle.titled_pair.proofs.pair.calls.TitledPairDevicePair.write_journal.Goals as goal

pub invariant_of-self : goal.invariant_of-self
invariant_of-self g c =
    let d = c.args.self.now in let p = g.P.DevicePair in let e = c.write_journal.new.self in
    let w = c.write_journal.ensures in
    record {
      room = λ h2. let h = w.honest.1 h2 in
          room_torn (c.args.i + 2) (p.may_leave d.pair) (p.may_leave e) (d.room h) (w.stops h);
      titled = λ h2. let h = w.honest.1 h2 in λ q n is.
          of_journaled p.journal p.moment p.left_since p.may_leave c.args.i q d.pair e (d.titled h q n is)
          (w.time h) (λ t b x le left. g.met.P.DevicePair.counts_now d.pair t b x h le left) (w.stops h);
    }

pub returns-clause-stops : goal.returns-clause-stops
returns-clause-stops g c = λ h.
    let d = c.args.self.now in let p = g.P.DevicePair in
    untitled_follows c.args.i (p.may_leave d.pair) (p.may_leave c.write_journal.new.self) (d.room h)
    (c.write_journal.ensures.stops h)

pub returns-then-at-ge-MOST_BLOCKS-clause-stops : goal.returns-then-at-ge-MOST_BLOCKS-clause-stops
returns-then-at-ge-MOST_BLOCKS-clause-stops g c = λ h a b left. (b, left, inl refl)
