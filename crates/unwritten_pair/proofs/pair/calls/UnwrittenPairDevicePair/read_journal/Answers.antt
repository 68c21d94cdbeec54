-- A read of the journal.
use Rattle.std.proofs.Common.{◌+◌, ◌≤◌, ◌^◌, length, ap, arith, refl}
use Rattle.unwritten_pair.proofs.Steps.{still_elapses}
use Rattle.unwritten_pair.specs.TakenLaws.{left_still, taken_still}
use Rattle.unwritten_pair.specs.Pair.{base_of, own_of, past_of}
use Rattle.unwritten_pair.proofs.pair.calls.UnwrittenPairDevicePair.read_journal.Goals as goal

pub invariant_of-self : goal.invariant_of-self
invariant_of-self g c =
    let d = c.args.self.now in let p = g.P.DevicePair in let e = c.read_journal-answer.new.self in
    let w = c.read_journal-answer.ensures in
    record {
      few = c.drop_unnumbered.ensures.few;
      whole = c.drop_unnumbered.ensures.whole d.whole;
      synced = λ h2.
          let h = w.honest.1 h2 in
          left_still p.base p.journal p.moment p.left_since p.may_leave d.pair e (w.base h) (w.journal h)
          (w.stops h) (d.synced h);
      unwritten = λ h2 q n is.
          let h = w.honest.1 h2 in
          taken_still p.base p.journal p.moment p.left_since p.may_leave d.pair e (w.base h) (w.journal h)
          (w.stops h) (d.synced h) q (d.unwritten h q n is) (w.time h);
    }

pub returns-clause-time : goal.returns-clause-time
returns-clause-time g c = λ h.
    let d = c.args.self.now in let p = g.P.DevicePair in let e = c.read_journal-answer.new.self in
    let w = c.read_journal-answer.ensures in
    let few : length (p.journal e) + length d.behind.items ≤ 2 ^ 31 =
    omega (arith, ap length (w.journal h), d.few) in
    still_elapses (base_of d) (p.base e) (own_of d) (p.journal e) d.pair e d.behind
    c.drop_unnumbered.new.behind (past_of d) (past_of d) (w.base h) (w.journal h)
    (c.drop_unnumbered.ensures.same few) refl
