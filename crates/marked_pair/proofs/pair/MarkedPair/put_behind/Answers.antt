-- A block that was not there, written.
use Rattle.marked_pair.specs.BehindLaws.{behind_torn, session_behind}
use Rattle.marked_pair.proofs.Steps.{marked_answer}
use Rattle.marked_pair.proofs.pair.MarkedPair.put_behind.Goals as goal

pub invariant_of-self : goal.invariant_of-self
invariant_of-self g c =
    let d = c.args.self.now in let p = g.P.DevicePair in let e = c.write_base.new.self in
    let w = c.write_base.ensures in
    record {
      behind = λ h2.
          let h = w.honest.1 h2 in
          behind_torn d.mark c.args.i (p.base d.pair) (p.base e) (p.may_leave d.pair) (p.may_leave e)
          c.requires.second
          (marked_answer c.write_base.result c.args.i c.args.bytes.now (p.base d.pair) (p.base e)
          c.requires.second (w.written h) (w.torn h)) (w.stops h) (d.behind h);
      last = λ h2 e2. cc;
      session = λ h2 q is.
          let h = w.honest.1 h2 in
          session_behind p.base p.moment p.left_since p.may_leave d.mark d.kept q d.pair e (d.session h q is)
          (w.time h) (λ t a b le left. g.met.P.DevicePair.counts_now d.pair t a b h le left)
          c.args.i c.requires.second c.requires.behind
          (marked_answer c.write_base.result c.args.i c.args.bytes.now (p.base d.pair) (p.base e)
          c.requires.second (w.written h) (w.torn h)) (w.stops h);
    }
