-- A write of the journal.
use Rattle.std.proofs.Common.{◌∙◌, sym, subst}
use Rattle.marked_pair.specs.BehindLaws.{session_journal}
use Rattle.marked_pair.specs.Mark.{IsMarked}
use Rattle.marked_pair.proofs.pair.calls.MarkedPairDevicePair.write_journal.Goals as goal

pub invariant_of-self : goal.invariant_of-self
invariant_of-self g c =
    let d = c.args.self.now in let p = g.P.DevicePair in let e = c.write_journal.new.self in
    let w = c.write_journal.ensures in
    record {
      behind = λ h2.
          let h = w.honest.1 h2 in
          record {
            written = λ known. subst IsMarked (sym (w.base h)) ((d.behind h).written known);
            synced = λ is a b left. let from = w.stops h a b left in (d.behind h).synced is a from.0 from.1;
          };
      last = λ h2 e2 a b left. let h = w.honest.1 h2 in let from = w.stops h a b left in
          d.last h e2 a from.0 from.1 ∙ sym (w.base h);
      session = λ h2 q is.
          let h = w.honest.1 h2 in
          session_journal p.base p.moment p.left_since p.may_leave d.mark d.kept q d.pair e
          (d.session h q is) (w.time h)
          (λ t a b le left. g.met.P.DevicePair.counts_now d.pair t a b h le left)
          c.args.i (c.is_early.ensures c.if-is_early.false) (d.behind h).synced (w.base h) (w.stops h);
    }
