-- A block that was there, written.
use Rattle.std.proofs.Common.{◌≡◌, ◌∙◌, sym}
use Rattle.marked_pair.specs.BehindLaws.{behind_torn, session_there}
use Rattle.marked_pair.specs.declared.mark.Mark.TheVariants.{Unknown, Synced}
use Rattle.marked_pair.proofs.Steps.{marked_answer}
use Rattle.marked_pair.proofs.pair.MarkedPair.put_there.Goals as goal

pub invariant_of-self : goal.invariant_of-self
invariant_of-self g c =
    let d = c.args.self.now in let p = g.P.DevicePair in let e = c.write_base.new.self in
    let w = c.write_base.ensures in
    let behind = λ (h : p.honest d.pair).
    behind_torn d.mark c.args.i (p.base d.pair) (p.base e) (p.may_leave d.pair) (p.may_leave e)
    c.requires.second
    (marked_answer c.write_base.result c.args.i c.args.bytes.now (p.base d.pair) (p.base e) c.requires.second
    (w.written h) (w.torn h)) (w.stops h) (d.behind h) in
    record {
      behind = λ h2. behind (w.honest.1 h2);
      last = λ h2 e2. cc;
      session = λ h2 q is.
          let h = w.honest.1 h2 in
          session_there p.base p.moment p.left_since p.may_leave d.mark d.kept q d.pair e (d.session h q is)
          (w.time h) (λ t a b le left. g.met.P.DevicePair.counts_now d.pair t a b h le left)
          c.requires.synced
          ((behind h).written (λ u. let never : Synced ≡ Unknown = sym c.requires.synced ∙ u in cc))
          ((behind h).synced c.requires.synced);
    }
