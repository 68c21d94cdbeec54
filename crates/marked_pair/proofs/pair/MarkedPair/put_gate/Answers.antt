-- The gate, written where there is no mark.
use Rattle.std.proofs.Common.{◌≡◌, ◌∙◌, sym, subst}
use Rattle.marked_pair.specs.Behind.{IsBehind}
use Rattle.marked_pair.specs.BehindLaws.{behind_none, session_gate, unmarked_unknown}
use Rattle.marked_pair.specs.declared.mark.Mark.TheVariants.{Unknown, Synced}
use Rattle.marked_pair.proofs.pair.MarkedPair.put_gate.Goals as goal

pub invariant_of-self : goal.invariant_of-self
invariant_of-self g c =
    let d = c.args.self.now in let p = g.P.DevicePair in let e = c.write_base.new.self in
    let w = c.write_base.ensures in
    record {
      behind = λ h2.
          let h = w.honest.1 h2 in
          let none =
          unmarked_unknown d.mark (p.base d.pair) (p.may_leave d.pair) (d.behind h)
          (c.requires.plain h) in
          subst (λ m. IsBehind m (p.base e) (p.may_leave e)) (sym none)
          (behind_none (p.base e) (p.may_leave e));
      last = λ h2 e2. cc;
      session = λ h2 q is.
          let h = w.honest.1 h2 in
          let none =
          unmarked_unknown d.mark (p.base d.pair) (p.may_leave d.pair) (d.behind h)
          (c.requires.plain h) in
          session_gate p.base p.moment p.left_since p.may_leave d.mark d.kept q d.pair e (d.session h q is)
          (w.time h) (λ t a b le left. g.met.P.DevicePair.counts_now d.pair t a b h le left)
          (λ s. let never : Unknown ≡ Synced = sym none ∙ s in cc) (c.requires.plain h) (w.stops h);
    }

pub returns-clause-mark : goal.returns-clause-mark
returns-clause-mark g c = λ h.
    let d = c.args.self.now in let p = g.P.DevicePair in
    unmarked_unknown d.mark (p.base d.pair) (p.may_leave d.pair) (d.behind h) (c.requires.plain h)
