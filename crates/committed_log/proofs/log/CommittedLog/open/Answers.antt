-- The log is opened.
use Rattle.std.proofs.Common.{◌≡◌, inr, rules, subst, sym, ⊎_elim}
use Rattle.block_device.specs.Device.{Blocks}
use Rattle.committed_log.specs.Opening.{IsEmpty, IsMalformed}
use Rattle.committed_log.specs.Whole.{unsaid_well}
use Rattle.committed_log.proofs.Opened.{opened_stands}
use Rattle.device_pair.specs.Pairs.{PairLeaves}
use Rattle.device_pair.specs.Runs.{pair_then, pair_weaker}
use Rattle.committed_log.specs.Appending.{OrAppended}
use Rattle.committed_log.proofs.log.CommittedLog.open.Goals as goal

pub invariant_of-log : goal.invariant_of-log
invariant_of-log g c =
    let p = g.P.DevicePair in let e = c.prepare.new.pair in
    record {
      standing = λ h1.
          let h = c.prepare.ensures.honest.1 h1 in
          opened_stands c.new.result.homes.items (p.base e) (p.journal e) (p.may_leave e) c.new.ensures
          (c.in_default.ensures.there h) (c.in_default.ensures.durable h);
    }

pub returns-in-Ok-clause-durable : goal.returns-in-Ok-clause-durable
returns-in-Ok-clause-durable g c = λ h. c.in-Ok.ensures.durable (c.prepare.ensures.honest.0 h)

pub returns-in-Err-read_regions-clause-malformed : goal.returns-in-Err-read_regions-clause-malformed
returns-in-Err-read_regions-clause-malformed g c = λ h e.
    let p = g.P.DevicePair in let d = c.args.pair in let m = c.prepare.new.pair in
    let bad : IsMalformed (p.base m) (p.journal m) =
    c.in-Err-read_regions.ensures.malformed (c.prepare.ensures.honest.0 h) (search rules) in
    ⊎_elim
    (λ (same : p.journal m ≡ p.journal d).
    subst (λ (b : Blocks). IsMalformed b (p.journal d)) (c.prepare.ensures.base h)
    (subst (IsMalformed (p.base m)) same bad))
    (λ (empty : IsEmpty (p.journal m)). absurd
    (unsaid_well (p.base m) (p.journal m) empty.unsaid bad))
    (c.in_default.ensures.made h)

pub returns-in-Ok-clause-appends : goal.returns-in-Ok-clause-appends
returns-in-Ok-clause-appends g c = λ h.
    let p = g.P.DevicePair in let d = c.args.pair in let m = c.prepare.new.pair in
    (c.read_regions.ensures.appends (c.prepare.ensures.honest.0 h)).after (p.base d) (p.journal d)
    (c.in_default.ensures.appends h)

pub returns-in-Ok-clause-append_stops : goal.returns-in-Ok-clause-append_stops
returns-in-Ok-clause-append_stops g c = λ h.
    let p = g.P.DevicePair in let d = c.args.pair in let m = c.prepare.new.pair in
    let e = c.read_regions.new.self in
    pair_then p.moment p.left_since d m e.pair _ (c.prepare.ensures.append_stops h)
    (pair_weaker p.moment p.left_since m e.pair _ _ (λ a b is. inr is)
    ((c.read_regions.ensures.appends (c.prepare.ensures.honest.0 h)).stops (p.base d) (p.journal d)
    (c.in_default.ensures.appends h)))

pub returns-in-Err-read_regions-clause-refused_append_stops : goal.returns-in-Err-read_regions-clause-refused_append_stops
returns-in-Err-read_regions-clause-refused_append_stops g c = λ h.
    let p = g.P.DevicePair in let d = c.args.pair in let m = c.prepare.new.pair in
    let e = c.read_regions.new.self in
    subst
    (λ (x : _). PairLeaves p.moment p.left_since d x (OrAppended (p.may_leave d) (p.base d) (p.journal d)))
    (sym c.into_pair.ensures)
    (pair_then p.moment p.left_since d m e.pair _ (c.prepare.ensures.append_stops h)
    (pair_weaker p.moment p.left_since m e.pair _ _ (λ a b is. inr is)
    ((c.read_regions.ensures.appends (c.prepare.ensures.honest.0 h)).stops (p.base d) (p.journal d)
    (c.in_default.ensures.appends h))))
