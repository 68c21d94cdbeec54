-- Block 0 is copied home, and then each block.
use Rattle.std.proofs.Common.{◌∙◌}
use Rattle.device_pair.specs.Runs.{pair_then, pair_weaker}
use Rattle.committed_log.specs.Committed.{homes_of, seen_of}
use Rattle.committed_log.proofs.Keeping.{first_shows}
use Rattle.committed_log.proofs.Stood.{on_ok}
use Rattle.committed_log.proofs.log.CommittedLog.copy_slots.Goals as goal

pub returns-clause-home : goal.returns-clause-home
returns-clause-home g c = λ h. on_ok c.copy_each.result _ _ (λ is. is ∙ c.copy_first.ensures.seen h)
    (c.copy_each.ensures.home (c.copy_first.ensures.honest.0 h))

pub returns-clause-stops : goal.returns-clause-stops
returns-clause-stops g c = λ h.
    let d = c.args.self.now in let m = c.copy_first.new.self in let p = g.P.DevicePair in
    pair_then p.moment p.left_since d.pair m.pair c.copy_each.new.self.pair _ (c.copy_first.ensures.stops h)
    (pair_weaker p.moment p.left_since m.pair c.copy_each.new.self.pair _ _
    (λ a b is. is ∙ c.copy_first.ensures.seen h)
    (c.copy_each.ensures.stops (c.copy_first.ensures.honest.0 h)))

pub returns-clause-last : goal.returns-clause-last
returns-clause-last g c = λ h.
    let d = c.args.self.now in let m = c.copy_first.new.self in let p = g.P.DevicePair in
    pair_then p.moment p.left_since d.pair m.pair c.copy_each.new.self.pair _ (c.copy_first.ensures.last h)
    (pair_weaker p.moment p.left_since m.pair c.copy_each.new.self.pair _ _
    (first_shows (homes_of m) (homes_of d) (seen_of m) (seen_of d) c.copy_first.ensures.log.homes
    (c.copy_first.ensures.seen h))
    (c.copy_each.ensures.last (c.copy_first.ensures.honest.0 h)))
