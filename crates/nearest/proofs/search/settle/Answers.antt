-- The goals of `settle` that are proved by hand.
use Rattle.std.proofs.Common.{◌++◌}
use Rattle.nearest.proofs.SearchLemmas.{settle_left, settle_pushed}
use Rattle.nearest.proofs.search.settle.Goals as goal

pub loop-candidate-preserved-in-Continue-1 : goal.loop-candidate-preserved-in-Continue-1
loop-candidate-preserved-in-Continue-1 g c =
    settle_pushed c.args.k c.args.best.now (c.args.queue.now ++ c.args.fresh.now.items)
    c.loop-candidate.queue c.loop-candidate.fresh.items c.push.new.self c.pop.new.self.items
    c.in-Some.candidate c.loop-candidate.invariant c.in-Some.ensures.items c.in_ok-push.ensures.ok

pub loop-candidate-preserved : goal.loop-candidate-preserved
loop-candidate-preserved g c =
    settle_left c.args.k c.args.best.now (c.args.queue.now ++ c.args.fresh.now.items) c.loop-candidate.queue
    c.loop-candidate.fresh.items c.pop.new.self.items c.in-Some.candidate c.loop-candidate.invariant
    c.in-Some.ensures.items
    (c.are_nearer.ensures.0 c.if-not-are_nearer.false)
