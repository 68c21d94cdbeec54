-- The goals of `are_nearer` that are proved by hand.
use Rattle.std.proofs.Common.{arith}
use Rattle.nearest.proofs.QueueLemmas.{nearer_few, nearer_is}
use Rattle.nearest.proofs.best.Best.are_nearer.Goals as goal

pub returns-then-len-k : goal.returns-then-len-k
returns-then-len-k g c = (
  λ never. absurd (cc),
  λ past. absurd
      (nearer_few c.args.distance c.args.k c.self.inside.heap.data.items c.args.self.now c.self.view_is
      (omega (arith, c.if-len-k.true, c.len.ensures, c.self.inside.heap.data.ok.0)) past),
)

pub returns-in-Some : goal.returns-in-Some
returns-in-Some g c =
    nearer_is c.args.distance c.args.k c.self.inside.heap.data.items c.in-Some.last.now c.args.self.now
    c.self.view_is (omega (arith, c.if-len-k.false, c.len.ensures, c.self.inside.heap.data.ok.0))
    c.requires.few c.requires.some
    c.in-Some.ensures.lookup (c.in-Some.ensures.greatest c.self.invariant)
