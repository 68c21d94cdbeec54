-- The goals of `reach` that are proved by hand.
use Rattle.std.proofs.Common.{◌≡◌, ◌∙◌, ◌<◌, true, nat_lt, sym, inr, refl, arith}
use Rattle.std.proofs.lemmas.Bool.{false≢true}
use Rattle.std.proofs.lemmas.Bool.Decides.{nat_tests}
use Rattle.box_math.specs.Bounds.{meets_test}
use Rattle.box_math.specs.Measures.{point_dist2_of}
use Rattle.nearest.proofs.QueueLemmas.{nearer_is}
use Rattle.nearest.proofs.ReachLemmas.{missed_is_farther}
use Rattle.nearest.proofs.best.Best.reach.Goals as goal

pub returns-then-len-k : goal.returns-then-len-k
returns-then-len-k g c =
    λ b box missed. absurd (false≢true (sym missed ∙ c.box_around.ensures b box (inr refl)))

pub returns-in-Some : goal.returns-in-Some
returns-in-Some g c = λ b box missed.
    let far = point_dist2_of g.row.D b c.args.point.now in
    let farther : c.in-Some.last.now.distance < far =
    missed_is_farther far c.in-Some.last.now.distance c.side_of.result
    (meets_test g.row.D b c.box_around-in-Some.result) (c.box_around-in-Some.ensures b box)
    c.side_of.ensures missed in
    let test : nat_lt c.in-Some.last.now.distance far ≡ true = grind (arith, nat_tests) in
    (nearer_is far c.args.k c.self.inside.heap.data.items c.in-Some.last.now c.args.self.now c.self.view_is
    (omega (arith, c.if-len-k.false, c.len.ensures, c.self.inside.heap.data.ok.0)) c.requires.few
    c.requires.some
    c.in-Some.ensures.lookup (c.in-Some.ensures.greatest c.self.invariant)).0 test

pub returns-in-None : goal.returns-in-None
returns-in-None g c =
    λ b box missed. absurd (false≢true (sym missed ∙ c.box_around-in-None.ensures b box (inr refl)))
