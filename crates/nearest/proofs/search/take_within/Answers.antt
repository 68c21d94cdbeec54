-- The goals of `take_within` that are proved by hand.
use Rattle.std.proofs.Common.{◌∷◌, get_or}
use Rattle.std.proofs.lemmas.List.Elements.{All-cons}
use Rattle.std.proofs.lemmas.List.Sorted.{All-permutation, IsPermutation-sym}
use Rattle.nearest.specs.Candidates.{Past}
use Rattle.nearest.proofs.AnswerLemmas.{past_le}
use Rattle.nearest.proofs.search.take_within.Goals as goal

pub returns-then-are_nearer-clause-none : goal.returns-then-are_nearer-clause-none
returns-then-are_nearer-clause-none g c =
    let past = c.are_nearer.ensures.0 c.if-are_nearer.true in
    let first = c.in_ok-first.first in
    All-permutation (λ x. Past x.distance c.args.k c.args.best.now) (first ∷ c.pop.new.self) c.args.queue.now
    (IsPermutation-sym c.args.queue.now (first ∷ c.pop.new.self) c.in_ok-first.ensures.some)
    (All-cons (λ x. Past x.distance c.args.k c.args.best.now) first c.pop.new.self past
    (λ i e lt. past_le first.distance (get_or c.pop.new.self i e).distance c.args.k c.args.best.now
    (c.in_ok-first.ensures.first i e lt) past))
