-- The first two neighbours that are the same are the least number that stands twice, since the list ascends.
use Rattle.std.proofs.Common.{arith}
use Rattle.live_layers.proofs.RepeatLemmas.{none_twice, rise_more, twice_here}
use Rattle.live_layers.proofs.repeats.first_twice.Goals as goal

pub returns-then-ids-place : goal.returns-then-ids-place
returns-then-ids-place c =
    twice_here c.args.ids.now c.loop-place.place (λ i j le lt. c.requires i j 0 le lt)
    c.loop-place.invariant.0 c.loop-place-test.true c.loop-place.invariant.1 c.if-ids-place.true

pub loop-place-preserved : goal.loop-place-preserved
loop-place-preserved c = (
  omega arith,
  rise_more c.args.ids.now c.loop-place.place (λ i j le lt. c.requires i j 0 le lt)
      c.loop-place.invariant.0 c.loop-place-test.true c.loop-place.invariant.1 c.if-ids-place.false,
)

pub returns : goal.returns
returns c =
    none_twice c.args.ids.now (λ i j lt within. c.loop-place.invariant.1 i j lt (omega (arith, within)))
