-- The bits from the place on, found by the zeros below them.
use Rattle.std.proofs.Common.{arith}
use Rattle.std.specs.Int.{w128}
use Rattle.spatial_join.proofs.MaskLemmas.{clear_after, clear_before, first_set, first_within}
use Rattle.spatial_join.proofs.columns.next_place.Goals as goal

pub returns-then-rest-eq0-clause-none : goal.returns-then-rest-eq0-clause-none
returns-then-rest-eq0-clause-none c = clear_after c.args.mask c.args.from c.if-rest-eq0.true

pub returns-clause-set : goal.returns-clause-set
returns-clause-set c = (
  omega arith,
  first_within w128 c.args.mask c.args.from c.ranges.mask.fits c.if-rest-eq0.false,
  first_set w128 c.args.mask c.args.from c.ranges.mask.fits c.if-rest-eq0.false,
)

pub returns-clause-first : goal.returns-clause-first
returns-clause-first c = clear_before w128 c.args.mask c.args.from c.ranges.mask.fits c.if-rest-eq0.false
