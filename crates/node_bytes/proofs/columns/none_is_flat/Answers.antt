-- An axis on which some low is not below its high, or none.
use Rattle.std.proofs.Common.{refl, arith}
use Rattle.node_bytes.proofs.columns.none_is_flat.Goals as goal

pub returns-then-not-are_below : goal.returns-then-not-are_below
returns-then-not-are_below g c = (
  λ never. absurd (cc),
  λ each. let found =
      c.are_below.ensures.1 (λ place lt. each c.loop-axis.axis place c.loop-axis-test.true lt) in absurd (cc),
)

pub returns : goal.returns
returns g c = (λ always axis place below lt. c.loop-axis.invariant axis place (omega arith) lt, λ each. refl)
