use Rattle.std.proofs.Common.{◌≡◌, ℕ, ◌*◌, ◌^◌, subst, arith}
use Rattle.box_import.specs.Decimals.{IsBetween}
use Rattle.box_import.proofs.BetweenLemmas.{shrunk_more}
use Rattle.box_import.proofs.between.Between.behind_zeros.Goals as goal

pub loop-preserved : goal.loop-preserved
loop-preserved c = shrunk_more _ _ c.loop.counter c.args.scale c.loop.size.low c.loop.size.high _ _
    c.loop.invariant c.behind_digit-size.ensures.low c.behind_digit-size.ensures.high
    c.behind_digit-size.ensures.within c.behind_digit-size.ensures.ordered

pub returns-clause-value : goal.returns-clause-value
returns-clause-value c = λ n d first.
    let end : c.loop.counter ≡ c.args.zeros = omega arith in
    let P : ℕ → Type 0 = λ k. IsBetween c.loop.size.low c.loop.size.high n (d * 10 ^ k) in
    subst P end (c.loop.invariant.value n d first)
