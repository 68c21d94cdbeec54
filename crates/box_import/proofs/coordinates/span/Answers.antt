use Rattle.std.proofs.Common.{rules, arith}
use Rattle.std.proofs.lemmas.Int.{ints, to_z-of_z}
use Rattle.std.specs.Int.{w32}
use Rattle.std.specs.Prelude.{FitsSigned, ◌≤ℤ◌}
use Rattle.box_import.proofs.RowLemmas.{span_of}
use Rattle.box_import.proofs.coordinates.span.Goals as goal

pub returns : goal.returns
returns c =
    let low_fits : FitsSigned w32 c.in_ok-lows.lows.0 = search rules in
    let high_fits : FitsSigned w32 c.in_ok-highs.highs.1 = search rules in
    let down_fits : FitsSigned w32 c.in_ok-highs.highs.0 = search rules in
    let test = simp to_z-of_z at c.if-lows-highs.false in
    let below : c.in_ok-lows.lows.0 ≤ℤ c.in_ok-highs.highs.0 = grind (arith, ints) in
    span_of _ _ _ _ _ c.in_ok-lows.lows.1 c.in_ok-highs.highs.0 _ _ _
    (to_z-of_z w32 _ low_fits) (to_z-of_z w32 _ high_fits) c.in_ok-lows.ensures c.in_ok-highs.ensures below
