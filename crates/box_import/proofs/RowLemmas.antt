-- The ranges of boxes of rows.
use Rattle.std.proofs.Common.{◌≡◌, ℕ, ℤ, List, sym, subst, arith}
use Rattle.std.specs.Prelude.{◌≤ℤ◌}
use Rattle.std.proofs.lemmas.Int.{ints}
use Rattle.box_import.specs.Rows.{IsCoordinateOf, IsSpanOf}

pub span_of : (row : List (List ℕ)) (low_place high_place scale : ℕ) (low up down high l h : ℤ)
    → l ≡ low → h ≡ high → IsCoordinateOf row low_place scale low up
    → IsCoordinateOf row high_place scale down high → low ≤ℤ down
    → IsSpanOf row low_place high_place scale l h
span_of row low_place high_place scale low up down high l h is_low is_high low_is high_is below =
    let above = high_is.ordered in
    let L : ℤ → Type 0 = λ z. IsSpanOf row low_place high_place scale z h in
    let H : ℤ → Type 0 = λ z. IsSpanOf row low_place high_place scale low z in
    subst L (sym is_low) (subst H (sym is_high) (record {
      low_up = up;
      high_down = down;
      low_is = low_is;
      high_is = high_is;
      ordered = omega (arith, ints, below, above);
    }))
