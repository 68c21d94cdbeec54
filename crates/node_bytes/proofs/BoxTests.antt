-- Boxes that `==` compares.
use Rattle.std.proofs.Common.{◌≡◌, ◌∙◌, Bool, true, false, ◌&&◌, ◌↔◌, ℤ, List, refl, sym, ap, ap₂}
use Rattle.std.specs.Ordering.{int_eq}
use Rattle.std.specs.Cmp.Rules.{signed_items}
use Rattle.box_math.specs.Bounds.{Bounds}
use lib.Pointwise.{pointwise}

and_parts : (x y : Bool) → (x && y) ≡ true → (x ≡ true) × (y ≡ true)
and_parts true true h = (refl, refl)
and_parts true false h = absurd (cc)
and_parts false y h = absurd (cc)

pub same_box : (a b : Bounds) (r : Bool)
    → r ≡ (pointwise int_eq a.low b.low && pointwise int_eq a.high b.high) → (r ≡ true) ↔ (a ≡ b)
same_box a b r is =
    let lows = signed_items a.low b.low in
    let highs = signed_items a.high b.high in (
      λ (same : r ≡ true). let parts =
          and_parts (pointwise int_eq a.low b.low) (pointwise int_eq a.high b.high) (sym is ∙ same) in
          ap₂ (λ (l h : List ℤ). record { low = l; high = h }) (lows.0 parts.0) (highs.0 parts.1),
      λ (same : a ≡ b). is
          ∙ ap₂ (λ (x y : Bool). x && y) (lows.1 (ap (λ (x : Bounds). x.low) same))
          (highs.1 (ap (λ (x : Bounds). x.high) same)),
    )
