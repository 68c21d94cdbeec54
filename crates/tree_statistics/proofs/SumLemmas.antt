-- Sums of overlaps over what is left of an outline.
use Rattle.std.proofs.Common.{◌≡◌, ◌∙◌, ℕ, zero, suc, ◌+◌, ◌<◌, List, [], ◌∷◌, length, drop, get_or, refl}
use Rattle.std.proofs.Common.{Bool, true, cond, sym, ap, arith}
use Rattle.std.specs.Prelude.{nat_lt}
use Rattle.std.proofs.lemmas.List.{drop_more}
use Rattle.box_math.specs.Bounds.{Bounds}
use Rattle.tree_outline.specs.declared.node.NodeOutline.{NodeOutline}
use Rattle.tree_statistics.specs.Levels.{overlap_after, overlap_at, overlap_if, overlap_with_later}

-- the sum from a place on is that of its node and that from the next place on
pub overlap_from_place : (dims level : ℕ) (rows : List (NodeOutline dims)) (i : ℕ) → i < length rows
    → overlap_at level (drop i rows) ≡ overlap_with_later level (drop i rows) + overlap_at level (drop (i + 1) rows)
overlap_from_place dims level [] i within = absurd (omega (arith, within))
overlap_from_place dims level (row ∷ rows) zero within = refl
overlap_from_place dims level (row ∷ rows) (suc i) within =
    overlap_from_place dims level rows i (omega (arith, within))
    ∙ ap (λ (n : ℕ). overlap_with_later level (drop i rows) + overlap_at level (drop n (row ∷ rows)))
    (let e : suc (i + 1) ≡ suc i + 1 = omega arith in e)

-- from a node above the level on there are no siblings
pub none_after : (dims level : ℕ) (b : Bounds) (rows : List (NodeOutline dims)) (i : ℕ) (row : NodeOutline dims)
    → i < length rows → row ≡ get_or rows i row → nat_lt level row.level ≡ true
    → overlap_after level b (drop i rows) ≡ 0
none_after dims level b rows i row within is above =
    ap (overlap_after {D = dims} level b) (drop_more rows i row within)
    ∙ ap (λ (r : NodeOutline dims). overlap_after level b (r ∷ drop (i + 1) rows)) (sym is)
    ∙ ap (λ (t : Bool). cond t 0 (overlap_if level b row + overlap_after level b (drop (i + 1) rows))) above
