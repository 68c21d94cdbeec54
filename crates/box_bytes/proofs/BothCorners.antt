-- A box, written as one corner and then the other.
use Rattle.std.proofs.Common.{◌≡◌, ℕ, ℤ, List, ◌∙◌}
use Rattle.box_math.specs.Bounds.{Bounds}
use Rattle.box_bytes.specs.Corners.{corner_at, box_at, IsClearOfCorner, IsClearOfBox, AreApart, Keeps}
use Rattle.box_bytes.specs.Laws.{corner_at-stays}

same_bounds : (low low' high high' : List ℤ) → low ≡ low' → high ≡ high'
    → ◌≡◌ {A = Bounds} (record { low = low; high = high }) (record { low = low'; high = high' })
same_bounds low low' high high' e f = cc

-- the lows stay where the highs are written apart from them
pub box_written : (dims low high stride : ℕ) (one two : List ℕ) (b : Bounds) → AreApart dims low high stride
    → Keeps (IsClearOfCorner dims high stride) one two
    → corner_at dims one low stride ≡ b.low → corner_at dims two high stride ≡ b.high
    → box_at dims two low high stride ≡ b
box_written dims low high stride one two b apart keeps e f =
    same_bounds (corner_at dims two low stride) b.low (corner_at dims two high stride) b.high
    (corner_at-stays (IsClearOfCorner dims high stride) one two dims low stride keeps apart ∙ e) f

-- what is clear of both corners stays
pub box_keeps : (dims low high stride : ℕ) (old one two : List ℕ)
    → Keeps (IsClearOfCorner dims low stride) old one → Keeps (IsClearOfCorner dims high stride) one two
    → Keeps (IsClearOfBox dims low high stride) old two
box_keeps dims low high stride old one two lows highs = λ n from clear. highs n from clear.highs
    ∙ lows n from clear.lows
