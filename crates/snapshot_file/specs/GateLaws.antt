-- Laws of a base with another block 0.
use Rattle.std.proofs.Common.{◌≡◌, ℕ, zero, suc, ◌<◌, ◌≤◌, ◌^◌, List, [], ◌∷◌, length, refl, ap, arith}
use Rattle.std.specs.List.{All}
use Rattle.block_device.specs.Device.{Blocks, IsBlock, block_at}
use Rattle.marked_pair.specs.Mark.{unmarked, unmarked_gate}
use Rattle.snapshot_file.specs.Gate.{with_gate}

pub length-gated : (gate : List ℕ) (a : Blocks) → length (with_gate gate a) ≡ length a
length-gated gate [] = refl
length-gated gate (b ∷ bs) = refl

pub few_gated : (gate : List ℕ) (a : Blocks) → length a ≤ 2 ^ 31 → length (with_gate gate a) ≤ 2 ^ 31
few_gated gate [] few = few
few_gated gate (b ∷ bs) few = few

pub whole_gated : (gate : List ℕ) (a : Blocks) → IsBlock gate → All IsBlock a → All IsBlock (with_gate gate a)
whole_gated gate [] is all k d lt = absurd (omega arith)
whole_gated gate (b ∷ bs) is all zero d lt = is
whole_gated gate (b ∷ bs) is all (suc k) d lt = all (suc k) d lt

-- block 0 is this one, and the others are as they were
pub gated_first : (gate : List ℕ) (a : Blocks) → 0 < length (with_gate gate a)
    → gate ≡ block_at 0 (with_gate gate a)
gated_first gate [] lt = absurd (omega (arith, lt))
gated_first gate (b ∷ bs) lt = refl

pub gated_other : (gate : List ℕ) (a : Blocks) (i : ℕ) → 0 < i → block_at i (with_gate gate a) ≡ block_at i a
gated_other gate a zero lt = absurd (omega (arith, lt))
gated_other gate [] (suc i) lt = refl
gated_other gate (b ∷ bs) (suc i) lt = refl

-- blocks with their own gate, unmarked
pub gated_unmarked : (gate : List ℕ) (a : Blocks) → (0 < length a → gate ≡ unmarked_gate (block_at 0 a))
    → with_gate gate a ≡ unmarked a
gated_unmarked gate [] is = refl
gated_unmarked gate (b ∷ bs) is = ap (λ (g : List ℕ). g ∷ bs) (is (omega arith))
