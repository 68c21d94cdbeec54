-- Laws of a base with another block 0.
use Rattle.std.proofs.Common.{◌≡◌, ℕ, zero, suc, ◌<◌, List, [], ◌∷◌, length, refl, arith}
use Rattle.std.specs.List.{All}
use Rattle.block_device.specs.Device.{Blocks, IsBlock, block_at}
use Rattle.journaled_file.specs.Gate.{with_gate}

pub length-gated : (gate : List ℕ) (a : Blocks) → length (with_gate gate a) ≡ length a
length-gated gate [] = refl
length-gated gate (b ∷ blocks) = refl

pub whole_gated : (gate : List ℕ) (a : Blocks) → IsBlock gate → All IsBlock a → All IsBlock (with_gate gate a)
whole_gated gate [] is all k d lt = absurd (omega arith)
whole_gated gate (b ∷ blocks) is all zero d lt = is
whole_gated gate (b ∷ blocks) is all (suc k) d lt = all (suc k) d lt

-- block 0 is this one, and the others are as they were
pub gated_first : (gate : List ℕ) (a : Blocks) → 0 < length a → gate ≡ block_at 0 (with_gate gate a)
gated_first gate [] lt = absurd (omega (arith, lt))
gated_first gate (b ∷ blocks) lt = refl

pub gated_other : (gate : List ℕ) (a : Blocks) (i : ℕ) → 0 < i → block_at i (with_gate gate a) ≡ block_at i a
gated_other gate a zero lt = absurd (omega (arith, lt))
gated_other gate [] (suc i) lt = refl
gated_other gate (b ∷ blocks) (suc i) lt = refl
