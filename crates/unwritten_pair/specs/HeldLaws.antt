-- Laws of a journal some of which is in memory.
use Rattle.std.proofs.Common.{◌≡◌, ◌≤◌, ◌+◌, ◌^◌, ◌++◌, zero, suc, [], ◌∷◌, length, sym, ap, arith, subst}
use Rattle.std.specs.List.{All}
use Rattle.std.proofs.lemmas.List.{length-append}
use Rattle.block_device.specs.Device.{Blocks, IsBlock}

-- how many blocks there are, and that they are blocks
pub few_blocks_of : (base own behind : Blocks) → (length base ≤ 2 ^ 31) × (length own ≤ 2 ^ 31)
    → length own + length behind ≤ 2 ^ 31 → (length base ≤ 2 ^ 31) × (length (own ++ behind) ≤ 2 ^ 31)
few_blocks_of base own behind few all = (few.0, omega (arith, length-append own behind, all))

pub no_longer_of : (base journal a b : Blocks) → (a ≡ base) × (b ≡ journal)
    → (length a ≤ length base + 1) × (length b ≤ length journal + 1)
no_longer_of base journal a b is = (omega (arith, ap length is.0), omega (arith, ap length is.1))

whole_append : (own behind : Blocks) → All IsBlock own → All IsBlock behind → All IsBlock (own ++ behind)
whole_append [] behind all more k d lt = more k d lt
whole_append (b ∷ own) behind all more zero d lt = all zero d (omega arith)
whole_append (b ∷ own) behind all more (suc k) d lt =
    whole_append own behind (λ j e less. all (suc j) e (omega (arith, less))) more k d (omega (arith, lt))

pub whole_of : (base own behind a b : Blocks) → (a ≡ base) × (b ≡ own ++ behind)
    → All IsBlock base × All IsBlock own → All IsBlock behind → All IsBlock a × All IsBlock b
whole_of base own behind a b is both more = (
  subst (All IsBlock) (sym is.0) both.0,
  subst (All IsBlock) (sym is.1) (whole_append own behind both.1 more),
)
