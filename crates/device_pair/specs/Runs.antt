-- Lemmas on what a run of calls of a pair leaves: its beginning, one call, a weaker fact, and two runs in
-- turn.
use Rattle.std.proofs.Common.{ℕ, inl, inr, ⊎_elim, arith}
use Rattle.block_device.specs.Device.{Blocks}
use Rattle.device_pair.specs.Pairs.{PairElapses, PairLeaves}

module _ {D : Type 0} (moment : D → ℕ) (left_since : D → ℕ → Blocks → Blocks → Type 0) where
  -- no call
  pub pair_started : (old : D) (P : Blocks → Blocks → Type 0) → PairLeaves moment left_since old old P
  pair_started old P =
      record { later = omega arith; before = λ t a b le left. inl left; keeps = λ t a b le left. left }

  -- one call, after which a stop leaves what has P
  pub pair_call : (old new : D) (P may_leave : Blocks → Blocks → Type 0)
      → PairElapses (moment old) (moment new) (left_since old) (left_since new) may_leave
      → ((a b : Blocks) → may_leave a b → P a b) → PairLeaves moment left_since old new P
  pair_call old new P may_leave time here = record {
    later = time.later;
    before =
        λ t a b le left. ⊎_elim (λ was. inl was) (λ now. inr (here a b now))
        (time.nothing_else t a b le left);
    keeps = time.keeps;
  }

  -- one run after the other
  pub pair_then : (old mid new : D) (P : Blocks → Blocks → Type 0) → PairLeaves moment left_since old mid P
      → PairLeaves moment left_since mid new P → PairLeaves moment left_since old new P
  pair_then old mid new P x y = record {
    later = omega (arith, x.later, y.later);
    before =
        λ t a b le left. ⊎_elim (x.before t a b le) (λ p. inr p)
        (y.before t a b (omega (arith, le, x.later)) left);
    keeps = λ t a b le left. y.keeps t a b (omega (arith, le, x.later)) (x.keeps t a b le left);
  }

  -- of a weaker fact
  pub pair_weaker : (old new : D) (P Q : Blocks → Blocks → Type 0) → ((a b : Blocks) → P a b → Q a b)
      → PairLeaves moment left_since old new P → PairLeaves moment left_since old new Q
  pair_weaker old new P Q implies x = record {
    later = x.later;
    before = λ t a b le left. ⊎_elim (λ was. inl was) (λ p. inr (implies a b p)) (x.before t a b le left);
    keeps = x.keeps;
  }
