-- Laws of what a stop of two devices as a pair may leave.
use Rattle.std.proofs.Common.{ℕ, ◌≤◌, List, [], ◌∷◌, length, inl, inr, ⊎_elim, arith}
use Rattle.block_device.specs.Device.{Blocks}
use Rattle.device_pair.specs.Both.{Both, BothSince}

module _ {A B : Type 0} (base : A → Blocks → Type 0) (journal : B → Blocks → Type 0) where
  -- what may be left now counts since any moment
  pub both_now : (x : A) (y : B) (ps : List (A × B)) (t : ℕ) (a b : Blocks) → Both base journal x y a b
      → BothSince base journal x y ps t a b
  both_now x y [] t a b now = now
  both_now x y (p ∷ ps) t a b now = inl now

  -- and nothing else since now
  pub both_only : (x : A) (y : B) (ps : List (A × B)) (a b : Blocks)
      → BothSince base journal x y ps (length ps) a b → Both base journal x y a b
  both_only x y [] a b left = left
  both_only x y (p ∷ ps) a b left = ⊎_elim (λ now. now) (λ past. absurd (omega (arith, past.0))) left

  -- what counts since a moment counts since an earlier one
  pub both_earlier : (x : A) (y : B) (ps : List (A × B)) (t u : ℕ) (a b : Blocks) → t ≤ u
      → BothSince base journal x y ps u a b → BothSince base journal x y ps t a b
  both_earlier x y [] t u a b le left = left
  both_earlier x y (p ∷ ps) t u a b le left =
      ⊎_elim (λ now. inl now)
      (λ past. inr (omega (arith, le, past.0), both_earlier p.0 p.1 ps t u a b le past.1)) left
