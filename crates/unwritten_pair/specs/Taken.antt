-- What stands of a pair since it was taken over.
use Rattle.std.specs.Prelude.{◌≡◌, ◌≤◌, ℕ, List, [], ◌∷◌}
use Rattle.block_device.specs.Device.{Blocks}

-- A pair that was taken over as p has the blocks that it had then, and so has what each stop since then left.
pub record IsAsTaken {P : Type 0} (base journal : P → Blocks) (moment : P → ℕ)
    (left_since : P → ℕ → Blocks → Blocks → Type 0) (p now : P) : Type 0 where
  pub same_base : base now ≡ base p
  pub same_journal : journal now ≡ journal p
  pub later : moment p ≤ moment now
  pub since : (a b : Blocks) → left_since now (moment p) a b → (a ≡ base p) × (b ≡ journal p)

-- the same of the pair that was noted
abbrev pub IsAsTakenOf : {P : Type 0} → (P → Blocks) → (P → Blocks) → (P → ℕ)
    → (P → ℕ → Blocks → Blocks → Type 0) → List (P × ℕ) → P → Type 0
IsAsTakenOf {P = P} base journal moment left_since first now = (p : P) (n : ℕ) → first ≡ (p, n) ∷ []
    → IsAsTaken base journal moment left_since p now
