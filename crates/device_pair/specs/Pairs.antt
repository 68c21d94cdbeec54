-- The words of a pair of devices: what a call of one of them makes of what a stop of both may leave
-- (our disk model, docs/FORMAT.md, "The disk model of a stop", for two devices at one moment).
use Rattle.std.specs.Prelude.{◌≤◌, ◌⊎◌, ℕ}
use Rattle.block_device.specs.Device.{Blocks}

-- each new outcome is an old one, after such a step of the base
abbrev pub BaseFollows : (Blocks → Blocks → Type 0) → (Blocks → Blocks → Type 0) → (Blocks → Blocks → Type 0)
    → Type 0
BaseFollows step old new = (a b : Blocks) → new a b → (d : Blocks) × old d b × step d a

-- the same of the journal
abbrev pub JournalFollows : (Blocks → Blocks → Type 0) → (Blocks → Blocks → Type 0)
    → (Blocks → Blocks → Type 0) → Type 0
JournalFollows step old new = (a b : Blocks) → new a b → (d : Blocks) × old a d × step d b

-- each new outcome is an old one
abbrev pub PairsNoMore : (Blocks → Blocks → Type 0) → (Blocks → Blocks → Type 0) → Type 0
PairsNoMore old new = (a b : Blocks) → new a b → old a b

-- Time goes on by a call of either: what a stop since t might have left, it might have left before the
-- call, or it may leave it now.
pub record PairElapses (before now : ℕ) (past since : ℕ → Blocks → Blocks → Type 0)
    (may_leave : Blocks → Blocks → Type 0) : Type 0 where
  pub later : before ≤ now
  pub nothing_else : (t : ℕ) (a b : Blocks) → t ≤ before → since t a b → past t a b ⊎ may_leave a b
  pub keeps : (t : ℕ) (a b : Blocks) → t ≤ before → past t a b → since t a b

-- Over a run of calls that began at `old`, each stop left a pair that has P, and what one might have left
-- before it still might have.
pub record PairLeaves {D : Type 0} (moment : D → ℕ) (left_since : D → ℕ → Blocks → Blocks → Type 0)
    (old new : D) (P : Blocks → Blocks → Type 0) : Type 0 where
  pub later : moment old ≤ moment new
  pub before : (t : ℕ) (a b : Blocks) → t ≤ moment old → left_since new t a b → left_since old t a b ⊎ P a b
  pub keeps : (t : ℕ) (a b : Blocks) → t ≤ moment old → left_since old t a b → left_since new t a b
