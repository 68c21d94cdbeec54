-- What stands of the base by what is known of its mark, and what a session leaves of the pair that it took
-- over.
use Rattle.std.specs.Prelude.{◌≡◌, ◌<◌, ◌≤◌, ℕ, List, [], ◌∷◌, length}
use Rattle.block_device.specs.Device.{Blocks, block_at}
use Rattle.marked_pair.specs.Mark.{IsMarked}
use Rattle.marked_pair.specs.declared.mark.Mark.{Mark}
use Rattle.marked_pair.specs.declared.mark.Mark.TheVariants.{Unknown, Synced}

-- The base is read with the mark where one is known, and a stop leaves one where it is synced.
pub record IsBehind (mark : Mark) (base : Blocks) (may_leave : Blocks → Blocks → Type 0) : Type 0 where
  pub written : ¬ (mark ≡ Unknown) → IsMarked base
  pub synced : mark ≡ Synced → (a b : Blocks) → may_leave a b → IsMarked a

-- Of the first n blocks of a base all but the gate are as they were; and where it had no header, nothing is
-- in the journal but its gate and its count.
pub record IsPlain (n : ℕ) (base a b : Blocks) : Type 0 where
  pub there : n ≤ length a
  pub same : (k : ℕ) → 0 < k → k < n → block_at k a ≡ block_at k base
  pub few : n < 2 → length b ≤ 2

-- What a stop leaves of a session that found so many blocks: a base with the mark, or one none of whose
-- blocks but the gate has changed; and one with the mark where there was one.
pub record IsLeft (n : ℕ) (base a b : Blocks) : Type 0 where
  pub plain : ¬ IsMarked a → IsPlain n base a b
  pub found : IsMarked base → IsMarked a

-- a stop leaves this base and no other
abbrev pub LeavesBase : Blocks → (Blocks → Blocks → Type 0) → Type 0
LeavesBase base may_leave = (a b : Blocks) → may_leave a b → a ≡ base

-- a stop leaves this base and this journal, and nothing else
abbrev pub IsSynced : Blocks → Blocks → (Blocks → Blocks → Type 0) → Type 0
IsSynced base journal may_leave = (a b : Blocks) → may_leave a b → (a ≡ base) × (b ≡ journal)

-- The same of a pair that was taken over as p, at each moment since, and by what is known of the mark.
pub record IsSession {P : Type 0} (base : P → Blocks) (moment : P → ℕ)
    (left_since : P → ℕ → Blocks → Blocks → Type 0) (may_leave : P → Blocks → Blocks → Type 0) (mark : Mark)
    (n : ℕ) (p now : P) : Type 0 where
  pub later : moment p ≤ moment now
  pub plain : ¬ (mark ≡ Synced) → (a b : Blocks) → may_leave now a b → IsPlain n (base p) a b
  pub found : IsMarked (base p) → IsMarked (base now)
  pub since : (a b : Blocks) → left_since now (moment p) a b → IsLeft n (base p) a b

-- of the pair that was noted
abbrev pub IsSessionOf : {P : Type 0} → (P → Blocks) → (P → ℕ) → (P → ℕ → Blocks → Blocks → Type 0)
    → (P → Blocks → Blocks → Type 0) → Mark → ℕ → List (P × ℕ) → P → Type 0
IsSessionOf {P = P} base moment left_since may_leave mark kept first now = (p : P) → first ≡ (p, kept) ∷ []
    → IsSession base moment left_since may_leave mark kept p now
