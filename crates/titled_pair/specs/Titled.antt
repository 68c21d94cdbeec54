-- What a stop leaves of a pair whose journal has a title.
use Rattle.std.specs.Prelude.{◌≡◌, ◌≤◌, ℕ, List, [], ◌∷◌, length}
use Rattle.block_device.specs.Device.{Blocks}
use Rattle.titled_pair.specs.Title.{untitled, HasTitle}

-- these outcomes of a stop, the journal behind its title
abbrev pub Untitled : (Blocks → Blocks → Type 0) → Blocks → Blocks → Type 0
Untitled outcomes a b = (e : Blocks) × outcomes a e × (b ≡ untitled e)

-- What stands of a pair that was taken over as p: each stop since then leaves the title that its journal had.
pub record IsOf {P : Type 0} (journal : P → Blocks) (moment : P → ℕ)
    (left_since : P → ℕ → Blocks → Blocks → Type 0) (p now : P) : Type 0 where
  pub later : moment p ≤ moment now
  pub title : (a e : Blocks) → left_since now (moment p) a e → HasTitle (journal p) e

-- the same of the pair that was noted
abbrev pub StaysTitled : {P : Type 0} → (P → Blocks) → (P → ℕ) → (P → ℕ → Blocks → Blocks → Type 0)
    → List (P × ℕ) → P → Type 0
StaysTitled {P = P} journal moment left_since first now = (p : P) (n : ℕ) → first ≡ (p, n) ∷ []
    → IsOf journal moment left_since p now

-- there is room for a title, whatever a stop leaves
abbrev pub HasRoom : (Blocks → Blocks → Type 0) → Type 0
HasRoom outcomes = (a e : Blocks) → outcomes a e → 2 ≤ length e
