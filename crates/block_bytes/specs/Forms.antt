-- What holds of each way in which pages spell something: a function that reads a page, and the bytes that it
-- names there.
use Rattle.std.specs.Prelude.{◌≡◌, ℕ, List, Option, Some}
use Rattle.block_bytes.specs.Numbers.{number_at, AreBytes}

-- the pages have the same byte wherever the first names one
abbrev pub SameNamed : (List ℕ → ℕ → Type 0) → List ℕ → List ℕ → Type 0
SameNamed IsNamed a b = (k : ℕ) → IsNamed a k → number_at 1 k a ≡ number_at 1 k b

-- only named bytes are read
abbrev pub ReadsNamed : {X : Type 0} → (List ℕ → Option X) → (List ℕ → ℕ → Type 0) → Type 0
ReadsNamed read IsNamed = (a b : List ℕ) → SameNamed IsNamed a b → read a ≡ read b

-- the page of what it spells: each byte that is not named is zero
pub record IsPageOf {X : Type 0} (read : List ℕ → Option X) (IsNamed : List ℕ → ℕ → Type 0) (page : List ℕ)
    (x : X) : Type 0 where
  pub spelled : read page ≡ Some x
  pub rest : (k : ℕ) → (IsNamed page k → ⊥) → number_at 1 k page ≡ 0

-- there is one page of each thing that is spelled
abbrev pub HasOnePage : {X : Type 0} → (List ℕ → Option X) → (List ℕ → ℕ → Type 0) → Type 0
HasOnePage {X} read IsNamed = (a b : List ℕ) (x : X) → AreBytes a → AreBytes b → IsPageOf read IsNamed a x
    → IsPageOf read IsNamed b x
    → (k : ℕ) → number_at 1 k a ≡ number_at 1 k b
