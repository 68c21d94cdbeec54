-- What a writer was given, where its bytes are known.
use Rattle.std.specs.Prelude.{ℕ, ◌<◌, List, length, take, Option, Result, MatchResult}
use Rattle.std.specs.Io.KnownBytes.{Appends}

-- a front of the text was appended, which is not all of it
abbrev pub AppendsFront : Option (List ℕ) → Option (List ℕ) → List ℕ → Type 0
AppendsFront old new text = (n : ℕ) × (n < length text) × Appends old new (take n text)

-- a front of the text was appended, or all of it
abbrev pub AppendsSome : Option (List ℕ) → Option (List ℕ) → List ℕ → Type 0
AppendsSome old new text = (n : ℕ) × Appends old new (take n text)

-- the text was appended, or on a fault a front of it
abbrev pub Writes : {E T : Type 0} → Option (List ℕ) → Option (List ℕ) → Result T E → List ℕ → Type 0
Writes old new result text = MatchResult result (λ _. Appends old new text) (λ _. AppendsFront old new text)
