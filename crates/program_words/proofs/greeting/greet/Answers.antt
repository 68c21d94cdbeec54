-- One write appends a front of the line, or nothing.
use Rattle.std.proofs.Common.{ℕ, List, [], take, Option, Some, None, Result, Ok, Err, append-nil, refl, sym}
use Rattle.std.proofs.Common.{◌∙◌}
use Rattle.std.specs.Io.KnownBytes.{Appends, Keeps, WriteAppends}

nothing : (a b : Option (List ℕ)) → Keeps a b → Appends a b []
nothing None b h = tt
nothing (Some xs) None h = elim h [ ]
nothing (Some xs) (Some ys) h = h ∙ sym (append-nil xs)

kept : (a : Option (List ℕ)) → Keeps a a
kept None = tt
kept (Some xs) = refl

some_said : {F : Type 0} (a b : Option (List ℕ)) (r : Result ℕ F) (line : List ℕ) → WriteAppends a b r line
    → (said : List ℕ) × Appends a b said
some_said a b (Ok n) line h = (take n line, h)
some_said a b (Err f) line h = ([], nothing a b h)
