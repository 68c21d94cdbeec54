-- The streams of a run.
use Rattle.std.specs.Prelude.{ℕ, List, Option}

-- The reader and the writer at one moment; and what the reader still has, what the writer was given and what was
-- said among the errors, where these make their bytes known.
pub record Streams (R W : Type 0) : Type 0 where
  pub input : R
  pub output : W
  pub unread : Option (List ℕ)
  pub written : Option (List ℕ)
  pub said : Option (List ℕ)

-- those of these, by how each makes its bytes known
abbrev pub streams : {R W E : Type 0} → (R → Option (List ℕ)) → (W → Option (List ℕ)) → (E → Option (List ℕ))
    → R → W → E → Streams R W
streams remaining written said input output errors = record {
  input = input;
  output = output;
  unread = remaining input;
  written = written output;
  said = said errors;
}
