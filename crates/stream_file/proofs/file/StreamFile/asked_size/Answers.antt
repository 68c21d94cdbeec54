-- The size is the number that the bytes of the answer spell.
use Rattle.std.proofs.Common.{◌∙◌, ◌++◌, List, None, Option, Some, ap, sym, ℕ, rules}
use Rattle.std.proofs.lemmas.List.{append_assoc}
use Rattle.std.specs.Io.KnownBytes.{Consumes}
use Rattle.stream_file.proofs.file.StreamFile.asked_size.Goals as goal

-- what is read in two parts
consumes_twice : (old mid new : Option (List ℕ)) (a b : List ℕ) → Consumes old mid a → Consumes mid new b
    → Consumes old new (a ++ b)
consumes_twice None mid new a b p q = tt
consumes_twice (Some xs) None new a b p q = absurd p
consumes_twice (Some xs) (Some ys) None a b p q = absurd q
consumes_twice (Some xs) (Some ys) (Some zs) a b p q = p ∙ ap (λ l. a ++ l) q ∙ sym (append_assoc a b zs)

pub returns-clause-asked : goal.returns-clause-asked
returns-clause-asked g c = (
  c.read_exact.new.buf,
  search rules,
  c.from_le_bytes.ensures,
  record {
    asked = c.in_ok-send.ensures;
    answered = consumes_twice _ _ _ _ _ c.in_ok-read_exact.ensures.bytes c.in_ok-outcome.ensures;
  },
)
