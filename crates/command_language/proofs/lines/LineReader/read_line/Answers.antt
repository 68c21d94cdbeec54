-- The goals of `LineReader::read_line` that are proved by hand.
use Rattle.std.proofs.Common.{◌≡◌, ℕ, List, ◌++◌, Option, Result, Ok, Err, MatchResult, ap, ◌∙◌, subst}
use Rattle.std.proofs.Common.{append_assoc}
use Rattle.command_language.specs.Lines.{IsOneLine}
use Rattle.std.specs.Io.KnownBytes.{IsAtEnd}
use Rattle.command_language.specs.Pending.{pending, Finds}
use Rattle.command_language.specs.Reading.{ReadsTo}
use Rattle.command_language.proofs.ReadLemmas.{reads_on}
use Rattle.command_language.proofs.lines.LineReader.read_line.Goals as goal

passed : {T E : Type 0} (old mid new : Option (List ℕ)) (result : Result T E) (p0 p1 : List ℕ)
    (Q : T → List ℕ → Type 0) → ReadsTo old mid (λ more. p1 ≡ p0 ++ more)
    → MatchResult result (λ found. ReadsTo mid new (λ more. Q found (p1 ++ more)))
    (λ _. ReadsTo mid new (λ more. IsOneLine (p1 ++ more)))
    → MatchResult result (λ found. ReadsTo old new (λ more. Q found (p0 ++ more)))
    (λ _. ReadsTo old new (λ more. IsOneLine (p0 ++ more)))
passed old mid new (Ok found) p0 p1 Q a b =
    reads_on a b (λ x y e q. subst (Q found) (ap (λ t. t ++ y) e ∙ append_assoc p0 x y) q)
passed old mid new (Err e) p0 p1 Q a b =
    reads_on a b (λ x y e q. subst IsOneLine (ap (λ t. t ++ y) e ∙ append_assoc p0 x y) q)

pub returns-then-seen-gt-MAX_LINE-clause-found : goal.returns-then-seen-gt-MAX_LINE-clause-found
returns-then-seen-gt-MAX_LINE-clause-found g c =
    passed (g.R.Read.remaining c.args.reader.now) (g.R.Read.remaining c.loop-at.reader)
    (g.R.Read.remaining c.pass_line.new.reader) c.pass_line.result (pending c.args.self.now)
    (pending c.loop-at.self)
    (λ found bytes. Finds (IsAtEnd (g.R.Read.remaining c.pass_line.new.reader)) found bytes
    (pending c.pass_line.new.self)) c.loop-at.invariant.text c.pass_line.ensures.found
