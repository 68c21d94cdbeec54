-- The goals of `LineReader::pass_line` that are proved by hand.
use Rattle.std.proofs.Common.{◌≡◌, ◌++◌, ◌∷◌, [], arith, List, ℕ, append_assoc, sym, ap, ◌∙◌, subst, length}
use Rattle.std.proofs.Common.{take, drop, ◌<◌, ◌+◌, refl, take, length-append, add-one}
use Rattle.std.specs.Prelude.{Option}
use Rattle.std.specs.Io.KnownBytes.{IsAtEnd}
use Rattle.command_language.specs.Lines.{newline, IsOneLine}
use Rattle.command_language.specs.Reading.{ReadsTo, BeginsLine}
use Rattle.command_language.specs.Pending.{Finds, pending}
use Rattle.command_language.specs.declared.lines.Found.TheVariants as Found
use Rattle.std.proofs.lemmas.List.{take-append-drop, drop_all}
use Rattle.command_language.proofs.LineLemmas.{lines_join}
use Rattle.command_language.proofs.ReadLemmas.{reads_on}
use Rattle.command_language.proofs.lines.LineReader.pass_line.Goals as goal

no_length : (y : List ℕ) → length y ≡ 0 → y ≡ []
no_length [] e = refl
no_length (a ∷ y) e = absurd (omega arith)

module _ {old mid new : Option (List ℕ)} (p0 p1 p2 : List ℕ) (n : ℕ) (long : 4096 < length p0)
    (line : IsOneLine p0) (none : p1 ≡ []) (before : ReadsTo old mid (λ more. IsOneLine more))
    (now : ReadsTo mid new (λ more. (length more ≡ n) × (p2 ≡ p1 ++ more))) where
  skipped : IsOneLine p2 → ReadsTo old new (λ more. IsOneLine more)
  skipped h =
      reads_on before now (λ x y a b. lines_join x y a (subst IsOneLine (b.1 ∙ ap (λ t. t ++ y) none) h))

  ended : (at_end : Type 0) → at_end → n ≡ 0
      → ReadsTo old new (λ more. Finds at_end Found.LastTooLong (p0 ++ more) p2)
  ended at_end e z = reads_on before now (λ x y a b.
      let empty : y ≡ [] = no_length y (b.0 ∙ z) in (
        omega (arith, length-append p0 (x ++ y)),
        lines_join p0 (x ++ y) line (lines_join x y a (subst IsOneLine (sym empty) tt)),
        b.1
            ∙ ap (λ t. t ++ y) none ∙ empty,
        e,
      ))

  turned : (at_end : Type 0) (k : ℕ) (left : List ℕ) → BeginsLine p2 k → left ≡ drop (k + 1) p2
      → ReadsTo old new (λ more. Finds at_end Found.TooLong (p0 ++ more) left)
  turned at_end k left f e = reads_on before now (λ x y a b.
      let same : y ≡ take k p2 ++ newline ∷ left = sym (b.1 ∙ ap (λ t. t ++ y) none)
      ∙ sym (take-append-drop k p2)
      ∙ ap (λ t. take k p2 ++ t)
      (f.ends ∙ ap (λ t. newline ∷ t) (sym (e ∙ ap (λ j. drop j p2) (add-one k)))) in (
        p0 ++ (x ++ take k p2),
        omega (arith, length-append p0 (x ++ take k p2)),
        lines_join p0 (x ++ take k p2) line (lines_join x (take k p2) a f.line),
        ap (λ t. p0 ++ (x ++ t)) same ∙ ap (λ t. p0 ++ t) (sym (append_assoc x (take k p2) (newline ∷ left)))
            ∙ sym (append_assoc p0 (x ++ take k p2) (newline ∷ left)),
      ))

pub loop-self-preserved : goal.loop-self-preserved
loop-self-preserved g c = record {
  none = c.take-in-loop-self.ensures.pending
      ∙ drop_all (length c.pending-len-in-loop-self.result.now) (pending c.fill.new.self)
      (omega (arith, ap length c.pending-len-in-loop-self.ensures));
  text = skipped (pending c.args.self.now) (pending c.loop-self.self) (pending c.fill.new.self) _
      c.requires.long c.requires.line c.loop-self.invariant.none c.loop-self.invariant.text
      c.in_ok-fill.ensures.ok c.in_default.ensures;
  fewer = omega (arith, c.in_ok-fill.ensures.fewer);
  counted = λ before.
      let now = c.in_ok-fill.ensures.counted (c.loop-self.invariant.counted before) in
      omega (arith, now, c.take-in-loop-self.ensures.calls);
}

pub returns-clause-found : goal.returns-clause-found
returns-clause-found g c =
    ended (pending c.args.self.now) (pending c.loop-self.self) (pending c.fill.new.self) _ c.requires.long
    c.requires.line c.loop-self.invariant.none c.loop-self.invariant.text c.in_ok-fill.ensures.ok _
    (c.in_ok-fill.ensures.end (omega arith)) (omega arith)

pub returns-in-Some-clause-found : goal.returns-in-Some-clause-found
returns-in-Some-clause-found g c =
    turned (pending c.args.self.now) (pending c.loop-self.self) (pending c.fill.new.self) _ c.requires.long
    c.requires.line c.loop-self.invariant.none c.loop-self.invariant.text c.in_ok-fill.ensures.ok
    (IsAtEnd (g.R.Read.remaining c.fill.new.reader)) c.in-Some.at (pending c.take-in-Some.new.self)
    c.in-Some.ensures c.take-in-Some.ensures.pending
