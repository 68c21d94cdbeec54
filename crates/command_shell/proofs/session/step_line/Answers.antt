-- The goals of `step_line` that are proved by hand.
use Rattle.std.proofs.Common.{◌≡◌, ◌∙◌, ℕ, Option, List, [], ◌∷◌, ◌++◌, take, false, ap, subst, sym}
use Rattle.std.specs.Io.KnownBytes.{IsAtEnd}
use Rattle.command_language.specs.Lines.{newline}
use Rattle.command_language.specs.Meanings.{Loads, meaning_of}
use Rattle.command_language.specs.Pending.{Finds, pending}
use Rattle.command_language.specs.Reading.{BeginsLine, ReadsTo}
use Rattle.command_language.specs.Said.{said}
use Rattle.reply_texts.specs.Refused.{IsFrontOf}
use Rattle.command_language.specs.declared.lines.Found.TheVariants as Found
use Rattle.command_language.proofs.TextLemmas.{lines_of-line}
use Rattle.command_language.proofs.ReadLemmas.{line_read, one_line}
use Rattle.command_shell.proofs.SessionLemmas.{steps_line}
use Rattle.command_shell.proofs.StrictLemmas.{one_request}
use Rattle.command_shell.proofs.session.step_line.Goals as goal

-- the line that is pending was found there
found_line : (before after : Option (List ℕ)) (at_end : Type 0) (unread mid : List ℕ) (n : ℕ)
    → ReadsTo before after (λ more. unread ++ more ≡ mid) → BeginsLine mid n
    → ReadsTo before after (λ more. Finds at_end (Found.Line n) (unread ++ more) mid)
found_line before after at_end unread mid n reads begins =
    record {
      more = reads.more;
      read = reads.read;
      so = (sym reads.so, subst (λ (b : List ℕ). BeginsLine b n) (sym reads.so) begins);
    }

pub returns-in-Load-clause-steps : goal.returns-in-Load-clause-steps
returns-in-Load-clause-steps g c = λ before unread reads.
    let r = g.R.Read.remaining c.args.input.now in
    let mid = pending c.args.lines.now in
    let n = c.args.len in
    let found = found_line before r (IsAtEnd r) unread mid n reads c.requires in
    c.load.ensures.steps before unread (take n mid) c.in-Load.layer.now
    (one_line before r unread mid (pending c.take.new.self) n (IsAtEnd r) found)
    (subst (λ l. IsFrontOf c.of-front.result l []) c.front.ensures c.of-front.ensures)
    (subst (λ count. meaning_of (take n mid) ≡ Loads c.in-Load.layer.now count)
    (sym c.new-gathered.ensures.announced)
    (sym (c.parse_line-line.ensures ∙ ap meaning_of c.front-2.ensures) ∙ ap said c.in-Load.is))
    c.new-gathered.ensures.nothing
    (line_read before r unread mid (pending c.take.new.self) n (IsAtEnd r) found c.take.ensures.pending)

pub returns-clause-steps : goal.returns-clause-steps
returns-clause-steps g c = λ before unread reads.
    let r = g.R.Read.remaining c.args.input.now in
    let mid = pending c.args.lines.now in
    let n = c.args.len in
    let left = pending c.take-2.new.self in
    let found = found_line before r (IsAtEnd r) unread mid n reads c.requires in
    steps_line _ (one_request c.args.store.now c.answer-written.new.store) before r
    (g.W.Write.contents c.args.output.now)
    (g.W.Write.contents c.answer-written.new.output) unread left (take n mid ++ newline ∷ [])
    (take n mid) _ c.of-front.result false c.step_of.result c.answer-written.result c.step_of.ensures
    (line_read before r unread mid left n (IsAtEnd r) found c.take-2.ensures.pending)
    (lines_of-line (take n mid) (one_line before r unread mid left n (IsAtEnd r) found))
    (c.parse_line-line.ensures ∙ ap meaning_of c.front-2.ensures)
    (subst (λ l. IsFrontOf c.of-front.result l []) c.front.ensures c.of-front.ensures) c.answer-written.ensures
