-- The goals of `step` that are proved by hand.
use Rattle.std.proofs.Common.{◌≡◌, ℕ, List, Option, [], ◌∷◌, ◌++◌, true, false, refl, subst, ap, sym, ◌∙◌}
use Rattle.std.specs.Io.KnownBytes.{IsAtEnd}
use Rattle.layer_store.specs.Calls.{Calls}
use Rattle.command_language.specs.Lines.{newline}
use Rattle.command_language.specs.Meanings.{meaning_of}
use Rattle.command_language.specs.Pending.{Finds, pending}
use Rattle.command_language.specs.Reading.{BeginsLine, Reads, ReadsTo}
use Rattle.reply_texts.specs.Refused.{IsFrontOf}
use Rattle.command_shell.specs.TextCommands.{AreCommands}
use Rattle.command_language.specs.declared.lines.Found.TheVariants as Found
use Rattle.command_shell.specs.TextCommands.IsUnfinished.{in_line}
use Rattle.command_language.proofs.TextLemmas.{lines_of-line, long_meaning}
use Rattle.command_language.proofs.ReadLemmas.{begun_read, last_read, last_front, last_left, last_line}
use Rattle.command_language.proofs.ReadLemmas.{long_read, long_last_read, long_last_line, end_read}
use Rattle.command_shell.proofs.SessionLemmas.{ends_there, fails_there, last_refused, steps_after, steps_line}
use Rattle.command_shell.proofs.StrictLemmas.{one_request}
use Rattle.command_shell.proofs.session.step.Goals as goal

-- what was found is pending
pending_read : (before after : Option (List ℕ)) (at_end : Type 0) (bytes mid : List ℕ) (n : ℕ)
    → ReadsTo before after (λ more. Finds at_end (Found.Line n) (bytes ++ more) mid)
    → ReadsTo before after (λ more. bytes ++ more ≡ mid)
pending_read before after at_end bytes mid n found =
    record { more = found.more; read = found.read; so = sym found.so.0 }

pub step_line-requires : goal.step_line-requires
step_line-requires g c =
    let found = rw c.in-Ok-Line.field-0-is at c.in-Ok-Line.ensures.found in
    subst (λ (b : List ℕ). BeginsLine b c.in-Ok-Line.len) (sym found.so.0) found.so.1

pub returns-in-Ok-Line-clause-steps : goal.returns-in-Ok-Line-clause-steps
returns-in-Ok-Line-clause-steps g c =
    let r = g.R.Read.remaining c.args.input.now in
    let r' = g.R.Read.remaining c.find.new.reader in
    let bytes = pending c.args.lines.now in
    let found = rw c.in-Ok-Line.field-0-is at c.in-Ok-Line.ensures.found in
    c.step_line.ensures.steps r bytes
    (pending_read r r' (IsAtEnd r') bytes (pending c.find.new.self) c.in-Ok-Line.len found)

pub returns-in-Ok-Last-clause-steps : goal.returns-in-Ok-Last-clause-steps
returns-in-Ok-Last-clause-steps g c =
    let r = g.R.Read.remaining c.args.input.now in
    let r' = g.R.Read.remaining c.find.new.reader in
    let w = g.W.Write.contents c.args.output.now in
    let w' = g.W.Write.contents c.answer_last-written.new.output in
    let mid = pending c.find.new.self in
    let bytes = pending c.args.lines.now in
    let left = pending c.take.new.self in
    let n = c.in-Ok-Last.len in
    let at_end = IsAtEnd r' in
    let found = rw c.in-Ok-Last.field-0-is at c.in-Ok-Last.ensures.found in
    let line = last_line r r' bytes mid n at_end found in
    let whole = last_front r r' bytes mid n at_end found in
    let reads =
    last_read r r' bytes mid left n found
    (c.take.ensures.pending ∙ last_left r r' bytes mid n at_end found) in
    let means = c.parse_line.ensures ∙ ap meaning_of (c.front-in-Ok-Last.ensures ∙ whole) in
    let a = c.answer_last-written.ensures mid means in
    let begins = subst (λ l. IsFrontOf c.of-front.result l []) (c.front.ensures ∙ whole) c.of-front.ensures in
    let So = Calls c.args.store.now c.answer_last-written.new.store in
    steps_after So r r' w w' bytes left mid a.requests a.answers c.of-front.result 1 true c.step_of.result
    c.answer_last-written.result c.step_of.ensures reads
    (subst (λ (ls : List (List ℕ)). AreCommands true ls a.requests) (sym line) a.asked) a.lawful.lawful
    a.written a.lawful.tells (λ more. absurd (cc))
    (last_refused So (one_request c.args.store.now c.answer_last-written.new.store) c.of-front.result mid
    a.requests a.answers line begins a.asked a.lawful.lawful)

pub returns-in-Ok-TooLong-clause-steps : goal.returns-in-Ok-TooLong-clause-steps
returns-in-Ok-TooLong-clause-steps g c =
    let left = pending c.find.new.self in
    let bytes = pending c.args.lines.now in
    let at_end = IsAtEnd (g.R.Read.remaining c.find.new.reader) in
    let found = rw c.in-Ok-TooLong.field-0-is at c.in-Ok-TooLong.ensures.found in
    steps_line _ (one_request c.args.store.now c.answer-written.new.store)
    (g.R.Read.remaining c.args.input.now) (g.R.Read.remaining c.find.new.reader)
    (g.W.Write.contents c.args.output.now) (g.W.Write.contents c.answer-written.new.output) bytes left
    (found.so.0 ++ newline ∷ []) found.so.0 _ c.of_too_long.result false c.step_of-in-Ok-TooLong.result
    c.answer-written.result c.step_of-in-Ok-TooLong.ensures
    (long_read (g.R.Read.remaining c.args.input.now) (g.R.Read.remaining c.find.new.reader) bytes left at_end
    found)
    (lines_of-line found.so.0 found.so.2)
    (long_meaning found.so.0 found.so.1) (c.of_too_long.ensures found.so.0 found.so.1) c.answer-written.ensures

pub returns-in-Ok-LastTooLong-clause-steps : goal.returns-in-Ok-LastTooLong-clause-steps
returns-in-Ok-LastTooLong-clause-steps g c =
    let left = pending c.find.new.self in
    let bytes = pending c.args.lines.now in
    let found = rw c.in-Ok-LastTooLong.field-0-is at c.in-Ok-LastTooLong.ensures.found in
    let line = bytes ++ found.more in
    steps_line _ (one_request c.args.store.now c.answer-written-in-Ok-LastTooLong.new.store)
    (g.R.Read.remaining c.args.input.now) (g.R.Read.remaining c.find.new.reader)
    (g.W.Write.contents c.args.output.now) (g.W.Write.contents c.answer-written-in-Ok-LastTooLong.new.output)
    bytes left line line _ c.of_too_long-in-Ok-LastTooLong.result true c.step_of-in-Ok-LastTooLong.result
    c.answer-written-in-Ok-LastTooLong.result c.step_of-in-Ok-LastTooLong.ensures
    (long_last_read (g.R.Read.remaining c.args.input.now) (g.R.Read.remaining c.find.new.reader) bytes left
    found)
    (long_last_line line found.so.0 found.so.1)
    (long_meaning line found.so.0) (c.of_too_long-in-Ok-LastTooLong.ensures line found.so.0)
    c.answer-written-in-Ok-LastTooLong.ensures

pub returns-in-Ok-End-clause-steps : goal.returns-in-Ok-End-clause-steps
returns-in-Ok-End-clause-steps g c =
    let bytes = pending c.args.lines.now in
    let found = rw c.in-Ok-End.field-0-is at c.in-Ok-End.ensures.found in
    let left = pending c.find.new.self in
    ends_there _ refl (g.R.Read.remaining c.args.input.now) (g.R.Read.remaining c.find.new.reader)
    (g.W.Write.contents c.args.output.now) bytes left
    (subst (λ l. Reads true (g.R.Read.remaining c.args.input.now) (g.R.Read.remaining c.find.new.reader)
    bytes l []) found.so.0
    (end_read (g.R.Read.remaining c.args.input.now) (g.R.Read.remaining c.find.new.reader) bytes left
    found))

pub returns-in-Err-clause-steps : goal.returns-in-Err-clause-steps
returns-in-Err-clause-steps g c =
    let bytes = pending c.args.lines.now in
    fails_there _ refl (g.R.Read.remaining c.args.input.now) (g.R.Read.remaining c.find.new.reader)
    (g.W.Write.contents c.args.output.now) bytes (pending c.find.new.self) _
    (in_line c.in-Err.ensures.found.so)
    (begun_read (g.R.Read.remaining c.args.input.now) (g.R.Read.remaining c.find.new.reader) bytes
    c.in-Err.ensures.found)
