-- The goals of `LineReader::newline` that are proved by hand.
use Rattle.std.proofs.Common.{drop, ap, ◌∙◌, subst, Some, None}
use Rattle.command_language.specs.Lines.{IsOneLine}
use Rattle.command_language.specs.Pending.{pending}
use Rattle.command_language.specs.Reading.{BeginsLine}
use Rattle.command_language.proofs.LineLemmas.{newline_found, none_later, begins_later}
use Rattle.command_language.proofs.lines.LineReader.newline.Goals as goal

pub returns-in-None : goal.returns-in-None
returns-in-None c =
    let xs = pending c.args.self.now in
    let rest = c.split_at.result.1.now in
    none_later xs c.args.seen c.requires.none_seen
    (subst IsOneLine (c.split_at.ensures.back ∙ ap (drop c.args.seen) c.pending.ensures)
    (newline_found rest None c.in-None.ensures))

pub returns-in-Some : goal.returns-in-Some
returns-in-Some c =
    let xs = pending c.args.self.now in
    let rest = c.split_at.result.1.now in
    begins_later xs c.args.seen c.in-Some.at c.requires.within c.requires.none_seen
    (subst (λ r. BeginsLine r c.in-Some.at)
    (c.split_at.ensures.back ∙ ap (drop c.args.seen) c.pending.ensures)
    (newline_found rest (Some c.in-Some.at) c.in-Some.ensures))
