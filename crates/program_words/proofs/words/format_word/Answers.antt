-- The number is read within its range.
use Rattle.std.proofs.Common.{◌≡◌, ◌∙◌, ap, codes}
use Rattle.std.specs.Prelude.{pos}
use Rattle.clap.specs.declared.builder.value_parser.ValueParser.{ValueParser}
use Rattle.clap.specs.declared.builder.value_parser.ValueParser.TheVariants.{Signed}
use Rattle.program_words.specs.Words.{number_rule}
use Rattle.program_words.proofs.words.format_word.Goals as goal

pub returns-clause-rule : goal.returns-clause-rule
returns-clause-rule c =
    let read : c.range.result ≡ Signed (pos 2) (pos 3) =
    rw (c.value_parser.ensures, c.new.ensures.start, c.new.ensures.end) at c.range.ensures in
    c.number.ensures.rule ∙ ap (λ (p : ValueParser). number_rule (codes "format") p (codes "3")) read
