-- The program's words are those that `program` says.
use Rattle.std.proofs.Common.{◌∙◌, ap, ap₂}
use Rattle.std.proofs.lemmas.Result.{IfOk-weaker}
use Rattle.clap.specs.Words.{App, with_rule}
use Rattle.program_words.specs.Words.{cache_rule, create_rule, format_rule, import_rules, read_only_rule}
use Rattle.program_words.specs.Words.{show_rules, strict_rule}
use Rattle.program_words.proofs.words.command.Goals as goal

pub returns : goal.returns
returns c =
    IfOk-weaker c.arg.result _ _
    (λ r h.
    h.shape c.file_word.ensures.own
    ∙ ap₂ with_rule
    (c.in_ok-with_import.ensures
    ∙ ap import_rules
    (c.in_ok-with_shows.ensures
    ∙ ap show_rules
    (c.in_ok-plain.ensures
    ∙ ap (λ (a : App). with_rule (with_rule (with_rule a create_rule) read_only_rule) strict_rule)
    (c.in_ok-limited.ensures
    ∙ ap (λ (a : App). with_rule (with_rule a cache_rule) format_rule) c.without_words.ensures))))
    c.file_word.ensures.rule)
    c.arg.ensures
