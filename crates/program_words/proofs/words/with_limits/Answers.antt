-- Both words have the rules that are said.
use Rattle.std.proofs.Common.{◌∙◌, ap, ap₂}
use Rattle.std.proofs.lemmas.Result.{IfOk-weaker}
use Rattle.clap.specs.Words.{with_rule}
use Rattle.program_words.proofs.words.with_limits.Goals as goal

pub returns : goal.returns
returns c =
    IfOk-weaker c.arg-2.result _ _
    (λ r h.
    h.shape c.format_word.ensures.own
    ∙ ap₂ with_rule
    (c.in_ok-arg.ensures.shape c.cache_word.ensures.own
    ∙ ap (with_rule _) c.cache_word.ensures.rule)
    c.format_word.ensures.rule)
    c.arg-2.ensures
