-- The flags have the rules that are said.
use Rattle.std.proofs.Common.{◌∙◌, ap, ap₂}
use Rattle.std.proofs.lemmas.Result.{IfOk-weaker}
use Rattle.clap.specs.Words.{with_rule}
use Rattle.program_words.proofs.words.with_flags.Goals as goal

pub returns : goal.returns
returns c =
    IfOk-weaker c.arg-3.result _ _
    (λ r h.
    h.shape c.flag-3.ensures.own
    ∙ ap₂ with_rule
    (c.in_ok-arg-2.ensures.shape c.flag-2.ensures.own
    ∙ ap₂ with_rule
    (c.in_ok-arg.ensures.shape c.flag.ensures.own
    ∙ ap (with_rule _) c.flag.ensures.rule)
    c.flag-2.ensures.rule)
    c.flag-3.ensures.rule)
    c.arg-3.ensures
