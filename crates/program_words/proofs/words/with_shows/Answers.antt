-- The words by which something is shown are those that `show_rules` says.
use Rattle.std.proofs.Common.{◌∙◌, ap, ap₂}
use Rattle.std.proofs.lemmas.Result.{IfOk-weaker}
use Rattle.clap.specs.Words.{with_rule}
use Rattle.program_words.proofs.words.with_shows.Goals as goal

pub returns : goal.returns
returns c =
    IfOk-weaker c.arg-3.result _ _
    (λ r h.
    h.shape c.flag-2.ensures.own
    ∙ ap₂ with_rule
    (c.in_ok-arg-2.ensures.shape c.flag.ensures.own
    ∙ ap₂ with_rule
    (c.in_ok-arg.ensures.shape c.valued.ensures.own
    ∙ ap (with_rule _) c.valued.ensures.rule)
    c.flag.ensures.rule)
    c.flag-2.ensures.rule)
    c.arg-3.ensures
