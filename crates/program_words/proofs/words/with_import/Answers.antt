-- The words of an import are those that `import_rules` says.
use Rattle.std.proofs.Common.{◌∙◌, ap, ap₂}
use Rattle.std.proofs.lemmas.Result.{IfOk-weaker}
use Rattle.clap.specs.Words.{with_rule}
use Rattle.program_words.proofs.words.with_import.Goals as goal

pub returns : goal.returns
returns c =
    IfOk-weaker c.arg-5.result _ _
    (λ r h.
    h.shape c.flag.ensures.own
    ∙ ap₂ with_rule
    (c.in_ok-arg-4.ensures.shape c.valued-4.ensures.own
    ∙ ap₂ with_rule
    (c.in_ok-arg-3.ensures.shape c.valued-3.ensures.own
    ∙ ap₂ with_rule
    (c.in_ok-arg-2.ensures.shape c.valued-2.ensures.own
    ∙ ap₂ with_rule
    (c.in_ok-arg.ensures.shape c.valued.ensures.own
    ∙ ap (with_rule _) c.valued.ensures.rule)
    c.valued-2.ensures.rule) c.valued-3.ensures.rule) c.valued-4.ensures.rule)
    c.flag.ensures.rule)
    c.arg-5.ensures
