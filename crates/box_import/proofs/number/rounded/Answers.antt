use Rattle.std.proofs.Common.{◌≡◌, rules, ap, ◌∙◌, sym}
use Rattle.fast_float.specs.Text.{scan}
use Rattle.box_import.specs.Decimals.{numeral}
use Rattle.box_import.proofs.ScaledLemmas.{rounded_negative, refused_negative, refused_positive}
use Rattle.box_import.proofs.number.rounded.Goals as goal

pub returns-in-Some-clause-rounded : goal.returns-in-Some-clause-rounded
returns-in-Some-clause-rounded c =
    let is : c.scan-numeral.result ≡ numeral c.args.text.now
    = c.scan-numeral.ensures.parts ∙ ap scan c.signed-negative.ensures.rest in (
      search rules,
      rounded_negative c.args.text.now c.args.scale.value _ _ c.scan-numeral.result is
          c.size_of-size.ensures.value c.size_of-size.ensures.ordered _ _
          (sym c.signed-negative.ensures.negative ∙ c.if-negative.true) c.in-Some.ensures.2
          c.in-Some.ensures.0 c.in-Some.ensures.1,
    )

pub returns-in-None-clause-refused : goal.returns-in-None-clause-refused
returns-in-None-clause-refused c =
    let is : c.scan-numeral.result ≡ numeral c.args.text.now
    = c.scan-numeral.ensures.parts ∙ ap scan c.signed-negative.ensures.rest in (
      search rules,
      refused_negative c.args.text.now c.args.scale.value _ _ c.scan-numeral.result is
          c.size_of-size.ensures.value c.size_of-size.ensures.ordered
          (sym c.signed-negative.ensures.negative ∙ c.if-negative.true) c.in-None.ensures,
    )

pub returns-in-None-from_zero-clause-refused : goal.returns-in-None-from_zero-clause-refused
returns-in-None-from_zero-clause-refused c =
    let is : c.scan-numeral.result ≡ numeral c.args.text.now
    = c.scan-numeral.ensures.parts ∙ ap scan c.signed-negative.ensures.rest in (
      search rules,
      refused_positive c.args.text.now c.args.scale.value _ _ c.scan-numeral.result is
          c.size_of-size.ensures.value c.size_of-size.ensures.ordered
          (sym c.signed-negative.ensures.negative ∙ c.if-negative.false) c.in-None-from_zero.ensures,
    )
