use Rattle.std.proofs.Common.{sym, ◌∙◌, refl, arith, length-append}
use Rattle.std.proofs.lemmas.List.{get_or_append_left, get_or-append_right}
use Rattle.box_import.proofs.DigitLemmas.{digit_small, digit_worth}
use Rattle.box_import.proofs.between.digit_at.Goals.{then-at-whole, else-at-whole}
use Rattle.box_import.proofs.between.digit_at.Goals as goal

pub returns-clause-value : goal.returns-clause-value
returns-clause-value c =
    let long = length-append c.args.whole.now c.args.fraction.now in
    c.from.ensures ∙ digit_worth _ c.args.at _ c.requires.digits (omega arith)
    (elim c.if-at-whole.branch [
      | then-at-whole w ↦ w.byte-is ∙ sym (get_or_append_left _ _ 0 _ w.if-at-whole.true)
      | else-at-whole w ↦ w.byte-is ∙ sym (get_or-append_right _ _ _ _ 0 refl w.if-at-whole.false)
    ])

pub returns-clause-digit : goal.returns-clause-digit
returns-clause-digit c =
    let long = length-append c.args.whole.now c.args.fraction.now in
    let small = digit_small _ c.args.at c.requires.digits (omega arith) in
    omega (arith, small, returns-clause-value c)
