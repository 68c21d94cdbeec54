-- One box and the window.
use Rattle.std.proofs.Common.{◌≡◌, true, false, sym, ap, ◌∙◌, arith, rules}
use Rattle.std.proofs.lemmas.Int.{to_z-of_z}
use Rattle.box_math.specs.Bounds.{all_over}
use Rattle.box_math.proofs.MaskLemmas.{meets_by_axes, meets_on, one_axis_fails, one_axis_more}
use Rattle.box_math.proofs.masks.meets_in.Goals as goal

pub returns-then-not-both_at_most : goal.returns-then-not-both_at_most
returns-then-not-both_at_most g c =
    let t = meets_on c.args.low.now c.args.high.now c.args.window.now c.args.place in
    let fails : t c.loop-axis.axis ≡ false =
    search (rules, to_z-of_z, c.both_at_most.ensures, c.if-not-both_at_most.true) in
    sym (one_axis_fails g.row.D t c.loop-axis.axis (omega arith) fails)
    ∙ meets_by_axes g.row.D c.args.low.now c.args.high.now c.args.window.now c.args.place

pub loop-axis-preserved : goal.loop-axis-preserved
loop-axis-preserved g c =
    let t = meets_on c.args.low.now c.args.high.now c.args.window.now c.args.place in
    let passes : t c.loop-axis.axis ≡ true =
    search (rules, to_z-of_z, c.both_at_most.ensures, c.if-not-both_at_most.false) in
    one_axis_more t c.loop-axis.axis c.loop-axis.invariant passes

pub returns : goal.returns
returns g c =
    let t = meets_on c.args.low.now c.args.high.now c.args.window.now c.args.place in
    let end : c.loop-axis.axis ≡ g.row.D = omega arith in
    sym c.loop-axis.invariant ∙ ap (λ n. all_over n t) end
    ∙ meets_by_axes g.row.D c.args.low.now c.args.high.now c.args.window.now c.args.place
