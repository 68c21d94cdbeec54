-- The columns' least and greatest numbers are the corners of the least box.
use Rattle.std.proofs.Common.{◌∙◌, rules, arith}
use Rattle.node_bytes.proofs.LeastLemmas.{made_is_box, made_is_least}
use Rattle.node_bytes.proofs.columns.least_in.Goals as goal

pub new-requires : goal.new-requires
new-requires g c =
    let i = c.loop-axis.invariant in
    let box =
    made_is_box g.row.D c.args.from c.args.count c.args.page.now c.loop-axis.low c.loop-axis.high c.requires.count.0
    c.fits-page i.low_size i.high_size c.requires.ordered
    (λ axis h. i.lows axis (omega arith)) (λ axis h. i.highs axis (omega arith)) in
    (search rules, (search rules, box))

pub returns : goal.returns
returns g c =
    let i = c.loop-axis.invariant in
    c.new.ensures
    ∙ made_is_least g.row.D c.args.from c.args.count c.args.page.now c.loop-axis.low c.loop-axis.high
    c.requires.count.0 c.fits-page i.low_size i.high_size c.requires.ordered
    (λ axis h. i.lows axis (omega arith)) (λ axis h. i.highs axis (omega arith))
