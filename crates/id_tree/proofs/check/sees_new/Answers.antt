-- No identifier of 64 bits is above the greatest one.
use Rattle.std.proofs.Common.{◌<◌, ◌≤◌, ⊎_elim, arith}
use Rattle.std.proofs.lemmas.Bool.{cases_lt}
use Rattle.id_tree.specs.Checked.{most_identifier}
use Rattle.id_tree.proofs.check.sees_new.Goals as goal

pub returns-then-id-top-clause-known : goal.returns-then-id-top-clause-known
returns-then-id-top-clause-known g c = λ new low upto.
    ⊎_elim
    (λ (small : c.args.top < most_identifier). absurd (omega (arith, upto small, c.if-id-top.true)))
    (λ (large : most_identifier ≤ c.args.top). absurd
    (omega (arith, large, c.if-id-top.true, c.ranges.id.fits)))
    (cases_lt c.args.top most_identifier)
