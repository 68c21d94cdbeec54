-- A box that is joined with another has no lesser area, so neither has it in 64 bits.
use Rattle.std.proofs.Common.{◌<◌, ◌≤◌, ◌^◌, arith, ap, ⊎_elim}
use Rattle.std.proofs.lemmas.Bool.{cases_lt}
use Rattle.box_math.proofs.BoxLaws.{join_of-encloses}
use Rattle.box_math.proofs.Growth.{volume_of-grows}
use Rattle.box_math.specs.Bounds.{join_of}
use Rattle.box_math.specs.Measures.{volume_of}
use Rattle.choose_subtree.proofs.key.growth_at_least.Goals as goal

pub overflow_sub-result : goal.overflow_sub-result
overflow_sub-result g c =
    let D = g.row.D in
    let a = c.args.a.now in
    let wide = c.volume.result in
    let less = c.volume-2.result in
    let grown : less ≤ wide = omega (
      arith,
      c.volume.ensures.value,
      c.volume-2.ensures.value,
      ap (volume_of D) c.join-joined.ensures.value,
      volume_of-grows D a (join_of D a c.args.b.now) c.low.ensures.is_box (join_of-encloses D a c.args.b.now).0,
    ) in
    ⊎_elim
    (λ (fits : wide < 2 ^ 64). omega (
      arith,
      grown,
      c.in_64_bits.ensures.exact fits,
      c.in_64_bits-2.ensures.exact (omega (arith, grown, fits)),
    ))
    (λ (wider : 2 ^ 64 ≤ wide). omega (arith, c.in_64_bits.ensures.greatest wider))
    (cases_lt wide (2 ^ 64))

pub returns-clause-exact : goal.returns-clause-exact
returns-clause-exact g c = λ fits.
    let D = g.row.D in
    let a = c.args.a.now in
    let wide = ap (volume_of D) c.join-joined.ensures.value in
    let grown = volume_of-grows D a (join_of D a c.args.b.now) c.low.ensures.is_box
    (join_of-encloses D a c.args.b.now).0 in
    omega (
      arith,
      wide,
      c.volume.ensures.value,
      c.volume-2.ensures.value,
      c.in_64_bits.ensures.exact (omega (arith, fits, wide, c.volume.ensures.value)),
      c.in_64_bits-2.ensures.exact (omega (arith, fits, grown, c.volume-2.ensures.value)),
    )
