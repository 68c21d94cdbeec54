-- One number after the other.
use Rattle.std.proofs.Common.{◌+◌, ◌*◌, arith}
use Rattle.std.proofs.lemmas.Int.{to_z-of_z}
use Rattle.block_bytes.specs.Numbers.{signed_at}
use Rattle.node_bytes.proofs.LeastLemmas.{least_first, least_more}
use Rattle.node_bytes.proofs.MaskLemmas.{lane_read}
use Rattle.node_bytes.proofs.columns.least_of.Goals as goal

pub loop-place-init : goal.loop-place-init
loop-place-init c =
    least_first (λ k. signed_at (c.args.first + 4 * k) c.args.page.now) _
    (lane_read c.read_i32-least.result c.args.first (c.args.first + 4 * 0) c.args.page.now c.fits-page
    c.read_i32-least.ensures (omega arith))

pub loop-place-preserved : goal.loop-place-preserved
loop-place-preserved c =
    least_more (λ k. signed_at (c.args.first + 4 * k) c.args.page.now) c.loop-place.place _ c.read_i32.result
    _ c.loop-place.invariant
    c.read_i32.ensures (grind (arith, to_z-of_z, c.min-least.ensures.value))
