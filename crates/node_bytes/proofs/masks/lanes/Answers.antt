-- The eight numbers, which fit their type.
use Rattle.std.proofs.Common.{◌+◌, ◌*◌, [], ◌∷◌, arith}
use Rattle.node_bytes.proofs.MaskLemmas.{lane_read, signed_fits}
use Rattle.node_bytes.proofs.masks.lanes.Goals as goal

pub returns-clause-fits : goal.returns-clause-fits
returns-clause-fits c = λ k low high. signed_fits _ c.args.page.now c.fits-page

pub returns-clause-read : goal.returns-clause-read
returns-clause-read c =
    let from = c.args.first + 4 * c.args.at in
    λ i. lane_read c.read_i32.result from (c.args.first + 4 * c.args.at) c.args.page.now c.fits-page
    c.read_i32.ensures (omega arith) i
    ∷ lane_read c.read_i32-2.result (from + 4) (c.args.first + 4 * (c.args.at + 1)) c.args.page.now
    c.fits-page c.read_i32-2.ensures (omega arith) i
    ∷ lane_read c.read_i32-3.result (from + 8) (c.args.first + 4 * (c.args.at + 1 + 1)) c.args.page.now
    c.fits-page c.read_i32-3.ensures (omega arith) i
    ∷ lane_read c.read_i32-4.result (from + 12) (c.args.first + 4 * (c.args.at + 1 + 1 + 1)) c.args.page.now
    c.fits-page c.read_i32-4.ensures (omega arith) i
    ∷ lane_read c.read_i32-5.result (from + 16) (c.args.first + 4 * (c.args.at + 1 + 1 + 1 + 1))
    c.args.page.now c.fits-page c.read_i32-5.ensures (omega arith) i
    ∷ lane_read c.read_i32-6.result (from + 20) (c.args.first + 4 * (c.args.at + 1 + 1 + 1 + 1 + 1))
    c.args.page.now c.fits-page c.read_i32-6.ensures (omega arith) i
    ∷ lane_read c.read_i32-7.result (from + 24) (c.args.first + 4 * (c.args.at + 1 + 1 + 1 + 1 + 1 + 1))
    c.args.page.now c.fits-page c.read_i32-7.ensures (omega arith) i
    ∷ lane_read c.read_i32-8.result (from + 28) (c.args.first + 4 * (c.args.at + 1 + 1 + 1 + 1 + 1 + 1 + 1))
    c.args.page.now c.fits-page c.read_i32-8.ensures (omega arith) i
    ∷ []
