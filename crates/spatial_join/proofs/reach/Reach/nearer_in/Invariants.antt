-- Of the entries so far those are left that are in the reach.
use Rattle.std.proofs.Common.{◌-◌, ◌≤◌, length}
use Rattle.box_math.specs.Measures.{near_test}
use Rattle.node_bytes.specs.Views.{content_in}
use Rattle.spatial_join.proofs.MaskLemmas.{Sifted}
use Rattle.spatial_join.proofs.reach.Reach.nearer_in.Given as goal

abbrev pub invariant-entry : goal.invariant-entry
invariant-entry g l =
    Sifted (near_test g.row.D l.fn.self.limit l.fn.bounds) l.fn.named l.near
    (content_in l.fn.node).entries l.from × (l.from ≤ length (content_in l.fn.node).entries)

-- each place comes after the one before it
abbrev pub decreases-entry : goal.decreases-entry
decreases-entry g l = 128 - l.from
