-- The goals of `Reach::nearer_in` that are proved by hand.
use Rattle.std.proofs.Common.{ap, sym, arith, ◌∙◌}
use Rattle.std.specs.Int.{w128}
use Rattle.std.proofs.lemmas.Nat.Bits.{bit_at_clear_same}
use Rattle.box_math.specs.Bounds.{meets_test, widened_of}
use Rattle.box_math.specs.Measures.{near_test}
use Rattle.tree_node.specs.Nodes.{item_of}
use Rattle.node_bytes.specs.Views.{content_in}
use Rattle.spatial_join.proofs.LeafJoin.{bounds_read, have_boxes}
use Rattle.spatial_join.proofs.MaskLemmas.{all_sifted, cleared_elsewhere, near_meets_widened, one_cleared}
use Rattle.spatial_join.proofs.MaskLemmas.{one_kept}
use Rattle.spatial_join.proofs.reach.Reach.nearer_in.Goals as goal

pub entry-preserved-then-not-is_near : goal.entry-preserved-then-not-is_near
entry-preserved-then-not-is_near g c =
    let items = (content_in c.args.node.now).entries in
    let set = c.in-Some.ensures.set.2 in
    let within = c.requires.named.within c.in-Some.place set in
    let box =
    bounds_read items c.in-Some.place (item_of c.entry-other.result) within c.entry-other.ensures in (
      one_cleared (near_test g.row.D c.args.self.limit c.args.bounds.now)
          (meets_test g.row.D (widened_of g.row.D c.args.self.root c.args.bounds.now)) c.args.named
          c.entry.near items c.requires.named
          (near_meets_widened g.row.D c.args.self.root c.args.self.limit c.args.bounds.now
          items c.args.self.enough (have_boxes g.row.D items c.requires.boxes))
          c.entry.from c.entry.invariant.0 c.in-Some.place _ c.in-Some.ensures.set.0 set
          c.in-Some.ensures.first
          (ap (near_test g.row.D c.args.self.limit c.args.bounds.now) box ∙ sym c.is_near.ensures
          ∙ c.if-not-is_near.true)
          (bit_at_clear_same w128 c.entry.near c.in-Some.place c.in-Some.ensures.set.1)
          (cleared_elsewhere w128 c.entry.near c.in-Some.place c.entry.auto.near-fits.fits
          c.in-Some.ensures.set.1),
      omega (arith, within),
    )

pub entry-preserved : goal.entry-preserved
entry-preserved g c =
    let items = (content_in c.args.node.now).entries in
    let set = c.in-Some.ensures.set.2 in
    let within = c.requires.named.within c.in-Some.place set in
    let box =
    bounds_read items c.in-Some.place (item_of c.entry-other.result) within c.entry-other.ensures in (
      one_kept (near_test g.row.D c.args.self.limit c.args.bounds.now)
          (meets_test g.row.D (widened_of g.row.D c.args.self.root c.args.bounds.now)) c.args.named
          c.entry.near items c.requires.named
          (near_meets_widened g.row.D c.args.self.root c.args.self.limit c.args.bounds.now
          items c.args.self.enough (have_boxes g.row.D items c.requires.boxes))
          c.entry.from c.entry.invariant.0 c.in-Some.place c.in-Some.ensures.set.0 set c.in-Some.ensures.first
          (ap (near_test g.row.D c.args.self.limit c.args.bounds.now) box ∙ sym c.is_near.ensures
          ∙ c.if-not-is_near.false),
      omega (arith, within),
    )

pub returns : goal.returns
returns g c =
    let items = (content_in c.args.node.now).entries in
    all_sifted (near_test g.row.D c.args.self.limit c.args.bounds.now)
    (meets_test g.row.D (widened_of g.row.D c.args.self.root c.args.bounds.now)) c.args.named
    c.entry.near items c.requires.named
    (near_meets_widened g.row.D c.args.self.root c.args.self.limit c.args.bounds.now
    items c.args.self.enough (have_boxes g.row.D items c.requires.boxes))
    c.entry.from c.entry.invariant.0 c.in_default.ensures.none
