-- The goals of `Reach::nearer` that are proved by hand.
use Rattle.std.proofs.Common.{ap, length, sym, arith, ◌∙◌}
use Rattle.std.specs.Int.{w128}
use Rattle.std.proofs.lemmas.Nat.Bits.{bit_at_clear_same}
use Rattle.box_math.specs.Bounds.{meets_test, widened_of}
use Rattle.box_math.specs.Measures.{near_test}
use Rattle.tree_node.specs.Nodes.{items_of}
use Rattle.spatial_join.proofs.MaskLemmas.{all_sifted, cleared_elsewhere, box_read, near_meets_widened}
use Rattle.spatial_join.proofs.MaskLemmas.{one_cleared, one_kept, place_within}
use Rattle.spatial_join.proofs.reach.Reach.nearer.Goals as goal

pub entry-preserved-then-not-is_near : goal.entry-preserved-then-not-is_near
entry-preserved-then-not-is_near g c =
    let entries = c.args.columns.now.node.now.entries.items in
    let set = c.in-Some.ensures.set.2 in
    let within =
    place_within c.deref.result.now entries c.in-Some.place c.args.named c.requires.named set
    c.deref.ensures.0 in
    let box =
    box_read c.deref.result.now entries c.in-Some.place c.index-deref-place.result c.deref.ensures.0
    within c.index-deref-place.is in (
      one_cleared (near_test g.row.D c.args.self.limit c.args.bounds.now)
          (meets_test g.row.D (widened_of g.row.D c.args.self.root c.args.bounds.now)) c.args.named
          c.entry.near (items_of entries) c.requires.named
          (near_meets_widened g.row.D c.args.self.root c.args.self.limit c.args.bounds.now
          (items_of entries) c.args.self.enough c.args.columns.now.boxes)
          c.entry.from c.entry.invariant.0 c.in-Some.place _ c.in-Some.ensures.set.0 set
          c.in-Some.ensures.first
          (ap (near_test g.row.D c.args.self.limit c.args.bounds.now) box ∙ sym c.is_near.ensures
          ∙ c.if-not-is_near.true)
          (bit_at_clear_same w128 c.entry.near c.in-Some.place c.in-Some.ensures.set.1)
          (cleared_elsewhere w128 c.entry.near c.in-Some.place c.entry.auto.near-fits.fits
          c.in-Some.ensures.set.1),
      omega (arith, within, ap length c.deref.ensures.0),
    )

pub entry-preserved : goal.entry-preserved
entry-preserved g c =
    let entries = c.args.columns.now.node.now.entries.items in
    let set = c.in-Some.ensures.set.2 in
    let within =
    place_within c.deref.result.now entries c.in-Some.place c.args.named c.requires.named set
    c.deref.ensures.0 in
    let box =
    box_read c.deref.result.now entries c.in-Some.place c.index-deref-place.result c.deref.ensures.0
    within c.index-deref-place.is in (
      one_kept (near_test g.row.D c.args.self.limit c.args.bounds.now)
          (meets_test g.row.D (widened_of g.row.D c.args.self.root c.args.bounds.now)) c.args.named
          c.entry.near (items_of entries) c.requires.named
          (near_meets_widened g.row.D c.args.self.root c.args.self.limit c.args.bounds.now
          (items_of entries) c.args.self.enough c.args.columns.now.boxes)
          c.entry.from c.entry.invariant.0 c.in-Some.place c.in-Some.ensures.set.0 set c.in-Some.ensures.first
          (ap (near_test g.row.D c.args.self.limit c.args.bounds.now) box ∙ sym c.is_near.ensures
          ∙ c.if-not-is_near.false),
      omega (arith, within, ap length c.deref.ensures.0),
    )

pub returns : goal.returns
returns g c =
    let entries = c.args.columns.now.node.now.entries.items in
    all_sifted (near_test g.row.D c.args.self.limit c.args.bounds.now)
    (meets_test g.row.D (widened_of g.row.D c.args.self.root c.args.bounds.now)) c.args.named
    c.entry.near (items_of entries) c.requires.named
    (near_meets_widened g.row.D c.args.self.root c.args.self.limit c.args.bounds.now
    (items_of entries) c.args.self.enough c.args.columns.now.boxes)
    c.entry.from c.entry.invariant.0 c.in_default.ensures.none
