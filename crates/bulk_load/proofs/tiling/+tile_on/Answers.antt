-- The goals of `tile_on` that are proved by hand.
use Rattle.std.proofs.Common.{◌≡◌, ◌∙◌, ℕ, List, ◌+◌, ◌-◌, ◌<◌, ◌≤◌, length, refl, sym}
use Rattle.std.proofs.Common.{subst, arith, rules}
use Rattle.std.proofs.lemmas.Bool.{false≢true}
use borrow.Rule.Slice.PartMut.{mid_of, put_mid}
use Rattle.tree_node.specs.Nodes.{item_of}
use Rattle.tree_node.specs.declared.node.Entry.{Entry}
use Rattle.bulk_load.specs.Tiling.{AddsRuns, IsLeastRoot, ending}
use Rattle.bulk_load.proofs.SlabLemmas.{Progress, all_done, cut_further, ending_long, ending_next}
use Rattle.bulk_load.proofs.SlabLemmas.{ending_written, none_yet, one_left, one_more, part_has_room}
use Rattle.bulk_load.proofs.SlabLemmas.{part_long, slab_has_two, slab_within}
use Rattle.bulk_load.proofs.tiling.+tile_on.Goals as goal

pub returns-then-is_one_run-clause-tiled : goal.returns-then-is_one_run-clause-tiled
returns-then-is_one_run-clause-tiled g t c =
    let old = c.args.entries.now in
    let axes = g.row.D - c.args.axis in
    subst (λ (new : List (Entry g.row.D)). AddsRuns item_of g.row.D c.args.fanout axes old new
    c.args.sizes.now.items c.push_reserved.new.self.items) (sym c.move_to_end.ensures)
    (subst (λ (sizes : List ℕ). AddsRuns item_of g.row.D c.args.fanout axes old old c.args.sizes.now.items
    sizes) (sym c.push_reserved.ensures.items)
    (one_left item_of g.row.D c.args.fanout axes old c.args.sizes.now.items
    (omega (arith, c.requires.two)) (λ some. c.if-is_one_run.ensures.0 refl (omega (arith, some)))))

pub slabs-init : goal.slabs-init
slabs-init g t c = record {
  progress = none_yet item_of g.row.D c.args.fanout (g.row.D - (c.args.axis + 1)) c.sort_into.new.into
      (ending c.args.axis c.args.entries.now c.sort_into.new.into) c.sort_into.new.into
      (length c.args.entries.now) c.least_root-slabs.result c.args.sizes.now.items refl;
  few = omega arith;
  kept = c.sort_into.ensures.kept;
  sizes_kept = refl;
}

pub overflow_add-from : goal.overflow_add-from
overflow_add-from g t c =
    let within : c.slabs.from + c.even_size-size.result ≤ length c.args.entries.now =
    slab_within c.slabs.invariant.progress c.even_size-size.result c.slabs-test.true
    c.even_size-size.ensures in
    omega (arith, within)

pub offset_bounds-other-from : goal.offset_bounds-other-from
offset_bounds-other-from g t c =
    let within : c.slabs.from + c.even_size-size.result ≤ length c.args.entries.now =
    slab_within c.slabs.invariant.progress c.even_size-size.result c.slabs-test.true
    c.even_size-size.ensures in
    omega (
      arith,
      part_has_room c.slabs.from (length c.args.entries.now) _ (omega (arith, within)) c.well_formed.0.1,
    )

pub offset_bounds-entries-from : goal.offset_bounds-entries-from
offset_bounds-entries-from g t c =
    let within : c.slabs.from + c.even_size-size.result ≤ length c.args.entries.now =
    slab_within c.slabs.invariant.progress c.even_size-size.result c.slabs-test.true
    c.even_size-size.ensures in
    omega (
      arith,
      part_has_room c.slabs.from (length c.args.entries.now) _ (omega (arith, within)) c.well_formed.0.1,
    )

pub slice_bounds-tile_on-end : goal.slice_bounds-tile_on-end
slice_bounds-tile_on-end g t c =
    let within : c.slabs.from + c.even_size-size.result ≤ length c.args.entries.now =
    slab_within c.slabs.invariant.progress c.even_size-size.result c.slabs-test.true
    c.even_size-size.ensures in
    omega (arith, within, c.slabs.auto.other, c.sort_into.auto.into, c.requires.whole)

pub slice_bounds-tile_on-end-in-slabs : goal.slice_bounds-tile_on-end-in-slabs
slice_bounds-tile_on-end-in-slabs g t c =
    let within : c.slabs.from + c.even_size-size.result ≤ length c.args.entries.now =
    slab_within c.slabs.invariant.progress c.even_size-size.result c.slabs-test.true
    c.even_size-size.ensures in
    omega (arith, within, c.slabs.auto.entries)

pub tile_on-requires : goal.tile_on-requires
tile_on-requires g t c κs below =
    let n = length c.args.entries.now in
    let from = c.slabs.from in
    let size = c.even_size-size.result in
    let within : from + size ≤ n =
    slab_within c.slabs.invariant.progress size c.slabs-test.true c.even_size-size.ensures in
    let further : (c.args.axis < g.row.D) × (c.args.fanout < n) =
    cut_further n c.args.axis g.row.D c.args.fanout
    (λ few. false≢true (c.if-is_one_run.ensures.1 few)) in
    let sorted =
    part_long from size n c.slabs.other within
    (omega (arith, c.slabs.auto.other, c.sort_into.auto.into, c.requires.whole)) in
    let free = part_long from size n c.slabs.entries within (omega (arith, c.slabs.auto.entries)) in
    let two : 2 ≤ size =
    slab_has_two n c.args.fanout (g.row.D - c.args.axis) c.least_root-slabs.result c.slabs.slab size
    c.requires.four further.1 (omega (arith, further.0))
    (subst (λ (cells : ℕ). IsLeastRoot (g.row.D - c.args.axis) cells c.least_root-slabs.result)
    c.div_ceil.ensures c.least_root-slabs.ensures) c.slabs-test.true c.even_size-size.ensures in (
      omega (arith, further.0, c.decreases),
      (
        search rules,
        (
          search rules,
          (
            search rules,
            (
              c.requires.dims,
              (
                omega (arith, further.0),
                (
                  c.requires.four,
                  (
                    omega (arith, two, sorted),
                    (
                      free ∙ sym sorted,
                      (
                        omega (arith, sorted, within, c.slabs.invariant.kept, c.requires.room),
                        omega (
                          arith,
                          sorted,
                          within,
                          c.slabs.invariant.few,
                          c.slabs.invariant.sizes_kept,
                          c.requires.sizes_room,
                        ),
                      ),
                    ),
                  ),
                ),
              ),
            ),
          ),
        ),
      ),
    )

pub slabs-preserved : goal.slabs-preserved
slabs-preserved g t c =
    let n = length c.args.entries.now in
    let axis = c.args.axis in
    let from = c.slabs.from in
    let size = c.even_size-size.result in
    let part = from + size - from in
    let own = c.tile_on.new.other in
    let other = c.tile_on.new.entries in
    let source_long : length c.slabs.other ≡ n =
    omega (arith, c.slabs.auto.other, c.sort_into.auto.into, c.requires.whole) in
    let entries_long : length c.slabs.entries ≡ n = omega (arith, c.slabs.auto.entries) in
    let within : from + size ≤ n =
    slab_within c.slabs.invariant.progress size c.slabs-test.true c.even_size-size.ensures in
    let other_long : length other ≡ size =
    omega (arith, c.tile_on.auto.entries, part_long from size n c.slabs.other within source_long) in
    let own_long : length own ≡ size =
    omega (arith, c.tile_on.auto.other, part_long from size n c.slabs.entries within entries_long) in
    record {
      progress = subst (λ (final : List (Entry g.row.D)). Progress item_of g.row.D c.args.fanout
          (g.row.D - (axis + 1)) c.sort_into.new.into n c.least_root-slabs.result (c.slabs.slab + 1)
          (from + size) (put_mid from part c.slabs.other other) final c.args.sizes.now.items
          c.tile_on.new.sizes.items)
          (sym (ending_written axis from part c.slabs.entries c.slabs.other own other))
          (one_more c.slabs.invariant.progress size part other (ending axis own other)
          c.tile_on.new.sizes.items c.slabs-test.true
          (omega (arith, c.sort_into.auto.into, c.requires.whole)) source_long
          (ending_long axis n c.slabs.entries c.slabs.other entries_long source_long) c.even_size-size.ensures
          (omega arith) other_long (ending_long axis size own other own_long other_long)
          (subst (λ (zs : List (Entry g.row.D)). AddsRuns item_of g.row.D c.args.fanout
          (g.row.D - (axis + 1)) (mid_of from part c.slabs.other) zs c.slabs.sizes.items
          c.tile_on.new.sizes.items)
          (ending_next axis own other) c.tile_on.ensures.tiled));
      few = omega (
        arith,
        c.tile_on.ensures.few,
        c.slabs.invariant.few,
        part_long from size n c.slabs.other within source_long,
      );
      kept = c.tile_on.ensures.kept ∙ c.slabs.invariant.kept;
      sizes_kept = c.tile_on.ensures.sizes_kept ∙ c.slabs.invariant.sizes_kept;
    }

pub returns-clause-tiled : goal.returns-clause-tiled
returns-clause-tiled g t c =
    let n = length c.args.entries.now in
    let further : (c.args.axis < g.row.D) × (c.args.fanout < n) =
    cut_further n c.args.axis g.row.D c.args.fanout
    (λ few. false≢true (c.if-is_one_run.ensures.1 few)) in
    all_done c.slabs.invariant.progress c.args.axis c.args.entries.now
    (omega (arith, c.slabs-test.false, c.slabs.auto.slab-end)) (omega (arith, c.requires.four)) refl
    further.0 refl further.1
    (ending_long c.args.axis n c.slabs.entries c.slabs.other (omega (arith, c.slabs.auto.entries))
    (omega (arith, c.slabs.auto.other, c.sort_into.auto.into, c.requires.whole)))
    c.sort_into.ensures.sorted
    (subst (λ (cells : ℕ). IsLeastRoot (g.row.D - c.args.axis) cells c.least_root-slabs.result)
    c.div_ceil.ensures c.least_root-slabs.ensures)
