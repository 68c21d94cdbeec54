-- A level that is put into order, and written.
use Rattle.std.proofs.Common.{◌∙◌, ℕ, List, length, refl, sym, ap, subst, arith, rules}
use Rattle.std.proofs.lemmas.List.Sorted.{All-permutation, IsPermutation-map, length_permutation}
use Rattle.page_cache.specs.Cache.{pages}
use Rattle.page_cache.proofs.Results.{if_ok_map}
use Rattle.tree_node.specs.Nodes.{Item, item_of, items_of}
use Rattle.tree_node.specs.Positions.{total}
use Rattle.node_bytes.specs.Layout.{IsOfLevel}
use Rattle.node_page.proofs.PartLemmas.{moves_same}
use Rattle.bulk_load.specs.Levels.{AreSizes, pages_below}
use Rattle.bulk_load.specs.Tiling.{joined}
use Rattle.bulk_load.proofs.LevelLemmas.{below_permuted}
use Rattle.bulk_load.proofs.SizeLemmas.{TiledSizes, tiled_sizes, wait_tiled}
use Rattle.bulk_load.proofs.packing.pack_level.Goals as goal

pub write_level-requires : goal.write_level-requires
write_level-requires g c =
    let P : Item → Type 0 = λ item. IsOfLevel c.args.level item.reference item.tag in
    let t : TiledSizes (length c.tile.new.entries) c.in_ok-sizes.sizes.items =
    tiled_sizes c.args.fanout.most c.args.entries.now c.tile.new.entries c.in_ok-sizes.sizes.items
    c.requires.dims c.args.fanout.within.0 c.args.fanout.within.1 c.requires.above c.in_ok-sizes.ensures.tiled
    in (
      search rules,
      (
        c.requires.dims,
        (
          ap (total (λ size. size)) c.as_slice.ensures.value ∙ t.whole,
          (
            subst (λ (sizes : List ℕ). AreSizes sizes) (sym c.as_slice.ensures.value) t.sized,
            (
              All-permutation P (items_of c.args.entries.now) (items_of c.tile.new.entries)
                  (IsPermutation-map item_of c.args.entries.now c.tile.new.entries c.tile.ensures.all)
                  c.requires.refers,
              c.in_ok-parents.ensures.empty,
            ),
          ),
        ),
      ),
    )

pub returns-clause-two : goal.returns-clause-two
returns-clause-two g c =
    let t : TiledSizes (length c.tile.new.entries) c.in_ok-sizes.sizes.items =
    tiled_sizes c.args.fanout.most c.args.entries.now c.tile.new.entries c.in_ok-sizes.sizes.items
    c.requires.dims c.args.fanout.within.0 c.args.fanout.within.1 c.requires.above c.in_ok-sizes.ensures.tiled
    in
    if_ok_map c.write_level.result c.write_level.ensures.count
    (λ parents count. omega (arith, t.two, count, ap length c.as_slice.ensures.value))

pub returns-clause-half : goal.returns-clause-half
returns-clause-half g c =
    let t : TiledSizes (length c.tile.new.entries) c.in_ok-sizes.sizes.items =
    tiled_sizes c.args.fanout.most c.args.entries.now c.tile.new.entries c.in_ok-sizes.sizes.items
    c.requires.dims c.args.fanout.within.0 c.args.fanout.within.1 c.requires.above c.in_ok-sizes.ensures.tiled
    in
    if_ok_map c.write_level.result c.write_level.ensures.count
    (λ parents count. omega (
      arith,
      t.half,
      count,
      ap length c.as_slice.ensures.value,
      length_permutation c.args.entries.now c.tile.new.entries c.tile.ensures.all,
    ))

pub returns-clause-packed : goal.returns-clause-packed
returns-clause-packed g c = λ sound bs waits.
    let w = wait_tiled c.args.fanout.most c.args.level (pages c.args.cache.now) bs c.args.entries.now
    c.tile.new.entries c.in_ok-sizes.sizes.items c.in_ok-sizes.ensures.tiled waits in
    if_ok_map c.write_level.result
    (c.write_level.ensures.written sound w.runs (w.lengths ∙ sym c.as_slice.ensures.value) w.wait)
    (λ parents l. record {
      runs = w.runs;
      tiled = w.tiled;
      parents = l.parents;
      made = l.made;
      wait = l.wait;
      moves = moves_same (pages c.args.cache.now) (pages c.write_level.new.cache)
          (pages_below (joined w.runs)) (pages_below bs) (pages_below l.parents) (pages_below l.parents)
          (λ n. below_permuted bs (joined w.runs) n w.same) (λ n. refl) l.moves;
    })

pub returns-clause-grows : goal.returns-clause-grows
returns-clause-grows g c =
    let t : TiledSizes (length c.tile.new.entries) c.in_ok-sizes.sizes.items =
    tiled_sizes c.args.fanout.most c.args.entries.now c.tile.new.entries c.in_ok-sizes.sizes.items
    c.requires.dims c.args.fanout.within.0 c.args.fanout.within.1 c.requires.above c.in_ok-sizes.ensures.tiled
    in
    omega (
      arith,
      t.half,
      c.write_level.ensures.grows,
      ap length c.as_slice.ensures.value,
      length_permutation c.args.entries.now c.tile.new.entries c.tile.ensures.all,
    )
