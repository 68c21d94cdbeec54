-- One node, or all axes in turn.
use Rattle.std.proofs.Common.{◌-◌, List, refl, sym, subst, arith}
use Rattle.tree_node.specs.Nodes.{item_of}
use Rattle.tree_node.specs.declared.node.Entry.{Entry}
use Rattle.bulk_load.specs.Tiling.{AddsRuns}
use Rattle.bulk_load.proofs.SlabLemmas.{ending_first, one_node, tiled_holds, tiled_into}
use Rattle.bulk_load.proofs.tiling.tile.Goals as goal

pub returns-then-count-entries-clause-tiled : goal.returns-then-count-entries-clause-tiled
returns-then-count-entries-clause-tiled g c =
    let old = c.args.entries.now in
    tiled_into item_of g.row.D c.args.fanout.most c.args.fanout.most g.row.D old old
    c.new-sizes.result.items c.add_one.new.sizes.items refl refl c.new-sizes.ensures.items
    (subst (AddsRuns item_of g.row.D c.args.fanout.most g.row.D old old c.new-sizes.result.items)
    (sym c.in_ok-add_one.ensures.added)
    (one_node item_of g.row.D c.args.fanout.most g.row.D old c.new-sizes.result.items
    (omega (arith, c.requires)) (omega (arith, c.if-count-entries.true, c.entries.ensures))))

pub returns-clause-tiled : goal.returns-clause-tiled
returns-clause-tiled g c =
    tiled_into item_of g.row.D c.args.fanout.most c.entries-fanout.result (g.row.D - 0) c.args.entries.now
    c.tile_on.new.entries c.in_ok-sizes.sizes.items c.tile_on.new.sizes.items c.entries-fanout.ensures
    (omega arith) c.in_ok-sizes.ensures.items
    (subst (λ (new : List (Entry g.row.D)). AddsRuns item_of g.row.D c.entries-fanout.result (g.row.D - 0)
    c.args.entries.now new c.in_ok-sizes.sizes.items c.tile_on.new.sizes.items)
    (ending_first c.tile_on.new.entries c.tile_on.new.other) c.tile_on.ensures.tiled)

pub returns-clause-all : goal.returns-clause-all
returns-clause-all g c =
    tiled_holds item_of g.row.D c.args.fanout.most c.args.entries.now c.tile_on.new.entries
    c.tile_on.new.sizes.items (returns-clause-tiled g c)
