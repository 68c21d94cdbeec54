-- What holds at each turn of the loop over the slabs, and how deep it goes.
use Rattle.std.proofs.Common.{◌≡◌, ◌+◌, ◌-◌, ◌*◌, ◌≤◌, vec_capacity, vec_len}
use Rattle.tree_node.specs.Nodes.{item_of}
use Rattle.bulk_load.specs.Tiling.{ending}
use Rattle.bulk_load.proofs.SlabLemmas.{Progress}
use Rattle.bulk_load.proofs.tiling.+tile_on.Given as goal

-- each call below is for the next axis
abbrev pub decreases-tile_on : goal.decreases-tile_on
decreases-tile_on g l = g.row.D - l.axis

abbrev pub invariant-slabs : goal.invariant-slabs
invariant-slabs g l = record {
  progress : Progress item_of g.row.D l.fanout (g.row.D - (l.axis + 1)) l.initial.other l.count l.slabs l.slab
      l.from l.other (ending l.axis l.entries l.other) l.fn.sizes.items l.sizes.items;
  few : 2 * vec_len l.sizes ≤ 2 * vec_len l.fn.sizes + l.from;
  kept : vec_capacity l.room.hints ≡ vec_capacity l.fn.room.hints;
  sizes_kept : vec_capacity l.sizes ≡ vec_capacity l.fn.sizes;
}
