-- What holds at each turn of the loop over the runs.
use Rattle.std.proofs.Common.{◌≡◌, ◌+◌, List, None, length, map, take, drop, All}
use Rattle.page_cache.specs.Cache.{Grows, IsPageMap, pages}
use Rattle.page_cache.specs.Calls.{ChangesUntil}
use Rattle.tree_node.specs.Nodes.{items_of}
use Rattle.tree_node.specs.Positions.{total}
use Rattle.tree_node.specs.Trees.{Branch}
use Rattle.node_bytes.specs.Layout.{IsOfLevel}
use Rattle.bulk_load.specs.Levels.{WaitFor}
use Rattle.bulk_load.specs.Tiling.{joined}
use Rattle.bulk_load.proofs.LevelLemmas.{Written}
use Rattle.bulk_load.proofs.packing.write_level.Given as goal

-- the nodes so far are written
abbrev pub invariant-runs : goal.invariant-runs
invariant-runs g l = record {
  changes : ChangesUntil l.fn.cache l.cache None;
  sound : IsPageMap l.fn.cache → IsPageMap l.cache;
  grows : Grows l.place l.fn.cache l.cache;
  here : l.from ≡ total (λ size. size) (take l.place l.sizes);
  count : length l.parents.items ≡ l.place;
  refers : All (λ item. IsOfLevel (l.level + 1) item.reference item.tag) (items_of l.parents.items);
  written : IsPageMap l.fn.cache → (runs : List (List Branch)) → map length runs ≡ l.sizes
      → WaitFor g.row.D l.level (pages l.fn.cache) (items_of l.entries) (joined runs)
      → Written g.row.D l.level (pages l.fn.cache) (pages l.cache) runs l.place
      (drop l.from (items_of l.entries)) (items_of l.parents.items);
}
