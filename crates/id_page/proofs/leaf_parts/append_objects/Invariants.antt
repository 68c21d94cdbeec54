-- The objects of the other page up to the place are behind those of this one.
use Rattle.std.proofs.Common.{◌≡◌, ◌+◌, ◌-◌, ◌≤◌, ◌++◌, List, Some, drop, take}
use Rattle.block_bytes.specs.Numbers.{number_at}
use Rattle.bucket_page.specs.Layout.{Entry}
use Rattle.id_page.specs.Leaf.{IsTidyLeaf, leaf_at}
use Rattle.id_page.proofs.leaf_parts.append_objects.Given as goal

abbrev pub invariant-loop-place : goal.invariant-loop-place
invariant-loop-place g l = record {
  from : l.from ≤ l.place;
  many : number_at 2 2 l.page ≤ number_at 2 2 l.fn.page + (l.place - l.from);
  appended : (objects more : List Entry) → leaf_at g.row.D l.fn.page ≡ Some objects
      → leaf_at g.row.D l.other ≡ Some more
      → leaf_at g.row.D l.page ≡ Some (objects ++ take (l.place - l.from) (drop l.from more));
  tidy : IsTidyLeaf g.row.D l.fn.page → IsTidyLeaf g.row.D l.page;
}
