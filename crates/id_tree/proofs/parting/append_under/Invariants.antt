-- The objects so far that are below the key are in the page.
use Rattle.std.proofs.Common.{◌≡◌, ◌+◌, ◌≤◌, ◌++◌, Some, List, length, take}
use Rattle.bucket_page.specs.Layout.{Entry}
use Rattle.id_page.specs.Leaf.{leaf_at, most_objects, IsTidyLeaf}
use Rattle.id_tree.specs.Halving.{under_key}
use Rattle.id_tree.proofs.parting.append_under.Given as goal

abbrev pub invariant-loop-place : goal.invariant-loop-place
invariant-loop-place g l = record {
  appended : (objects more : List Entry) → leaf_at g.row.D l.fn.page ≡ Some objects
      → leaf_at g.row.D l.other ≡ Some more
      → length objects + length (under_key l.key more) ≤ most_objects g.row.D
      → leaf_at g.row.D l.page ≡ Some (objects ++ under_key l.key (take l.place more));
  tidy : IsTidyLeaf g.row.D l.fn.page → IsTidyLeaf g.row.D l.page;
}
