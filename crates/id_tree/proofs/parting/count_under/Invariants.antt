-- The objects so far that are below the key are counted.
use Rattle.std.proofs.Common.{◌≡◌, ◌≤◌, Some, List, length, take}
use Rattle.bucket_page.specs.Layout.{Entry}
use Rattle.id_page.specs.Leaf.{leaf_at}
use Rattle.id_tree.specs.Halving.{under_key}
use Rattle.id_tree.proofs.parting.count_under.Given as goal

abbrev pub invariant-loop-place : goal.invariant-loop-place
invariant-loop-place g l = record {
  counted : (objects : List Entry) → leaf_at g.row.D l.page ≡ Some objects
      → l.count ≡ length (under_key l.key (take l.place objects));
  few : l.count ≤ l.place;
}
