-- As many objects as were taken are no longer there.
use Rattle.std.proofs.Common.{◌≡◌, ◌⊎◌, ◌+◌, ◌-◌, ◌≤◌, List, Some, length, take}
use Rattle.block_bytes.specs.Numbers.{number_at}
use Rattle.bucket_page.specs.Layout.{Entry}
use Rattle.id_page.specs.Leaf.{IsTidyLeaf, leaf_at}
use Rattle.id_page.proofs.leaf_parts.keep_objects.Given as goal

abbrev pub invariant-loop-place : goal.invariant-loop-place
invariant-loop-place g l = record {
  from : l.fn.many ≤ l.place;
  upto : (l.place ≤ l.fn.many) ⊎ (l.place ≤ number_at 2 2 l.fn.page);
  many : number_at 2 2 l.page + (l.place - l.fn.many) ≡ number_at 2 2 l.fn.page;
  kept : (objects : List Entry) → leaf_at g.row.D l.fn.page ≡ Some objects
      → leaf_at g.row.D l.page ≡ Some (take (length objects - (l.place - l.fn.many)) objects);
  tidy : IsTidyLeaf g.row.D l.fn.page → IsTidyLeaf g.row.D l.page;
}
