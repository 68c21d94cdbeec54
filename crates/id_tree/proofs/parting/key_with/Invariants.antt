-- The key is between both.
use Rattle.std.proofs.Common.{◌≡◌, ℕ, ◌-◌, ◌<◌, ◌≤◌, Some, List, length}
use Rattle.bucket_page.specs.Layout.{Entry}
use Rattle.id_page.specs.Leaf.{leaf_at}
use Rattle.id_words.specs.Objects.{times_in}
use Rattle.id_tree.specs.Halving.{under_key}
use Rattle.id_tree.proofs.parting.key_with.Given as goal

abbrev pub invariant-halves : goal.invariant-halves
invariant-halves g l = record {
  some : l.low < l.high;
  low : (objects : List Entry) → leaf_at g.row.D l.page ≡ Some objects → 0 < l.many
      → length (under_key l.low objects) < l.many;
  high : (objects : List Entry) → leaf_at g.row.D l.page ≡ Some objects → ((id : ℕ) → times_in id objects ≤ 1)
      → l.many < length objects → l.many ≤ length (under_key l.high objects);
}

abbrev pub decreases-halves : goal.decreases-halves
decreases-halves g l = l.high - l.low
