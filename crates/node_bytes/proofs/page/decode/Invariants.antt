-- The entries read so far.
use Rattle.std.proofs.Common.{◌≡◌, ℕ, ◌<◌, length, map}
use Rattle.tree_node.specs.Nodes.{item_of}
use Rattle.node_bytes.specs.Layout.{item_at, items_at, IsEntry}
use Rattle.node_bytes.proofs.page.decode.Given as goal

abbrev pub invariant-loop-place : goal.invariant-loop-place
invariant-loop-place g l = record {
  read : map item_of l.entries.items ≡ items_at g.row.D l.page l.place;
  many : length l.entries.items ≡ l.place;
  each : (k : ℕ) → k < l.place → IsEntry g.row.D l.level (item_at g.row.D l.page k);
}
