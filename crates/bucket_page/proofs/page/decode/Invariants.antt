-- The objects read so far.
use Rattle.std.proofs.Common.{◌≡◌, ℕ, ◌<◌, length}
use Rattle.bucket_page.specs.Layout.{HasOrderedBox, object_at, objects_at}
use Rattle.bucket_page.proofs.page.decode.Given as goal

abbrev pub invariant-loop-place : goal.invariant-loop-place
invariant-loop-place g l = record {
  read : l.entries.items ≡ objects_at g.row.D l.page l.place;
  many : length l.entries.items ≡ l.place;
  ordered : (k : ℕ) → k < l.place → HasOrderedBox g.row.D (object_at g.row.D l.page k);
}
