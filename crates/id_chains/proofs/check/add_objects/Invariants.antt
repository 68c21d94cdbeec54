-- What holds at each turn of the loop of `add_objects`.
use Rattle.std.proofs.Common.{ℕ, ◌<◌}
use Rattle.bucket_page.specs.Layout.{HasOrderedBox, object_at, objects_at}
use Rattle.id_chains.specs.Checked.{AddsObjects}
use Rattle.id_chains.proofs.check.add_objects.Given as goal

-- the objects so far are appended
abbrev pub invariant-loop-place : goal.invariant-loop-place
invariant-loop-place g l = record {
  ordered : (k : ℕ) → k < l.place → HasOrderedBox g.row.D (object_at g.row.D l.page k);
  added : AddsObjects l.fn.class (objects_at g.row.D l.page l.place) l.fn.pairs.items l.pairs.items l.fn.seen
      l.seen;
}
