-- Each of the first objects has a box.
use Rattle.std.proofs.Common.{ℕ, ◌<◌}
use Rattle.bucket_page.specs.Layout.{HasOrderedBox}
use Rattle.id_page.specs.Leaf.{leaf_object}
use Rattle.id_page.proofs.leaf.is_leaf.Given as goal

abbrev pub invariant-loop-place : goal.invariant-loop-place
invariant-loop-place g l = (k : ℕ) → k < l.place → HasOrderedBox g.row.D (leaf_object g.row.D l.page k)
