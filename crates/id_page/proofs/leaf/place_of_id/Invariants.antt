-- None of the first objects has the identifier.
use Rattle.std.proofs.Common.{◌≢◌, ℕ, ◌<◌}
use Rattle.id_page.specs.Leaf.{leaf_object}
use Rattle.id_page.proofs.leaf.place_of_id.Given as goal

abbrev pub invariant-loop-place : goal.invariant-loop-place
invariant-loop-place g l = (k : ℕ) → k < l.place → (leaf_object g.row.D l.page k).0 ≢ l.id
