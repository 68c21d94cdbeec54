-- The identifiers of the first objects are between the ends so far.
use Rattle.std.proofs.Common.{ℕ, ◌<◌, ◌≤◌}
use Rattle.id_page.specs.Leaf.{leaf_object}
use Rattle.id_tree.proofs.parting.ends_of.Given as goal

abbrev pub invariant-loop-place : goal.invariant-loop-place
invariant-loop-place g l = (k : ℕ) → k < l.place
    → (l.least ≤ (leaf_object g.row.D l.page k).0) × ((leaf_object g.row.D l.page k).0 ≤ l.greatest)
