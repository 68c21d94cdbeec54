-- The objects so far are appended.
use Rattle.std.proofs.Common.{◌≡◌, List, Some, take}
use Rattle.bucket_page.specs.Layout.{Entry}
use Rattle.id_page.specs.Leaf.{leaf_at}
use Rattle.id_tree.specs.Checked.{AddsObjects}
use Rattle.id_tree.proofs.check.add_objects.Given as goal

abbrev pub invariant-loop-place : goal.invariant-loop-place
invariant-loop-place g l = (objects : List Entry) → leaf_at g.row.D l.page ≡ Some objects
    → AddsObjects l.low l.top (take l.place objects) l.fn.pairs.items l.pairs.items l.fn.seen l.seen
