-- What holds at each turn of the loop of `take_out`, and how deep it goes.
use Rattle.std.proofs.Common.{◌≡◌, None, ◌-◌, ◌≤◌}
use Rattle.page_cache.specs.Cache.{IsPageMap, pages}
use Rattle.page_cache.specs.Calls.{AsksUntil}
use Rattle.tree_node.specs.Trees.{Row}
use Rattle.tree_node.proofs.RowLemmas.{row_drop}
use Rattle.node_page.specs.Standing.{Stands}
use Rattle.condense.specs.Taken.{LeadsTo, tree_at}
use Rattle.condense.proofs.take.+take_out.Given as goal

-- each call below is for a lower level
abbrev pub decreases-take_out : goal.decreases-take_out
decreases-take_out g l = l.at.level

-- the children so far lack the object: their pages were only asked for
abbrev pub invariant-children : goal.invariant-children
invariant-children g l =
    AsksUntil l.fn.cache l.cache None
    × (l.kept.list.items ≡ l.fn.kept.list.items)
    × (l.from ≤ 100)
    × (IsPageMap l.fn.cache → (row : Row) → Stands g.row.D (pages l.fn.cache) (tree_at l.fn.at row)
    → LeadsTo g.row.D l.fn.object.reference (l.fn.object.bounds, l.fn.object.tag) row
    → LeadsTo g.row.D l.fn.object.reference (l.fn.object.bounds, l.fn.object.tag) (row_drop l.from row))

-- and each turn looks further on
abbrev pub decreases-children : goal.decreases-children
decreases-children g l = 101 - l.from
