-- What holds at each turn of the loop of `free_tree`, and how deep it goes.
use Rattle.std.proofs.Common.{None}
use Rattle.page_cache.specs.Cache.{Grows, IsPageMap, pages}
use Rattle.page_cache.specs.Calls.{ChangesUntil}
use Rattle.tree_node.specs.Trees.{Row}
use Rattle.node_page.specs.Parts.{Moves, no_page}
use Rattle.node_page.specs.Standing.{Stands}
use Rattle.condense.specs.Spelled.{AddsNoNode, KeepsNodes}
use Rattle.condense.specs.Taken.{tree_at}
use Rattle.condense.proofs.FreeLemmas.{occurs_before}
use Rattle.condense.proofs.free.+free_tree.Given as goal

-- each call below is for a lower level
abbrev pub decreases-free_tree : goal.decreases-free_tree
decreases-free_tree g l = l.root.level

-- the trees of the first entries are freed; also in other pages nodes only went, and none of the root's level
abbrev pub invariant-children : goal.invariant-children
invariant-children g l =
    ChangesUntil l.fn.cache l.cache None
    × Grows 0 l.fn.cache l.cache
    × (IsPageMap l.fn.cache → (row : Row) → Stands g.row.D (pages l.fn.cache) (tree_at l.fn.root row)
    → IsPageMap l.cache × Moves (pages l.fn.cache) (pages l.cache) (λ n. occurs_before n row l.at) no_page)
    × (IsPageMap l.fn.cache → IsPageMap l.cache
    × AddsNoNode g.row.D (pages l.fn.cache) (pages l.cache)
    × KeepsNodes g.row.D l.fn.root.level (pages l.fn.cache) (pages l.cache))
