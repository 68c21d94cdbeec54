-- What holds at each turn of the loop of `give_way`, and what falls.
use Rattle.std.proofs.Common.{◌≡◌, ◌⊎◌, None, true}
use Rattle.page_cache.specs.Cache.{Grows, IsHonest, IsPageMap, pages, touched_of}
use Rattle.page_cache.specs.Calls.{ChangesUntil}
use Rattle.tree_node.specs.Trees.{Tree}
use Rattle.node_page.specs.Standing.{Stands}
use Rattle.reinsert.specs.Inserted.{IsRootOf}
use Rattle.condense.specs.Removed.{IsRoot}
use Rattle.condense.proofs.LowerLemmas.{Lowered}
use Rattle.condense.proofs.lower.give_way.Given as goal

-- the roots so far have given way
abbrev pub invariant-lowering : goal.invariant-lowering
invariant-lowering g l =
    ChangesUntil l.fn.cache l.cache None
    × IsRoot l.now
    × Grows 0 l.fn.cache l.cache
    × (IsPageMap l.fn.cache → (t : Tree) → IsRootOf l.fn.root t → Stands g.row.D (pages l.fn.cache) t
    → IsPageMap l.cache × Lowered g.row.D (pages l.fn.cache) (pages l.cache) t l.now)
    × (IsHonest l.fn.cache → (l.now ≡ l.fn.root) ⊎ (touched_of l.cache ≡ true))
    × (IsPageMap l.fn.cache → IsPageMap l.cache)

abbrev pub decreases-lowering : goal.decreases-lowering
decreases-lowering g l = l.now.level
