-- What holds at each turn of the loop of `insert_kept`, and what falls.
use Rattle.std.proofs.Common.{◌≡◌, ℕ, ◌*◌, ◌-◌, ◌≤◌, List, [], None}
use Rattle.arrayvec.specs.ArrayVec.{array_vec_len}
use Rattle.page_cache.specs.Cache.{Grows, IsPageMap, pages}
use Rattle.page_cache.specs.Calls.{AsksUntil, ChangesUntil}
use Rattle.tree_node.specs.Rows.{Waiter}
use Rattle.tree_node.specs.Trees.{Tree}
use Rattle.reinsert.specs.Inserted.{most_new_pages}
use Rattle.condense.specs.Filled.{CanFill}
use Rattle.condense.specs.Removed.{IsRoot}
use Rattle.condense.specs.Taken.{held_now}
use Rattle.condense.proofs.FillLemmas.{Filled}
use Rattle.condense.proofs.fill.insert_kept.Given as goal

-- so much of what is kept was inserted
abbrev pub invariant-inserting : goal.invariant-inserting
invariant-inserting g l =
    ChangesUntil l.fn.cache l.cache None
    × IsRoot l.now
    × (array_vec_len l.kept.list ≤ array_vec_len l.fn.kept.list)
    × Grows (most_new_pages * (array_vec_len l.fn.kept.list - array_vec_len l.kept.list)) l.fn.cache
    l.cache
    × (IsPageMap l.fn.cache → (t : Tree) (ws : List Waiter) (elsewhere : ℕ → ℕ)
    → CanFill g.row.D (pages l.fn.cache) l.fn.root t ws elsewhere (held_now l.fn.kept)
    → IsPageMap l.cache
    × Filled g.row.D l.fn.fanout.most (pages l.fn.cache) (pages l.cache) t ws elsewhere l.now
    (held_now l.kept))
    × (l.fn.kept.list.items ≡ [] → (l.kept.list.items ≡ []) × (l.now ≡ l.fn.root)
    × AsksUntil l.fn.cache l.cache None)
    × (IsPageMap l.fn.cache → IsPageMap l.cache)

abbrev pub decreases-inserting : goal.decreases-inserting
decreases-inserting g l = array_vec_len l.kept.list
