-- What holds at each turn of the loop of `insert_with`, and what falls.
use Rattle.std.proofs.Common.{◌≡◌, ◌⊎◌, ℕ, ◌*◌, ◌-◌, ◌≤◌, None, true}
use Rattle.page_cache.specs.Cache.{Grows, IsPageMap, pages, touched_of}
use Rattle.page_cache.specs.Calls.{ChangesUntil}
use Rattle.tree_node.specs.Nodes.{item_of}
use Rattle.tree_node.specs.Trees.{Branch, Tree}
use Rattle.reinsert.proofs.FromLemmas.{at_begin}
use Rattle.reinsert.specs.Inserted.{CanInsert, IsRootFrom, most_placing_pages}
use Rattle.reinsert.specs.Placed.{measure_of}
use Rattle.reinsert.proofs.InsertLemmas.{Reached}
use Rattle.reinsert.proofs.insert.insert_with.Given as goal

-- A state was reached by placings, of which each was of the first entry or took one from the measure.
abbrev pub invariant-placing : goal.invariant-placing
invariant-placing g l =
    ChangesUntil l.fn.cache l.cache None
    × IsRootFrom l.fn.root l.now
    × (measure_of l.waiting ≤ 1200)
    × Grows (most_placing_pages * (1201 - measure_of l.waiting)) l.fn.cache l.cache
    × (IsPageMap l.fn.cache → (t : Tree) (branch : Branch) (elsewhere : ℕ → ℕ)
    → CanInsert g.row.D (pages l.fn.cache) l.fn.root (item_of l.fn.entry) l.fn.level t branch elsewhere
    → IsPageMap l.cache
    × Reached g.row.D l.fn.fanout.most elsewhere (pages l.fn.cache) (pages l.cache)
    (at_begin l.fn.root.level t branch l.fn.level)
    l.now l.waiting.waits.items l.waiting.called)
    × (IsPageMap l.fn.cache → IsPageMap l.cache × ((l.now ≡ l.fn.root) ⊎ (touched_of l.cache ≡ true)))

abbrev pub decreases-placing : goal.decreases-placing
decreases-placing g l = measure_of l.waiting
