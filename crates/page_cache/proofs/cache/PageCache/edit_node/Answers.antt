-- What is said of so many axes is said of the number that frames keep of them, unless that is 0.
use Rattle.std.proofs.Common.{ℕ, List, subst, sym}
use Rattle.std.specs.Fn.{FnOnceReturnsAtMut}
use Rattle.node_bytes.specs.Layout.{StaysNode}
use Rattle.page_cache.proofs.cache.PageCache.edit_node.Goals as goal

pub edit_known-requires-clause-stays : goal.edit_known-requires-clause-stays
edit_known-requires-clause-stays g c = λ some.
    subst (λ (n : ℕ). (page after : List ℕ) (answer : g.row.T.Denot)
    → FnOnceReturnsAtMut g.F.FnOnce c.args.change page answer after → StaysNode n page after)
    (sym (c.axes_of.ensures.some some)) c.requires.stays
