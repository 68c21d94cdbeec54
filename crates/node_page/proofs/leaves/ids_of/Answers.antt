-- The goals of `ids_of` that are proved by hand.
use Rattle.std.proofs.Common.{arith}
use Rattle.node_page.proofs.LeafLemmas.{references_read}
use Rattle.node_page.proofs.leaves.ids_of.Goals as goal

pub returns-clause-ids : goal.returns-clause-ids
returns-clause-ids g c =
    references_read c.as_slice-entry-items.result.now c.args.leaf.now.entries.items c.loop-entry.entry-index
    c.loop-entry.ids.items c.loop-entry.invariant (omega arith) c.as_slice-entry-items.ensures.value
