use Rattle.std.proofs.Common.{sym}
use Rattle.tree_node.proofs.EntryLemmas.{reference_at-any}
use Rattle.tree_node.proofs.entries.reference_of.Goals as goal

pub returns : goal.returns
returns g c = sym (reference_at-any c.args.entries.now c.args.i c.index-entries-i.result c.requires)
