use Rattle.std.proofs.Common.{sym}
use Rattle.tree_node.proofs.EntryLemmas.{box_at-any}
use Rattle.tree_node.proofs.entries.box_of.Goals as goal

pub returns-clause-value : goal.returns-clause-value
returns-clause-value g c = sym (box_at-any c.args.entries.now c.args.i c.index-entries-i.result c.requires)
