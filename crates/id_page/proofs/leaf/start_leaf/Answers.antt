-- A page of zeros but for its head has no objects.
use Rattle.id_page.proofs.LeafEdits.{leaf_empty}
use Rattle.id_page.proofs.leaf.start_leaf.Goals as goal

pub returns-clause-empty : goal.returns-clause-empty
returns-clause-empty c = leaf_empty c.args.dims c.write_head.new.page c.write_head.ensures.head
