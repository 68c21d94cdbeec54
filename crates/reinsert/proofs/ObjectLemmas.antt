-- An insertion keeps the objects.
use Rattle.std.proofs.Common.{◌++◌}
use Rattle.tree_node.specs.Trees.{objects_in}
use Rattle.tree_node.specs.Rows.{objects_on}
use Rattle.tree_node.proofs.ObjectLemmas.{equal_sums_permute}
use Rattle.reinsert.specs.Kept.{InsertionKeepsObjects}
use Rattle.reinsert.proofs.KeptLemmas.{weight-insertion}

pub insertion_keeps_objects : InsertionKeepsObjects
insertion_keeps_objects dims most elsewhere branch level old new h =
    equal_sums_permute (objects_on branch ++ objects_in old.row) (objects_in new.row)
    (λ w. weight-insertion w dims most elsewhere branch level old new h)
