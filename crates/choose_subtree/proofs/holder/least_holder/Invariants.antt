-- The least holder so far, and that the loop ends.
use Rattle.std.proofs.Common.{◌-◌}
use Rattle.node_bytes.specs.Views.{content_in}
use Rattle.choose_subtree.proofs.HolderSteps.{IsLeastHolder}
use Rattle.choose_subtree.proofs.holder.least_holder.Given as goal

abbrev pub invariant-entries : goal.invariant-entries
invariant-entries g l = IsLeastHolder g.row.D (content_in l.node).entries l.new l.place l.least

abbrev pub decreases-entries : goal.decreases-entries
decreases-entries g l = 100 - l.place
