-- The child comes into an empty fork.
use Rattle.std.proofs.Common.{[]}
use Rattle.id_tree.proofs.rooting.only_child.Goals as goal

pub returns-clause-spelled : goal.returns-clause-spelled
returns-clause-spelled g c = c.push_link.ensures.pushed g.row.D (record { level = c.args.level; links = [] })
    c.start_fork.ensures.empty

pub returns-clause-tidy : goal.returns-clause-tidy
returns-clause-tidy g c = c.push_link.ensures.tidy c.start_fork.ensures.tidy
