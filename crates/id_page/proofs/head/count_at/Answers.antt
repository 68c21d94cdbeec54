-- The count of a leaf is how many objects it has, and that of a fork how many children.
use Rattle.std.proofs.Common.{◌∙◌}
use Rattle.id_page.proofs.ForkReading.{count_of_fork}
use Rattle.id_page.proofs.LeafReading.{count_of_leaf}
use Rattle.id_page.proofs.head.count_at.Goals as goal

pub returns-clause-of_leaf : goal.returns-clause-of_leaf
returns-clause-of_leaf c = λ dims objects is. c.from.ensures ∙ c.read_u16.ensures
    ∙ count_of_leaf dims c.args.page.now objects is

pub returns-clause-of_fork : goal.returns-clause-of_fork
returns-clause-of_fork c = λ dims content is. c.from.ensures ∙ c.read_u16.ensures
    ∙ count_of_fork dims c.args.page.now content is
