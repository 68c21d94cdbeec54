-- A leaf and a fork are of the dimension in byte 1.
use Rattle.std.proofs.Common.{◌∙◌}
use Rattle.id_page.proofs.ForkReading.{fork_spells}
use Rattle.id_page.proofs.LeafReading.{leaf_spells}
use Rattle.id_page.proofs.head.dims_at.Goals as goal

pub returns-clause-of_leaf : goal.returns-clause-of_leaf
returns-clause-of_leaf c = λ dims objects is. c.read_u8.ensures
    ∙ (leaf_spells dims c.args.page.now objects is).head.dims_is

pub returns-clause-of_fork : goal.returns-clause-of_fork
returns-clause-of_fork c = λ dims content is. c.read_u8.ensures
    ∙ (fork_spells dims c.args.page.now content is).head.dims_is
