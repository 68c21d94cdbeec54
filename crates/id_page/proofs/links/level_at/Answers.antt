-- The level of a fork is its byte 4.
use Rattle.std.proofs.Common.{◌∙◌}
use Rattle.id_page.proofs.ForkReading.{level_of_fork}
use Rattle.id_page.proofs.links.level_at.Goals as goal

pub returns-clause-of_fork : goal.returns-clause-of_fork
returns-clause-of_fork c = λ dims content is. c.read_u8.ensures
    ∙ level_of_fork dims c.args.page.now content is
