-- What stands in the place is that of the fork's child.
use Rattle.std.proofs.Common.{◌∙◌}
use Rattle.id_page.proofs.ForkReading.{key_of_fork}
use Rattle.id_page.proofs.LinkPlaces.{key_is}
use Rattle.id_page.proofs.links.key_at.Goals as goal

pub returns-clause-value : goal.returns-clause-value
returns-clause-value c = key_is c.args.place c.link_place.result c.args.page.now c.read_u64.result
    c.link_place.ensures.value c.read_u64.ensures

pub returns-clause-of_fork : goal.returns-clause-of_fork
returns-clause-of_fork c = λ dims content other is lt. returns-clause-value c
    ∙ key_of_fork dims c.args.page.now content c.args.place other is lt
