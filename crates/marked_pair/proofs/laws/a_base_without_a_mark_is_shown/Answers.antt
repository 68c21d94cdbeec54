-- Nothing is shown otherwise.
use Rattle.marked_pair.specs.MarkLaws.{unmarked_same}
use Rattle.marked_pair.specs.Pair.{disk_of}
use Rattle.marked_pair.proofs.laws.a_base_without_a_mark_is_shown.Goals as goal

pub returns-clause-blocks : goal.returns-clause-blocks
returns-clause-blocks g c = λ blocks none. unmarked_same blocks none

pub returns-clause-pair : goal.returns-clause-pair
returns-clause-pair g c = λ d none. unmarked_same (disk_of d) none
