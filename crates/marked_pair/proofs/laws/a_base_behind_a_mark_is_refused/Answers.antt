-- What a stop leaves has the mark.
use Rattle.marked_pair.specs.Refused.{marked_not_closed, marked_refused}
use Rattle.marked_pair.proofs.laws.a_base_behind_a_mark_is_refused.Goals as goal

pub returns-clause-refused : goal.returns-clause-refused
returns-clause-refused g c = λ d a b h synced left. marked_refused a ((d.behind h).synced synced a b left)

pub returns-clause-not_closed : goal.returns-clause-not_closed
returns-clause-not_closed g c =
    λ d a b h synced left enough. marked_not_closed a ((d.behind h).synced synced a b left) enough
