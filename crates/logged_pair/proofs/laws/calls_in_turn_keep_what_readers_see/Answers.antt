-- One call after the other.
use Rattle.logged_pair.proofs.Snapped.{readers_then, snapshots_then}
use Rattle.logged_pair.proofs.laws.calls_in_turn_keep_what_readers_see.Goals as goal

pub returns-clause-snapshots : goal.returns-clause-snapshots
returns-clause-snapshots g c = λ d e f x y. snapshots_then d e f x y

pub returns-clause-readers : goal.returns-clause-readers
returns-clause-readers g c = λ d e f x y. readers_then d e f x y

pub returns-clause-all : goal.returns-clause-all
returns-clause-all g c = λ d e x. x 1
