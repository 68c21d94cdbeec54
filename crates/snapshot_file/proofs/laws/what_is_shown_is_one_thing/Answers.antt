-- What was found is one thing, and what is shown is what that says.
use Rattle.snapshot_file.specs.OneFound.{one_found, one_shown, shown_as}
use Rattle.snapshot_file.proofs.laws.what_is_shown_is_one_thing.Goals as goal

pub returns-clause-found : goal.returns-clause-found
returns-clause-found c = λ f g a e. one_found a e f g

pub returns-clause-shown : goal.returns-clause-shown
returns-clause-shown c = shown_as

pub returns-clause-one : goal.returns-clause-one
returns-clause-one c = one_shown
