-- A journal whose end is of zeros has not ended.
use Rattle.journaled_file.specs.JudgedLaws.{none_ended}
use Rattle.journaled_file.proofs.laws.what_a_session_leaves_is_its_own.Goals as goal

pub returns-clause-not_ended : goal.returns-clause-not_ended
returns-clause-not_ended c = none_ended
