-- By the laws of what is torn.
use Rattle.journaled_file.specs.FinishingLaws.{torn_own, torn_unended}
use Rattle.journaled_file.proofs.laws.what_is_written_again_is_found_again.Goals as goal

pub returns-clause-mark : goal.returns-clause-mark
returns-clause-mark c = torn_own

pub returns-clause-end : goal.returns-clause-end
returns-clause-end c = torn_unended
