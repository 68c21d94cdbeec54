-- The count of a bucket is how many objects it has.
use Rattle.std.proofs.Common.{◌∙◌}
use Rattle.bucket_page.proofs.Reading.{count_of_bucket}
use Rattle.bucket_page.proofs.head.count_at.Goals as goal

pub returns-clause-of_bucket : goal.returns-clause-of_bucket
returns-clause-of_bucket c = λ dims bucket is. c.from.ensures ∙ c.read_u16.ensures
    ∙ count_of_bucket dims c.args.page.now bucket is
