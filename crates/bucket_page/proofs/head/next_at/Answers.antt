-- The next page of a bucket is the number at 4.
use Rattle.std.proofs.Common.{◌∙◌}
use Rattle.bucket_page.proofs.Reading.{next_of_bucket}
use Rattle.bucket_page.proofs.head.next_at.Goals as goal

pub returns-clause-of_bucket : goal.returns-clause-of_bucket
returns-clause-of_bucket c = λ dims bucket is. c.read_u32.ensures
    ∙ next_of_bucket dims c.args.page.now bucket is
