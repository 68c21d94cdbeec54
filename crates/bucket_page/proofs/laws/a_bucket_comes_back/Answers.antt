-- What is encoded is spelled, and what is spelled is decoded.
use Rattle.std.proofs.Common.{◌∙◌}
use Rattle.bucket_page.specs.Layout.{content_of}
use Rattle.bucket_page.proofs.Reading.{spelled}
use Rattle.bucket_page.proofs.laws.a_bucket_comes_back.Goals as goal

pub returns : goal.returns
returns g c = c.decode.ensures.spelled
    ∙ spelled g.row.D c.encode.new.page (content_of c.args.bucket.now) c.encode.ensures.spelled
