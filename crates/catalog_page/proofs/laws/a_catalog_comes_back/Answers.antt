-- What is encoded is spelled, and what is spelled is decoded.
use Rattle.std.proofs.Common.{◌∙◌}
use Rattle.catalog_page.proofs.laws.a_catalog_comes_back.Goals as goal

pub returns : goal.returns
returns c = c.decode.ensures.spelled ∙ c.encode.ensures.read_back
