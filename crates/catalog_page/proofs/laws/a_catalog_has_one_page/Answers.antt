-- The law is the lemma of its name.
use Rattle.catalog_page.proofs.OnePage.{one_page}
use Rattle.catalog_page.proofs.laws.a_catalog_has_one_page.Goals as goal

pub returns : goal.returns
returns c = one_page
