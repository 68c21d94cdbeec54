-- The law is the lemma of its name.
use Rattle.catalog_page.proofs.Named.{spells_catalogs}
use Rattle.catalog_page.proofs.laws.what_is_spelled_is_a_catalog.Goals as goal

pub returns : goal.returns
returns c = spells_catalogs
