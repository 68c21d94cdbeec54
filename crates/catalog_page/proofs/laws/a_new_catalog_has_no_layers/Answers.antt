-- The law is the lemma of its name.
use Rattle.catalog_page.proofs.Named.{begins_empty}
use Rattle.catalog_page.proofs.laws.a_new_catalog_has_no_layers.Goals as goal

pub returns : goal.returns
returns c = begins_empty
