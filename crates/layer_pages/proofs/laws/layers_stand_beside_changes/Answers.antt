-- The laws are the lemmas of their names.
use Rattle.layer_pages.proofs.LayerLemmas.{layers_beside, layers_in_equal_pages}
use Rattle.layer_pages.proofs.laws.layers_stand_beside_changes.Goals as goal

pub returns-clause-beside : goal.returns-clause-beside
returns-clause-beside c = layers_beside

pub returns-clause-equal : goal.returns-clause-equal
returns-clause-equal c = layers_in_equal_pages
