-- The law is the lemma of its name.
use Rattle.layer_pages.proofs.LayerLemmas.{pages_of_a_layer}
use Rattle.layer_pages.proofs.laws.pages_of_a_layer_are_there.Goals as goal

pub returns : goal.returns
returns c = pages_of_a_layer
