-- The law is a lemma.
use Rattle.id_tree.proofs.ImageLemmas.{one_image}
use Rattle.id_tree.proofs.laws.a_table_has_one_image.Goals as goal

pub returns : goal.returns
returns c = one_image
