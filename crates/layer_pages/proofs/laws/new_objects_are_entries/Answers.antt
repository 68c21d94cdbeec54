-- The law is the lemma of its name.
use Rattle.layer_pages.proofs.LoadLemmas.{new_objects_are_entries}
use Rattle.layer_pages.proofs.laws.new_objects_are_entries.Goals as goal

pub returns : goal.returns
returns c = new_objects_are_entries
