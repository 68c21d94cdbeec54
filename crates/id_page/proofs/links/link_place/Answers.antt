-- The child's place.
use Rattle.bucket_page.proofs.Places.{entry_place-is}
use Rattle.id_page.proofs.links.link_place.Goals as goal

pub returns-clause-value : goal.returns-clause-value
returns-clause-value c = entry_place-is 12 c.args.place
