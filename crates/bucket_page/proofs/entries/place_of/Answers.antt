-- The entry's place, which lies within the page.
use Rattle.bucket_page.proofs.Places.{entry_place-is}
use Rattle.bucket_page.proofs.entries.place_of.Goals as goal

pub returns-clause-value : goal.returns-clause-value
returns-clause-value c = entry_place-is c.args.size c.args.place
