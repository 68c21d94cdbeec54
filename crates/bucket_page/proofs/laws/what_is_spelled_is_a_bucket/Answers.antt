-- The law is the lemma of its name.
use Rattle.bucket_page.proofs.Named.{spells_buckets}
use Rattle.bucket_page.proofs.laws.what_is_spelled_is_a_bucket.Goals as goal

pub returns : goal.returns
returns c = spells_buckets
