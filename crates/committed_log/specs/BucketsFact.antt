-- That slots are chained is a fact: a ghost field may hold it.
use Rattle.std.specs.Prelude.{ℕ, List}
use Rattle.std.proofs.Props.{props}
use Rattle.committed_log.specs.Buckets.{AreChained}

pub chained_is_fact : (homes before heads : List ℕ) → IsProp (AreChained homes before heads)
chained_is_fact homes before heads = hlevel props
