-- What stands of a base and a log is a fact: a ghost field may hold it.
use Rattle.std.specs.Prelude.{ℕ, Bool, true, false, List, length, take}
use Rattle.std.proofs.Props.{props}
use Rattle.block_device.specs.Device.{Blocks}
use Rattle.committed_log.specs.Log.{no_home}
use Rattle.committed_log.specs.Stops.{AreWholeBelow, IsClearing, IsKept, IsStanding, ReadsIn, StopIn, flagged}

kept_fact : (homes : List ℕ) (journal a b : Blocks) → IsProp (IsKept homes journal a b)
kept_fact homes journal a b = hlevel props

clearing_fact : (homes : List ℕ) (base journal a b : Blocks) → IsProp (IsClearing homes base journal a b)
clearing_fact homes base journal a b = hlevel props

stop_fact : (clearing : Bool) (homes : List ℕ) (base journal a b : Blocks)
    → IsProp (StopIn clearing homes base journal a b)
stop_fact false homes base journal a b = kept_fact homes journal a b
stop_fact true homes base journal a b = clearing_fact homes base journal a b

reads_fact : (clearing : Bool) (homes : List ℕ) (base journal : Blocks)
    → IsProp (ReadsIn clearing homes base journal)
reads_fact false homes base journal = hlevel props
reads_fact true homes base journal = hlevel props

whole_fact : (n : ℕ) (b : Blocks) → IsProp (AreWholeBelow n b)
unfolding AreWholeBelow
whole_fact n b = hlevel props

pub standing_fact : (clearing : Bool) (homes : List ℕ) (base journal : Blocks)
    (may_leave : Blocks → Blocks → Type 0) → IsProp (IsStanding clearing homes base journal may_leave)
standing_fact clearing homes base journal may_leave =
    hlevel (
      props,
      whole_fact no_home (flagged (take (length homes) journal)),
      reads_fact clearing homes base journal,
      stop_fact clearing homes base journal,
    )
