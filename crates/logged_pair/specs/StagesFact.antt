-- What stands of a region is a fact: a ghost field may hold it.
use Rattle.std.specs.Prelude.{ℕ, Bool, true, false, List}
use Rattle.std.proofs.Props.{props}
use Rattle.block_device.specs.Device.{Blocks}
use Rattle.logged_pair.specs.Stages.{IsDeciding, IsFilling, IsRecorded, IsStanding, ReadsIn, StopIn}

filling_fact : (kept : ℕ) (base a b : Blocks) → IsProp (IsFilling kept base a b)
filling_fact kept base a b = hlevel props

deciding_fact : (base journal a b : Blocks) → IsProp (IsDeciding base journal a b)
deciding_fact base journal a b = hlevel props

stop_fact : (deciding : Bool) (kept : ℕ) (base journal a b : Blocks)
    → IsProp (StopIn deciding kept base journal a b)
stop_fact false kept base journal a b = filling_fact kept base a b
stop_fact true kept base journal a b = deciding_fact base journal a b

recorded_fact : (slots : List ℕ) (journal : Blocks) → IsProp (IsRecorded slots journal)
recorded_fact slots journal = hlevel props

reads_fact : (deciding : Bool) (slots : List ℕ) (journal : Blocks) → IsProp (ReadsIn deciding slots journal)
reads_fact false slots journal = hlevel props
reads_fact true slots journal = recorded_fact slots journal

pub standing_fact : (deciding clearing : Bool) (kept : ℕ) (slots : List ℕ) (base journal : Blocks)
    (leaves : Blocks → Blocks → Type 0)
    → IsProp (IsStanding deciding clearing kept slots base journal leaves)
standing_fact deciding clearing kept slots base journal leaves =
    hlevel (props, reads_fact deciding slots journal, stop_fact deciding kept base journal)
