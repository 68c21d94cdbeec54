-- What stands of a pair with its notes is a fact: a ghost field may hold it.
use Rattle.std.specs.Prelude.{ℕ, List, [], ◌∷◌, Option, Some, None}
use Rattle.std.proofs.Props.{props}
use Rattle.block_device.specs.Device.{Blocks}
use Rattle.block_device.specs.History.{Event, Wrote, Synced, undone, IsThere, IsHistory}
use Rattle.journaled_device.specs.Events.{Fall, IsNoted, events, moments}
use Rattle.logged_pair.specs.Standing.{pair_of, shown_of}
use Rattle.logged_pair.specs.declared.pair.LoggedPair.{LoggedPair}

there_is_fact : (i : ℕ) (old : Option (List ℕ)) (blocks : Blocks) → IsProp (IsThere i old blocks)
there_is_fact i (Some old) blocks = hlevel props
there_is_fact i None blocks = hlevel props

history_is_fact : (blocks : Blocks) (es : List Event) → IsProp (IsHistory blocks es)
history_is_fact blocks [] = hlevel props
history_is_fact blocks (Synced ∷ es) = history_is_fact blocks es
history_is_fact blocks (Wrote i old ∷ es) =
    hlevel (props, there_is_fact i old blocks, history_is_fact (undone i old blocks) es)

fall_is_fact : (now : ℕ) (ts : List ℕ) → IsProp (Fall now ts)
fall_is_fact now [] = hlevel props
fall_is_fact now (t ∷ ts) = hlevel (props, fall_is_fact t ts)

pub noted_is_fact : {P A : Type 0} {m : _} (d : LoggedPair P A m)
    (ns : List (LoggedPair P A m × Option ℕ)) → IsProp (IsNoted d ns)
noted_is_fact {m = m} d ns =
    hlevel (props, history_is_fact (shown_of d) (events ns), fall_is_fact (m.moment (pair_of d)) (moments ns))
