-- What a device in memory keeps is a fact: a ghost field may hold it.
use Rattle.std.specs.Prelude.{ℕ, Bool, List, [], ◌∷◌, Option, Some, None}
use Rattle.std.proofs.Props.{props}
use Rattle.block_device.specs.Logged.{Write}
use Rattle.block_device.specs.Device.{Blocks}
use Rattle.block_device.specs.History.{Event, Wrote, Synced, undone, IsThere, IsHistory}
use Rattle.block_device.specs.Kept.{IsKept}

there_is_fact : (i : ℕ) (old : Option (List ℕ)) (blocks : Blocks) → IsProp (IsThere i old blocks)
there_is_fact i (Some old) blocks = hlevel props
there_is_fact i None blocks = hlevel props

history_is_fact : (blocks : Blocks) (es : List Event) → IsProp (IsHistory blocks es)
history_is_fact blocks [] = hlevel props
history_is_fact blocks (Synced ∷ es) = history_is_fact blocks es
history_is_fact blocks (Wrote i old ∷ es) =
    hlevel (props, there_is_fact i old blocks, history_is_fact (undone i old blocks) es)

pub kept_is_fact : (blocks : Blocks) (marks : List Bool) (log : List Write) (synced : ℕ) (es : List Event)
    → IsProp (IsKept blocks marks log synced es)
kept_is_fact blocks marks log synced es = hlevel (props, history_is_fact blocks es)
