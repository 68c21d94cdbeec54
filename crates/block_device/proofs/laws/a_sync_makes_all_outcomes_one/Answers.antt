-- After a sync of a device in memory there is one outcome.
use Rattle.std.proofs.Common.{◌≡◌, ◌∷◌, sym, subst}
use Rattle.block_device.specs.Device.{Blocks}
use Rattle.block_device.specs.History.{MayLeave, Synced}
use Rattle.block_device.specs.Outcomes.{all_left}
use Rattle.block_device.proofs.Stops.{only_shown}
use Rattle.block_device.proofs.laws.a_sync_makes_all_outcomes_one.Goals as goal

pub returns-clause-in_memory : goal.returns-clause-in_memory
returns-clause-in_memory g c = λ blocks es d whole. (
  λ now. only_shown blocks es d now,
  λ (e : d ≡ blocks). subst (λ (b : Blocks). MayLeave blocks (Synced ∷ es) b) (sym e) (all_left blocks whole),
)
