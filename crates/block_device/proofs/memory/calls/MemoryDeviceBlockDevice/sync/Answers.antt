-- After a sync a stop leaves what is read.
use Rattle.std.proofs.Common.{◌≡◌, ap, sym, subst, List}
use Rattle.block_device.specs.Device.{Blocks}
use Rattle.block_device.specs.History.{Event, history, MayLeave}
use Rattle.block_device.specs.Outcomes.{shown_left}
use Rattle.block_device.proofs.Stops.{only_shown}
use Rattle.block_device.proofs.memory.calls.MemoryDeviceBlockDevice.sync.Goals as goal

pub returns-clause-durable : goal.returns-clause-durable
returns-clause-durable g c = λ _ d now.
    let bs = c.args.self.now.blocks in
    only_shown bs (history c.args.self.now.past.notes) d
    (subst (λ (l : List Event). MayLeave bs l d) (ap history c.syncs.ensures) now)

pub returns-clause-stops : goal.returns-clause-stops
returns-clause-stops g c = λ _ d now.
    let bs = c.args.self.now.blocks in
    let es = history c.args.self.now.past.notes in
    let same : d ≡ bs =
    only_shown bs es d (subst (λ (l : List Event). MayLeave bs l d) (ap history c.syncs.ensures) now) in
    subst (λ (b : Blocks). MayLeave bs es b) (sym same)
    (shown_left bs es c.args.self.now.kept.whole c.args.self.now.kept.leads)
