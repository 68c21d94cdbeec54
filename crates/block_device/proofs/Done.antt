-- What a write of a device in memory that answers Ok has done.
use Rattle.std.proofs.Common.{◌≡◌, ℕ, List, Ok, refl, rules}
use Rattle.block_device.specs.declared.memory.MemoryDevice.{MemoryDevice}
use Rattle.block_device.specs.Device.{one_more}
use Rattle.block_device.specs.Memory.{shown_of, history_of, writes_of, HasWritten, AnswersWrite}
use Rattle.block_device.proofs.Keeping.{Adds}

pub answers_ok : {X : Type 0} (old new : MemoryDevice X) (i : ℕ) (bytes : List ℕ)
    → Adds (shown_of old) (shown_of new) (history_of old) (history_of new) i bytes
    → writes_of new ≡ one_more (writes_of old) → AnswersWrite old i bytes (Ok tt) new
answers_ok old new i bytes adds counted =
    let done : HasWritten old i bytes new =
    record { shown = adds.shown; synced = adds.certain; unsynced = adds.numbers; counted = counted } in
    record { done = done; refused = search rules; memory = λ e. cc; again = λ one lt. refl }
