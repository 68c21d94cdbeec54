-- What a request may be answered, and in which state it may leave a store. A store answers as the plain table
-- does; only want of memory or a fault of the device may refuse a command instead. Our rule,
-- docs/COMMANDS.md.
use Rattle.std.specs.Prelude.{◌≡◌, ◌⊎◌, Bool, true, false, ◌==◌}
use Rattle.plain_table.specs.Commands.{Command, MayGiveUp}
use Rattle.plain_table.specs.Commands.Command.{Reopen}
use Rattle.plain_table.specs.Table.{Table}
use Rattle.plain_table.specs.Step.{Answer, reply_of, after}
use Rattle.plain_table.specs.Step.Answer.{Refused}
use Rattle.plain_table.specs.declared.refusal.Refusal.{Refusal}
use Rattle.plain_table.specs.declared.refusal.Refusal.TheVariants as refusal
use Rattle.store_law.specs.States.{Request, StoreState}
use Rattle.store_law.specs.States.Request.{Asks, BadCommand}
use Rattle.store_law.specs.States.StoreState.{Alive, Dead}

-- want of memory, or a device that failed in this command
abbrev pub IsFault : Type 0 → Refusal → Type 0
IsFault rose refusal.Memory = Unit {0}
IsFault rose refusal.Device = rose
IsFault rose r = ⊥

-- the command may write: it reopens the store, or changes the table
abbrev pub MayWrite : Table → Command → Type 0
MayWrite t c = (c ≡ Reopen) ⊎ ¬ (after t c ≡ t)

-- a fault half way through, of memory or of the device: the end of the store, with the number of the fault
abbrev pub IsEnd : Type 0 → Refusal → Type 0
IsEnd rose (refusal.StoreFailed n) = (n ≡ 16) ⊎ ((n ≡ 17) × rose)
IsEnd rose r = ⊥

-- the refusal says that the device failed: by itself, or as the cause of the end of the store
abbrev pub blames_device : Refusal → Bool
blames_device refusal.Device = true
blames_device (refusal.StoreFailed cause) = cause == 17
blames_device r = false

-- a refusal for which P holds
abbrev pub RefusedBy : (Refusal → Type 0) → Answer → Type 0
RefusedBy P (Refused r) = P r
RefusedBy P a = ⊥

-- the plain table's answer, and the table after it
abbrev pub Answered : Table → Command → Answer → StoreState → Type 0
Answered t c a new = (a ≡ reply_of t c) × (new ≡ Alive (after t c))

-- a fault of a command that may give up, and the table is as it was
abbrev pub GaveUp : Type 0 → Table → Command → Answer → StoreState → Type 0
GaveUp rose t c a new = RefusedBy (IsFault rose) a × MayGiveUp c × (new ≡ Alive t)

-- a fault half way through a reopening or a change of the table: the store is dead
abbrev pub Died : Type 0 → Table → Command → Answer → StoreState → Type 0
Died rose t c a new = RefusedBy (IsEnd rose) a × MayWrite t c × (new ≡ Dead)

-- What a command may do to a live store: `rose` says that its device's count of faults rose in this command.
abbrev pub LawfulFrom : Type 0 → Table → Command → Answer → StoreState → Type 0
LawfulFrom rose t c a new = Answered t c a new ⊎ (GaveUp rose t c a new ⊎ Died rose t c a new)

-- What a request may do. A bad line changes nothing, and a dead store refuses all else.
abbrev pub Lawful : Type 0 → StoreState → Request → Answer → StoreState → Type 0
Lawful rose old BadCommand a new = (a ≡ Refused refusal.BadLine) × (new ≡ old)
Lawful rose (Alive t) (Asks c) a new = LawfulFrom rose t c a new
Lawful rose Dead (Asks c) a new = (a ≡ Refused (refusal.StoreFailed 19)) × (new ≡ Dead)
