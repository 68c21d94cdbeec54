-- Lawful answers of a store of which nothing is known of stops, as after a check of a file that holds no
-- image. Our rule, docs/COMMANDS.md.
use Rattle.std.specs.Prelude.{ℕ, ◌≡◌, ◌≤◌, List, [], ◌∷◌, ⊤}
use Rattle.block_device.specs.Device.{HasRisen}
use Rattle.plain_table.specs.Commands.Command.{Check}
use Rattle.plain_table.specs.Step.{Answer}
use Rattle.plain_table.specs.Step.Answer.{Done}
use Rattle.plain_table.specs.Table.{Table}
use Rattle.store_law.specs.Lawful.{Lawful}
use Rattle.store_law.specs.Sessions.{SessionState}
use Rattle.store_law.specs.States.{Request, StoreState}
use Rattle.store_law.specs.States.Request.{Asks}
use Rattle.store_law.specs.States.StoreState.{Alive}

-- steps, each from what the one before left
abbrev pub StepsBy : {T : Type 0} → (T → Request → Answer → T → Type 0) → T → List Request → List Answer → T
    → Type 0
StepsBy Step old [] [] new = new ≡ old
StepsBy {T = T} Step old (r ∷ rs) (a ∷ as') new = (mid : T) × Step old r a mid × StepsBy Step mid rs as' new
StepsBy Step old [] (a ∷ as') new = ⊥
StepsBy Step old (r ∷ rs) [] new = ⊥

-- What is known of a store between two requests where a stop may leave anything: its state, and how often the
-- device has failed so far.
pub record Standing : Type 0 where
  pub state : StoreState
  pub faults : ℕ

-- what is known so of a store in a state of its session
abbrev pub standing_of : SessionState → Standing
standing_of s = record { state = s.state; faults = s.faults }

-- One request answered lawfully. How often the device has failed does not fall.
pub record LawfulReply (old : Standing) (r : Request) (a : Answer) (new : Standing) : Type 0 where
  pub answer : Lawful (HasRisen old.faults new.faults) old.state r a new.state
  pub faults : old.faults ≤ new.faults

-- lawful answers, each from what the one before left
abbrev pub LawfulReplies : Standing → List Request → List Answer → Standing → Type 0
LawfulReplies = StepsBy LawfulReply

-- Of some table on, each request was answered lawfully, and P holds in the end.
pub record LawfulTo (P : Standing → Type 0) (requests : List Request) (answers : List Answer) : Type 0 where
  pub table : Table
  pub old : Standing
  pub new : Standing
  pub begins : old.state ≡ Alive table
  pub lawful : LawfulReplies old requests answers new
  pub ends : P new

-- the request is a check, and it was answered ok
abbrev pub IsPassedCheck : Request → Answer → Type 0
IsPassedCheck r a = (r ≡ Asks Check) × (a ≡ Done)

-- Each request has one answer, and after each check that was answered ok, so after the first, the rest was
-- answered lawfully from some table on.
abbrev pub LawfulOnceChecked : (Standing → Type 0) → List Request → List Answer → Type 0
LawfulOnceChecked P [] [] = ⊤
LawfulOnceChecked P (r ∷ rs) (a ∷ as') = (IsPassedCheck r a → LawfulTo P rs as') × LawfulOnceChecked P rs as'
LawfulOnceChecked P [] (a ∷ as') = ⊥
LawfulOnceChecked P (r ∷ rs) [] = ⊥
