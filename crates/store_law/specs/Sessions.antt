-- Lawful steps of a store, and sessions of such steps. Our rule, docs/COMMANDS.md.
use Rattle.std.specs.Prelude.{ℕ, ◌≡◌, ◌≤◌, List, [], ◌∷◌}
use Rattle.block_device.specs.Device.{HasRisen}
use Rattle.plain_table.specs.Step.{Answer}
use Rattle.plain_table.specs.Table.{Table}
use Rattle.store_law.specs.Lawful.{Lawful}
use Rattle.store_law.specs.States.{Request, StoreState}
use Rattle.store_law.specs.States.StoreState.{Alive}
use Rattle.store_law.specs.Stops.{Stops, after_request}

-- What is known of a store between two requests: its state, what stops leave, and how often the device has
-- failed so far.
pub record SessionState : Type 0 where
  pub state : StoreState
  pub stops : Stops
  pub faults : ℕ

-- the answer to a request, and the state that it leaves
abbrev pub LawfulAnswer : SessionState → Request → Answer → SessionState → Type 0
LawfulAnswer old r a new = Lawful (HasRisen old.faults new.faults) old.state r a new.state

-- One request answered lawfully, and what stops leave after it. How often the device has failed does not
-- fall.
pub record LawfulStep (old : SessionState) (r : Request) (a : Answer) (new : SessionState) : Type 0 where
  pub answer : LawfulAnswer old r a new
  pub stops : new.stops ≡ after_request old.state old.stops r a
  pub faults : old.faults ≤ new.faults

-- lawful steps, each from what the one before left
abbrev pub Session : SessionState → List Request → List Answer → SessionState → Type 0
Session old [] [] new = new ≡ old
Session old (r ∷ rs) (a ∷ as') new = (mid : SessionState) × LawfulStep old r a mid × Session mid rs as' new
Session old [] (a ∷ as') new = ⊥
Session old (r ∷ rs) [] new = ⊥

-- the requests were so answered, one lawful step each, by a store that began with this table
pub record IsSessionFrom (t : Table) (requests : List Request) (answers : List Answer) : Type 0 where
  pub old : SessionState
  pub new : SessionState
  pub begins : old.state ≡ Alive t
  pub lawful : Session old requests answers new

-- what is left represents a state of which P holds
pub record Reaches {S T : Type 0} (Represents : S → T → Type 0) (left : S) (P : T → Type 0) : Type 0 where
  pub next : T
  pub represents : Represents left next
  pub so : P next

-- whatever state the old one represents, the new one represents a state that P allows after it
abbrev pub Takes : {S T : Type 0} → (S → T → Type 0) → S → S → (T → T → Type 0) → Type 0
Takes {T = T} Represents old new P = (s : T) → Represents old s → Reaches Represents new (P s)
