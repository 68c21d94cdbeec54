-- Objects that are put into a layer of a store, all of them or none. Our rule, docs/COMMANDS.md, "Import".
use Rattle.std.specs.Prelude.{ℕ, ◌≡◌, ◌⊎◌, Bool, true, false, if◌then◌else◌, nat_lt, List, [], ◌∷◌, ◌++◌, map}
use Rattle.std.specs.Prelude.{Err, IfErr, None, Ok, Option, Result, Some, is_ok}
use Rattle.std.specs.FinMap.{contains_key, len}
use Rattle.block_device.specs.Device.{Blocks, LeavesOnly, Only}
use Rattle.block_device.specs.declared.device.BlockDevice as device
use Rattle.live_layers.specs.Image.{CommitsWhatOpens, IsImage, IsImageOfOne, IsRefusedOrImageOf}
use Rattle.plain_table.specs.Commands.{Command}
use Rattle.plain_table.specs.Commands.Command.{Count, Create, Insert, Load}
use Rattle.plain_table.specs.Loads.{GivenObjects}
use Rattle.plain_table.specs.Step.{Answer, after, reply_of}
use Rattle.plain_table.specs.Step.Answer.{Counted, Done, Refused}
use Rattle.plain_table.specs.Table.{Table, layer_at}
use Rattle.plain_table.specs.declared.refusal.Refusal.{Refusal}
use Rattle.plain_table.specs.declared.refusal.Refusal.TheVariants as refusal
use Rattle.store_law.specs.States.{Request}
use Rattle.store_law.specs.States.StoreState.{Alive}
use Rattle.layer_store.specs.Calls.{Calls}
use Rattle.layer_store.specs.Faults.{IsMemoryOrDevice}
use Rattle.layer_store.specs.Representation.{IsInState}
use Rattle.layer_store.specs.declared.store.Store.{Store}
use Rattle.layer_import.specs.declared.import.Unimported.{Unimported}
use Rattle.store_law.specs.States.Request.{Asks}

-- the commands that insert objects one by one
abbrev pub insertions : List ℕ → GivenObjects → List Command
insertions layer objects = map (λ object. Insert layer object.0 object.1 object.2) objects

-- The commands of an import into a table: a layer that is not there is made, with so many axes and this
-- fanout; one without objects is loaded; and into another the objects are inserted in turn.
abbrev pub import_commands : Table → List ℕ → ℕ → ℕ → GivenObjects → List Command
import_commands t layer dims fanout objects =
    if contains_key t layer
    then (if nat_lt 0 (len (layer_at t layer).objects)
    then insertions layer objects
    else Load layer objects ∷ [])
    else Create layer dims fanout ∷ Load layer objects ∷ []

-- each of these commands is done, in turn from one table on, and the other table is left
abbrev pub AreDone : Table → List Command → Table → Type 0
AreDone t [] u = u ≡ t
AreDone t (c ∷ cs) u = (reply_of t c ≡ Done) × AreDone (after t c) cs u

-- ---- how an import ends

-- one of the commands was refused, and nothing was closed
abbrev pub GaveUp : Table → Bool → List Table → Type 0
GaveUp t went_well tables = (went_well ≡ false) × (tables ≡ t ∷ [])

-- Each of the commands was done, and the table after them was closed, or its closing was refused. Where it
-- went well, the blocks are an image of that table, also after a stop.
pub record Closed {D : Type 0} (m : device.Ghosts D) (t : Table) (commands : List Command) (went_well : Bool)
    (tables : List Table) (left : D) : Type 0 where
  pub table : Table
  pub done : AreDone t commands table
  pub tables_are : tables ≡ table ∷ t ∷ []
  pub image : went_well ≡ true → IsImage (m.shown left) table
  pub durable : went_well ≡ true → Only (m.shown left) (m.may_leave left)

-- What an import left of a device whose store held this table, that was closed at this moment and since then
-- no other: a stop at any moment since left blocks that opening refuses, or an image of one of these tables;
-- and over a device that commits it is found to have left such an image.
pub record HasImported {D : Type 0} (m : device.Ghosts D) (moment : ℕ) (t : Table) (commands : List Command)
    (went_well : Bool) (old left : D) : Type 0 where
  pub tables : List Table
  pub ends : GaveUp t went_well tables ⊎ Closed m t commands went_well tables left
  pub stops : LeavesOnly m.moment m.left_since m.recovery old left (IsRefusedOrImageOf tables)
  pub found : CommitsWhatOpens m.recovery → (c : Blocks) → m.recovery.found_since left moment c
      → IsImageOfOne tables c

-- ---- the calls that are made

-- the request asks how many objects a layer has, makes one, or puts objects into it
abbrev pub IsPut : Request → Type 0
IsPut (Asks (Count layer)) = Unit {0}
IsPut (Asks (Create layer dims fanout)) = Unit {0}
IsPut (Asks (Insert layer id box tag)) = Unit {0}
IsPut (Asks (Load layer objects)) = Unit {0}
IsPut r = ⊥

-- so are all of these
abbrev pub ArePut : List Request → Type 0
ArePut [] = Unit {0}
ArePut (r ∷ rs) = IsPut r × ArePut rs

-- these commands are asked, and each is done
abbrev pub asked : List Command → List Request
asked commands = map (λ c. Asks c) commands

abbrev pub all_done : List Command → List Answer
all_done commands = map (λ c. Done) commands

-- the object that is named where a request is refused: that of an insertion
abbrev pub object_of : Request → Option ℕ
object_of (Asks (Insert layer id box tag)) = Some id
object_of r = None

-- Of these commands the first were asked and done, and then one was refused, whose object is named.
pub record EndsRefused (commands : List Command) (requests : List Request) (answers : List Answer)
    (why : Unimported) : Type 0 where
  pub done : List Command
  pub last : Command
  pub left : List Command
  pub commands_are : commands ≡ done ++ last ∷ left
  pub requests_are : requests ≡ asked (done ++ last ∷ [])
  pub answers_are : answers ≡ all_done done ++ Refused why.refusal ∷ []
  pub object : why.object ≡ object_of (Asks last)

-- what is told where a call that names no object was answered so
abbrev pub outcome_of : Result (Unit {0}) Refusal → Result (Unit {0}) Unimported
outcome_of (Ok done) = Ok done
outcome_of (Err r) = Err (record { refusal = r; object = None })

-- Objects were inserted into a layer in turn, so that `So` holds of requests and answers: all of them where
-- it went well, and else the last one was refused.
pub record Inserts (So : List Request → List Answer → Type 0) (layer : List ℕ) (objects : GivenObjects)
    (outcome : Result (Unit {0}) Unimported) : Type 0 where
  pub requests : List Request
  pub answers : List Answer
  pub so : So requests answers
  pub are_put : ArePut requests
  pub all : is_ok outcome ≡ true
      → (requests ≡ asked (insertions layer objects)) × (answers ≡ all_done (insertions layer objects))
  pub refused : IfErr outcome (EndsRefused (insertions layer objects) requests answers)

-- where it went well: the layer had no object and was loaded
abbrev pub IsLoaded : List ℕ → GivenObjects → List Request → List Answer → Type 0
IsLoaded layer objects requests answers =
    (requests ≡ Asks (Count layer) ∷ asked (Load layer objects ∷ []))
    × (answers ≡ Counted 0 ∷ Done ∷ [])

-- it was not there, was made, and loaded
abbrev pub IsMade : List ℕ → ℕ → ℕ → GivenObjects → List Request → List Answer → Type 0
IsMade layer dims fanout objects requests answers =
    (requests ≡ Asks (Count layer) ∷ asked (Create layer dims fanout ∷ Load layer objects ∷ []))
    × (answers ≡ Refused refusal.NoLayer ∷ Done ∷ Done ∷ [])

-- it had objects, and the others were inserted
abbrev pub IsFilled : List ℕ → GivenObjects → List Request → List Answer → Type 0
IsFilled layer objects requests answers = (count : ℕ) × (nat_lt 0 count ≡ true)
    × (requests ≡ Asks (Count layer) ∷ asked (insertions layer objects))
    × (answers ≡ Counted count ∷ all_done (insertions layer objects))

-- in one of these ways all objects were put in
abbrev pub AreAllPut : List ℕ → ℕ → ℕ → GivenObjects → List Request → List Answer → Type 0
AreAllPut layer dims fanout objects requests answers = IsLoaded layer objects requests answers
    ⊎ (IsMade layer dims fanout objects requests answers ⊎ IsFilled layer objects requests answers)

-- what is asked once the objects of the layer were counted, by the answer
abbrev pub commands_after : Answer → List ℕ → ℕ → ℕ → GivenObjects → List Command
commands_after (Counted count) layer dims fanout objects =
    if nat_lt 0 count then insertions layer objects else Load layer objects ∷ []
commands_after (Refused refusal.NoLayer) layer dims fanout objects =
    Create layer dims fanout ∷ Load layer objects ∷ []
commands_after other layer dims fanout objects = []

-- the count was refused, or one of the commands after it
abbrev pub IsPutRefused : List ℕ → ℕ → ℕ → GivenObjects → List Request → List Answer → Unimported → Type 0
IsPutRefused layer dims fanout objects requests answers why =
    ((requests ≡ Asks (Count layer) ∷ []) × (answers ≡ Refused why.refusal ∷ []) × (why.object ≡ None))
    ⊎ ((counted : Answer) × (rest : List Request) × (answered : List Answer)
    × (requests ≡ Asks (Count layer) ∷ rest) × (answers ≡ counted ∷ answered)
    × EndsRefused (commands_after counted layer dims fanout objects) rest answered why)

-- objects were put into a layer, so that `So` holds of requests and answers, or the last request was refused
pub record Puts (So : List Request → List Answer → Type 0) (layer : List ℕ) (dims fanout : ℕ)
    (objects : GivenObjects) (outcome : Result (Unit {0}) Unimported) : Type 0 where
  pub requests : List Request
  pub answers : List Answer
  pub so : So requests answers
  pub are_put : ArePut requests
  pub all : is_ok outcome ≡ true → AreAllPut layer dims fanout objects requests answers
  pub refused : IfErr outcome (IsPutRefused layer dims fanout objects requests answers)

-- ---- why objects were not put in

-- The store was asked how many objects the layer has, and then the commands after that, until one was refused
-- so; or its closing was, where all objects were put in.
pub record IsUnimported {D A : Type 0} {m : _} (store : Store D A m) (layer : List ℕ) (dims fanout : ℕ)
    (objects : GivenObjects) (why : Unimported) : Type 0 where
  pub requests : List Request
  pub answers : List Answer
  pub next : Store D A m
  pub calls : Calls store next requests answers
  pub refused : IsPutRefused layer dims fanout objects requests answers why
      ⊎ (AreAllPut layer dims fanout objects requests answers × (why.object ≡ None)
      × ((t : Table) → IsInState next (Alive t) → IsMemoryOrDevice why.refusal))
