-- What each call of a session keeps: one lawful step of its store, and its answer as a number. Our rule,
-- docs/LIBRARY.md.
use Rattle.std.specs.Prelude.{ℕ, ◌≡◌, ◌⊎◌, ◌++◌, Bool, true, false, Option, None, Some, Result, Ok, Err, IsOk, IfErr}
use Rattle.std.specs.Prelude.{List, map, take, drop, length, min, if◌then◌else◌}
use Rattle.arrayvec.specs.ArrayVec.{ArrayVec}
use Rattle.block_device.specs.Device.{Only}
use Rattle.live_layers.specs.Image.{IsImage}
use Rattle.plain_table.specs.Answers.{done_answer}
use Rattle.plain_table.specs.Commands.{Command}
use Rattle.plain_table.specs.Commands.Command.{Reopen}
use Rattle.plain_table.specs.Step.{Answer}
use Rattle.plain_table.specs.Table.{Table}
use Rattle.plain_table.specs.declared.boxes.AnyBox.{AnyBox}
use Rattle.plain_table.specs.declared.refusal.Refusal.{Refusal}
use Rattle.plain_table.specs.declared.refusal.Refusal.TheVariants as refusal
use Rattle.plain_table.specs.declared.rows.LayerInfo.{LayerInfo}
use Rattle.layer_store.specs.Commands.{Answers, Changes, StaysHonest, TakesReply, TakesStep}
use Rattle.layer_store.specs.Faults.{IsMemoryOrDevice}
use Rattle.layer_store.specs.Representation.{IsInState, IsSettled, blocks_in, device_in}
use Rattle.live_layers.specs.Faults.{HasRefusalCause}
use Rattle.layer_store.specs.declared.store.Store.{Store}
use Rattle.store_law.specs.States.StoreState.{Alive, Dead}
use Rattle.c_rows.specs.Layers.{layer_of}
use Rattle.c_rows.specs.Numbers.{detail_after, number_of}
use Rattle.c_rows.specs.Rows.{row_of}
use Rattle.c_rows.specs.declared.layers.Layer.{Layer}
use Rattle.c_rows.specs.declared.rows.Row.{Row}
use Rattle.c_session.specs.Keeping.{after, kept}
use Rattle.c_session.specs.declared.session.Session.{Session}

-- it was refused by this number before the store was asked, and the session stays as it is
abbrev pub StaysBy : {D A : Type 0} {m : _} → Session D A m → Session D A m → ℕ → ℕ → Type 0
StaysBy old new why number = (new ≡ old) × (number ≡ why)

-- the session is closed, and the call says so
abbrev pub IsClosed : {D A : Type 0} {m : _} → Session D A m → Session D A m → ℕ → Type 0
IsClosed old new number = (old.store ≡ None) × StaysBy old new 103 number

-- ---- changes

-- the store took a lawful step by this command, which the number tells
abbrev pub Steps : {D A : Type 0} {m : _} → Session D A m → Session D A m → Command → ℕ → Type 0
Steps {D} {A} {m} old new c number = (s t : Store D A m) × (r : Result (Unit {0}) Refusal)
    × (old.store ≡ Some s) × Changes s t c r × (new ≡ after old t r) × (number ≡ number_of r)

-- A change was asked: it is refused where the session is only read, or closed, and else it is a step of the
-- store.
abbrev pub ChangesBy : {D A : Type 0} {m : _} → Session D A m → Session D A m → Command → ℕ → Type 0
ChangesBy old new c number = ((old.read_only ≡ true) × StaysBy old new 105 number) ⊎ IsClosed old new number
    ⊎ ((old.read_only ≡ false) × Steps old new c number)

-- the same of a command with what numbers give: refused where they give nothing
abbrev pub ChangesWith : {D A : Type 0} {m : _} {T : Type 0} → Session D A m → Session D A m → Option T
    → (T → Command) → ℕ → Type 0
ChangesWith {T = T} old new given c number =
    ((old.read_only ≡ false) × (given ≡ None) × StaysBy old new 104 number)
    ⊎ ((old.read_only ≡ true) × StaysBy old new 105 number)
    ⊎ ((x : T) × (given ≡ Some x) × ChangesBy old new (c x) number)

-- there was no memory for the objects of a load, and the store was not asked
abbrev pub HasNoMemory : {D A : Type 0} {m : _} → Session D A m → Session D A m → ℕ → Type 0
HasNoMemory old new number = (new ≡ record old { detail = 0 }) × (number ≡ 16)

-- ---- questions

-- the store was asked, the session keeps what it answered, and the number tells it
abbrev pub AsksBy : {D A : Type 0} {m : _} {T : Type 0} → Session D A m → Session D A m → Command
    → (Result T Refusal → Answer) → (Session D A m → T → Session D A m) → ℕ → Type 0
AsksBy {D} {A} {m} {T} old new c answer keep number = IsClosed old new number
    ⊎ ((s t : Store D A m) × (r : Result T Refusal) × (old.store ≡ Some s) × Answers s t c answer r
    × (new ≡ kept keep (after old t r) r) × (number ≡ number_of r))

-- the same of a command with what numbers give
abbrev pub AsksWith : {D A : Type 0} {m : _} {T U : Type 0} → Session D A m → Session D A m → Option U
    → (U → Command) → (Result T Refusal → Answer) → (Session D A m → T → Session D A m) → ℕ → Type 0
AsksWith {U = U} old new given c answer keep number = ((given ≡ None) × StaysBy old new 104 number)
    ⊎ ((x : U) × (given ≡ Some x) × AsksBy old new (c x) answer keep number)

-- the same where the answer goes out at once
abbrev pub TellsBy : {D A : Type 0} {m : _} {T : Type 0} → Session D A m → Session D A m → Command
    → (Result T Refusal → Answer) → (Result T Refusal → Type 0) → ℕ → Type 0
TellsBy {D} {A} {m} {T} old new c answer Goes number = IsClosed old new number
    ⊎ ((s t : Store D A m) × (r : Result T Refusal) × (old.store ≡ Some s) × Answers s t c answer r
    × (new ≡ after old t r) × Goes r × (number ≡ number_of r))

-- a count goes out, and a refusal leaves what was there
abbrev pub HasCount : ℕ → ℕ → Result ℕ Refusal → Type 0
HasCount old new (Ok count) = new ≡ count
HasCount old new (Err r) = new ≡ old

-- an object goes out
abbrev pub HasObject : ℕ → Row → Row → Result (AnyBox × ℕ) Refusal → Type 0
HasObject id old new (Ok object) = new ≡ row_of (id, object.0, object.1)
HasObject id old new (Err r) = new ≡ old

-- an array with these layers in the place of its first ones, as many as it has room for
abbrev pub listed : List LayerInfo → List Layer → List Layer
listed layers old = map layer_of (take (min (length layers) (length old)) layers)
    ++ drop (min (length layers) (length old)) old

-- layers go out, as many as there is room for, and how many there are
abbrev pub HasListed : List Layer → List Layer → ℕ → ℕ → Result (ArrayVec LayerInfo) Refusal → Type 0
HasListed old new count count' (Ok layers) = (count' ≡ length layers.items) × (new ≡ listed layers.items old)
HasListed old new count count' (Err r) = (new ≡ old) × (count' ≡ count)

-- the tag that is asked for, if one is
abbrev pub tag_of : Bool → ℕ → Option ℕ
tag_of tagged tag = if tagged then Some tag else None

-- ---- the whole store

-- The store was closed into its device and goes on: one lawful step; the blocks are then an image of the
-- table, and a stop leaves nothing else.
pub record Commits {D A : Type 0} {m : _} (s t : Store D A m) (r : Result (Unit {0}) Refusal) : Type 0 where
  pub step : TakesStep s t Reopen (done_answer r)
  pub reply : TakesReply s t Reopen (done_answer r)
  pub honest : StaysHonest s t
  pub closed : (table : Table) → IsInState s (Alive table) → IsOk r ⊎ IsInState t Dead
      → IsImage (blocks_in t) table
  pub durable : (table : Table) → IsInState s (Alive table) → IsOk r ⊎ IsInState t Dead
      → Only (blocks_in t) (m.may_leave (device_in t))

abbrev pub CommitsBy : {D A : Type 0} {m : _} → Session D A m → Session D A m → ℕ → Type 0
CommitsBy {D} {A} {m} old new number = IsClosed old new number
    ⊎ ((s t : Store D A m) × (r : Result (Unit {0}) Refusal) × (old.store ≡ Some s) × Commits s t r
    × (new ≡ after old t r) × (number ≡ number_of r))

-- The store was closed for good, and answered so: where it was sound and went well, the device has an image of
-- its table, and a stop leaves nothing else. It is refused by `Memory` or `Device`, which it tells by the
-- device's faults; one that had failed is refused, and one in which nothing was changed is not.
pub record Closes {D A : Type 0} {m : _} (s : Store D A m) (r : Result (Unit {0}) Refusal)
    (device : D) : Type 0 where
  pub closed : (table : Table) → IsInState s (Alive table) → IsOk r → IsImage (m.shown device) table
  pub durable : (table : Table) → IsInState s (Alive table) → IsOk r
      → Only (m.shown device) (m.may_leave device)
  pub refused : (table : Table) → IsInState s (Alive table) → IfErr r IsMemoryOrDevice
  pub failed : IsInState s Dead → r ≡ Err (refusal.StoreFailed 19)
  pub quiet : IsSettled s → IsInState s Dead ⊎ IsOk r
  pub cause : HasRefusalCause (m.faults (device_in s)) (m.faults device) r

-- the number is that of what the store answered, and what came with a refusal is kept; without a store the device
-- that was left is handed back
abbrev pub ClosesBy : {D A : Type 0} {m : _} → Session D A m → Session D A m → ℕ × Option D → Type 0
ClosesBy {D} {A} {m} old new result =
    ((old.store ≡ None) × (result ≡ (103, old.left)) × (new.left ≡ None) × (new.detail ≡ old.detail))
    ⊎ ((s : Store D A m) × (r : Result (Unit {0}) Refusal) × (device : D) × (old.store ≡ Some s)
    × (result.1 ≡ Some device) × Closes s r device × (result.0 ≡ number_of r)
    × (new.detail ≡ detail_after r old.detail))
