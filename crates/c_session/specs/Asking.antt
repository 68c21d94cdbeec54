-- What a session keeps of calls that ask what no command does. Our rule, docs/LIBRARY.md.
use Rattle.std.specs.Prelude.{ℕ, ◌≡◌, ◌⊎◌, List, Option, None, Some, Result, Vec}
use Rattle.live_layers.specs.Changes.{Rose}
use Rattle.live_layers.specs.Loading.{boxes_refusals}
use Rattle.live_layers.specs.Questions.{HasPairs, HasRows, IsToldOr}
use Rattle.plain_table.specs.Commands.Command.{Range}
use Rattle.plain_table.specs.Loads.{GivenObjects}
use Rattle.plain_table.specs.Step.{layer_refusals, refusals_of}
use Rattle.plain_table.specs.Table.{Table, layer_at}
use Rattle.plain_table.specs.declared.boxes.AnyBox.{AnyBox}
use Rattle.plain_table.specs.declared.queries.RawQuery.{RawQuery}
use Rattle.plain_table.specs.declared.refusal.Refusal.{Refusal}
use Rattle.layer_store.specs.Commands.{OnlyAsks}
use Rattle.layer_store.specs.Representation.{IsInState, layers_in}
use Rattle.layer_store.specs.declared.store.Store.{Store}
use Rattle.store_law.specs.States.StoreState.{Alive}
use Rattle.c_rows.specs.Numbers.{number_of}
use Rattle.c_session.specs.Calls.{IsClosed, StaysBy}
use Rattle.c_session.specs.Keeping.{after, kept, with_boxes, with_pairs}
use Rattle.c_session.specs.declared.session.Session.{Session}

-- the store was asked so, the session keeps what it answered, and the number tells it
abbrev pub AsksFor : {D A : Type 0} {m : _} {T : Type 0} → Session D A m → Session D A m
    → (Store D A m → Store D A m → Result T Refusal → Type 0) → (Session D A m → T → Session D A m) → ℕ → Type 0
AsksFor {D} {A} {m} {T} old new IsAsked keep number = IsClosed old new number
    ⊎ ((s t : Store D A m) × (r : Result T Refusal) × (old.store ≡ Some s) × IsAsked s t r
    × (new ≡ kept keep (after old t r) r) × (number ≡ number_of r))

-- the store was asked for the objects that a query seeks in the layer of this name, in any order
pub record RangesUnordered {D A : Type 0} {m : _} (name : List ℕ) (query : RawQuery) (tag : Option ℕ)
    (s t : Store D A m) (r : Result (Vec (ℕ × AnyBox × ℕ) A) Refusal) : Type 0 where
  pub asks : OnlyAsks s t r
  pub told : (table : Table) → IsInState s (Alive table)
      → IsToldOr (Rose (layers_in s) (layers_in t)) (refusals_of table (Range name query tag))
      (HasRows (layer_at table name) query tag) r

-- the same of a query that numbers give: refused where they give none
abbrev pub AsksUnordered : {D A : Type 0} {m : _} → Session D A m → Session D A m → List ℕ → Option RawQuery
    → Option ℕ → ℕ → Type 0
AsksUnordered {A = A} old new name given tag number = ((given ≡ None) × StaysBy old new 104 number)
    ⊎ ((query : RawQuery) × (given ≡ Some query)
    × AsksFor {T = Vec (ℕ × AnyBox × ℕ) A} old new (RangesUnordered name query tag) with_boxes number)

-- the store was asked for the pairs of the given objects and those of the layer of this name
pub record JoinsRows {D A : Type 0} {m : _} (given : GivenObjects) (name : List ℕ) (within : ℕ)
    (s t : Store D A m) (r : Result (Vec (ℕ × ℕ) A) Refusal) : Type 0 where
  pub asks : OnlyAsks s t r
  pub told : (table : Table) → IsInState s (Alive table)
      → IsToldOr (Rose (layers_in s) (layers_in t))
      (layer_refusals table name (boxes_refusals (layer_at table name).dims given))
      (HasPairs given (layer_at table name) within) r

abbrev pub AsksRows : {D A : Type 0} {m : _} → Session D A m → Session D A m → GivenObjects → List ℕ → ℕ → ℕ
    → Type 0
AsksRows {A = A} old new given name within number =
    AsksFor {T = Vec (ℕ × ℕ) A} old new (JoinsRows given name within) with_pairs number
