-- What a session keeps of a call that asks for the pages of a layer, which no command does. Our rule,
-- docs/LIBRARY.md.
use Rattle.std.specs.Prelude.{ℕ, ◌≡◌, ◌⊎◌, List, Some, Result, length}
use Rattle.live_layers.specs.Changes.{Rose}
use Rattle.live_layers.specs.Outlines.{IsIdPages, IsOfName, ListsTree}
use Rattle.live_layers.specs.declared.outlines.LayerOutline.{LayerOutline}
use Rattle.live_layers.specs.declared.outlines.LayerOutline.TheVariants.{Two, Three}
use Rattle.plain_table.specs.Table.{Table}
use Rattle.plain_table.specs.declared.refusal.Refusal.{Refusal}
use Rattle.layer_store.specs.Commands.{OnlyAsks}
use Rattle.layer_store.specs.Representation.{IsInState, layers_in}
use Rattle.layer_store.specs.declared.store.Store.{Store}
use Rattle.store_law.specs.States.StoreState.{Alive}
use Rattle.c_rows.specs.Nodes.{node_of}
use Rattle.c_rows.specs.Numbers.{number_of}
use Rattle.c_rows.specs.declared.nodes.NodeRow.{NodeRow}
use Rattle.c_session.specs.Calls.{HasCount, IsClosed}
use Rattle.c_session.specs.Fetching.{Fetches}
use Rattle.c_session.specs.Keeping.{after, kept}
use Rattle.c_session.specs.declared.session.Session.{Session}

-- the store was asked for the nodes of the tree of the layer of this name: they are exactly those
pub record Outlines {D A : Type 0} {m : _} (s t : Store D A m) (name : List ℕ)
    (r : Result (LayerOutline A) Refusal) : Type 0 where
  pub asks : OnlyAsks s t r
  pub listed : (table : Table) → IsInState s (Alive table)
      → IsOfName (Rose (layers_in s) (layers_in t)) table name (ListsTree (layers_in s) (layers_in t) table name) r

-- the same for how many pages its identifier table has
pub record CountsIdPages {D A : Type 0} {m : _} (s t : Store D A m) (name : List ℕ) (r : Result ℕ Refusal)
    : Type 0 where
  pub asks : OnlyAsks s t r
  pub counted : (table : Table) → IsInState s (Alive table)
      → IsOfName (Rose (layers_in s) (layers_in t)) table name (IsIdPages (layers_in s) table name) r

-- the nodes of an answer take the place of those that were there
abbrev pub with_outline : {D A : Type 0} {m : _} → Session D A m → LayerOutline A → Session D A m
with_outline session outline = record session { outline = outline }

-- the nodes of a layer were asked for, and are kept
abbrev pub OutlinesBy : {D A : Type 0} {m : _} → Session D A m → Session D A m → List ℕ → ℕ → Type 0
OutlinesBy {D} {A} {m} old new name number = IsClosed old new number
    ⊎ ((s t : Store D A m) × (r : Result (LayerOutline A) Refusal) × (old.store ≡ Some s) × Outlines s t name r
    × (new ≡ kept with_outline (after old t r) r) × (number ≡ number_of r))

-- the number of pages was asked for, and goes out
abbrev pub CountsIdPagesBy : {D A : Type 0} {m : _} → Session D A m → Session D A m → List ℕ → ℕ → ℕ → ℕ
    → Type 0
CountsIdPagesBy {D} {A} {m} old new name count count' number = IsClosed old new number
    ⊎ ((s t : Store D A m) × (r : Result ℕ Refusal) × (old.store ≡ Some s) × CountsIdPages s t name r
    × (new ≡ after old t r) × HasCount count count' r × (number ≡ number_of r))

-- how many nodes an outline has
abbrev pub nodes_of : {A : Type 0} → LayerOutline A → ℕ
nodes_of (Two rows) = length rows.items
nodes_of (Three rows) = length rows.items

-- its nodes go out, as many as there is room for
abbrev pub FetchesNodes : {A : Type 0} → LayerOutline A → ℕ → List NodeRow → List NodeRow → ℕ → Type 0
FetchesNodes (Two rows) from old new count = Fetches node_of rows.items from old new count
FetchesNodes (Three rows) from old new count = Fetches node_of rows.items from old new count
