-- What a store represents, and the device and blocks that it has.
use Rattle.std.specs.Prelude.{ℕ, ◌≡◌, true, false, [], ◌∷◌}
use Rattle.block_device.specs.Device.{Blocks, LeavesOnly}
use Rattle.live_layers.specs.Keeping as keeping
use Rattle.live_layers.specs.Keeping.{IsSound, Leaves, cache_of}
use Rattle.live_layers.specs.Staying.{KeepsPagesAndRecords}
use Rattle.live_layers.specs.declared.layers.Layers.{Layers}
use Rattle.page_cache.specs.Cache.{IsHonest, KeepsGate, blocks_of, device_of, looks_of, version_of}
use Rattle.page_cache.specs.declared.cache.PageCache.{PageCache}
use Rattle.page_file.specs.declared.header.Version.{Version}
use Rattle.plain_table.specs.Table.{Table}
use Rattle.layer_store.specs.Checked.{Standing}
use Rattle.store_law.specs.Sessions.{Reaches, SessionState}
use Rattle.store_law.specs.States.{StoreState}
use Rattle.store_law.specs.States.StoreState.{Alive, Dead}
use Rattle.store_law.specs.Stops.{Stops, tables_left}
use Rattle.store_law.specs.Stops.AfterStop.{Surely, Perhaps}
use Rattle.layer_store.specs.declared.store.Store.{Store}

-- its layers, and the cache of their pages
abbrev pub layers_in : {D A : Type 0} {m : _} → Store D A m → Layers D A m
layers_in store = store.layers

abbrev pub cache_in : {D A : Type 0} {m : _} → Store D A m → PageCache D A m
cache_in store = cache_of store.layers

-- its device, and the blocks on it
abbrev pub device_in : {D A : Type 0} {m : _} → Store D A m → D
device_in store = device_of (cache_in store)

abbrev pub blocks_in : {D A : Type 0} {m : _} → Store D A m → Blocks
blocks_in store = blocks_of (cache_in store)

-- the version of its file, and that to which it may be raised
abbrev pub file_version : {D A : Type 0} {m : _} → Store D A m → Version
file_version store = version_of (cache_in store)

abbrev pub newest_in : {D A : Type 0} {m : _} → Store D A m → Version
newest_in store = keeping.newest_of store.layers

-- how many nodes its questions have looked at, and other pages
abbrev pub looks_in : {D A : Type 0} {m : _} → Store D A m → ℕ
looks_in store = looks_of (cache_in store)

-- It is settled: its gate is shut over its table, so nothing is to be written.
unfoldable pub IsSettled : {D A : Type 0} {m : _} → Store D A m → Type 0
IsSettled store = keeping.IsSettled store.layers

-- Page 2, of the catalog, spells the records of its layers; and so it is where nothing was changed since the
-- last closing, or the last that was tried.
abbrev pub SpellsRecords : {D A : Type 0} {m : _} → Store D A m → Type 0
SpellsRecords store = keeping.SpellsRecords (layers_in store)

abbrev pub SpellsUnchanged : {D A : Type 0} {m : _} → Store D A m → Type 0
SpellsUnchanged store = keeping.SpellsUnchanged (layers_in store)

-- The store is in this state: dead once it failed, else alive with the table that its layers hold.
unfoldable pub IsInState : {D A : Type 0} {m : _} → Store D A m → StoreState → Type 0
IsInState store (Alive t) = (store.failed ≡ false) × IsSound store.layers t
IsInState store Dead = store.failed ≡ true

-- the state of a session is the store's: its state, and the faults of its device
pub record IsOfStore {D A : Type 0} {m : _} (store : Store D A m) (s : SessionState) : Type 0 where
  pub state : IsInState store s.state
  pub faults : s.faults ≡ m.faults (device_in store)

-- The session's state is the store's, its device is honest, and stops leave what the session's state says.
unfoldable pub Represents : {D A : Type 0} {m : _} → Store D A m → SessionState → Type 0
Represents store s = IsOfStore store s × IsHonest (cache_in store) × Leaves (cache_in store) s.stops

-- The store is in this state, on an honest device that has failed so often, whatever stops leave of it.
pub record StandsAs {D A : Type 0} {m : _} (store : Store D A m) (s : Standing) : Type 0 where
  pub state : IsInState store s.state
  pub honest : IsHonest (cache_in store)
  pub faults : s.faults ≡ m.faults (device_in store)

-- the store is sound and alive, and represents the table
abbrev pub RepresentsTable : {D A : Type 0} {m : _} → Store D A m → Table → Type 0
RepresentsTable store t = Reaches Represents store (λ s. s.state ≡ Alive t)

-- a table was closed, and since that moment no other
abbrev pub closed_since : ℕ → Table → Stops
closed_since moment t =
    record { now = Surely t; since = moment; so_far = t ∷ []; kept = t ∷ []; kept_so_far = t ∷ [] }

-- The store is sound and alive, and represents the table: a stop now leaves an image of it and nothing else,
-- and one since that moment left that, or blocks that opening refuses.
abbrev pub BeginsWith : {D A : Type 0} {m : _} → Store D A m → ℕ → Table → Type 0
BeginsWith store moment t =
    Reaches Represents store (λ s. (s.state ≡ Alive t) × (s.stops ≡ closed_since moment t))

-- alive with some table; and one that begins so
abbrev pub IsAliveWithSome : {D A : Type 0} {m : _} → Store D A m → Type 0
IsAliveWithSome store = (t : Table) × IsInState store (Alive t)

abbrev pub BeginsWithSome : {D A : Type 0} {m : _} → Store D A m → ℕ → Type 0
BeginsWithSome store moment = (t : Table) × BeginsWith store moment t

-- what stops leave, seen from this moment on
abbrev pub stops_from_now : Stops → ℕ → Stops
stops_from_now stops moment =
    record {
      now = stops.now;
      since = moment;
      so_far = tables_left stops.now;
      kept = stops.kept;
      kept_so_far = stops.kept;
    }

-- the same state of a session, seen from this moment on
abbrev pub from_now : SessionState → ℕ → SessionState
from_now s moment = record { state = s.state; stops = stops_from_now s.stops moment; faults = s.faults }

-- the same, where a stop leaves an image of this table, or blocks that opening refuses
abbrev pub resting_on : SessionState → ℕ → Table → SessionState
resting_on s moment t = record {
  state = s.state;
  stops = record {
    now = Perhaps (t ∷ []);
    since = moment;
    so_far = t ∷ [];
    kept = t ∷ s.stops.kept;
    kept_so_far = t ∷ s.stops.kept;
  };
  faults = s.faults;
}

-- the store is sound, and has failed
abbrev pub HasFailed : {D A : Type 0} {m : _} → Store D A m → Type 0
HasFailed store = Reaches Represents store (λ s. s.state ≡ Dead)

-- ---- a command

-- stops at each moment of a command left blocks that have P
abbrev pub StopsLeave : {D A : Type 0} {m : _} → Store D A m → Store D A m → (Blocks → Type 0) → Type 0
StopsLeave {m = m} old new P = LeavesOnly m.moment m.left_since m.recovery (device_in old) (device_in new) P

-- a question keeps the gate with its moment, pages and records, so each tree, and the versions; what was
-- settled is so still, and where page 2 spelled the records, it does so still
pub record KeepsStore {D A : Type 0} {m : _} (old new : Store D A m) : Type 0 where
  pub gate : KeepsGate (cache_in old) (cache_in new)
  pub trees : KeepsPagesAndRecords (layers_in old) (layers_in new)
  pub settled : IsSettled old → IsSettled new
  pub spelled : IsHonest (cache_in old) → SpellsUnchanged old → SpellsUnchanged new
