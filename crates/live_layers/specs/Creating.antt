-- Layers that are made.
use Rattle.std.specs.Prelude.{ℕ, ◌≡◌, true, List}
use Rattle.std.specs.FinMap as map
use Rattle.id_table.specs.declared.kind.TableKind.{TableKind}
use Rattle.id_table.specs.declared.kind.TableKind.TheVariants as kinds
use Rattle.page_cache.specs.Cache.{IsPageMap, device_of, gate_of, next_of, pages, version_of}
use Rattle.page_cache.specs.declared.cache.PageCache.{PageCache}
use Rattle.page_file.specs.declared.header.Version.{Version}
use Rattle.page_file.specs.declared.header.Version.TheVariants.{Two, Three}
use Rattle.plain_table.specs.Commands.{Command}
use Rattle.plain_table.specs.Commands.Command.{Create}
use Rattle.plain_table.specs.Table.{Layer, is_dims, is_fanout, is_layer_name}
use Rattle.tree_node.specs.Trees.{Tree}
use Rattle.live_layers.specs.Keeping.{HasTree}
use Rattle.live_layers.specs.Staying.{KeepsEachTree}
use Rattle.live_layers.specs.declared.layers.Layers.{Layers}

-- a layer may have this name, dimension and fanout
pub record MayBeLayer (name : List ℕ) (dims fanout : ℕ) : Type 0 where
  pub named : is_layer_name name ≡ true
  pub axes : is_dims dims ≡ true
  pub sized : is_fanout fanout ≡ true

-- a layer without objects
abbrev pub new_layer : ℕ → ℕ → Layer
new_layer dims fanout = record { dims = dims; fanout = fanout; objects = map.empty }

-- the kind of identifier table that a layer gets in a file of this version
abbrev pub kind_in : Version → TableKind
kind_in Two = kinds.Chains
kind_in Three = kinds.Tree

-- the version of a file in which a layer was made, where it may be raised to the newest
abbrev pub version_after : Version → Version → Version
version_after Two was = was
version_after Three was = Three

-- the version after a command that was done, where the file may be raised to the newest: no other raises it
abbrev pub version_by : Command → Version → Version → Version
version_by (Create name dims fanout) newest was = version_after newest was
version_by c newest was = was

-- The version of the file allows tables of this kind: it was raised where that asks for it. All else stays.
pub record Admits {D A : Type 0} {m : _} (old new : PageCache D A m) (kind : TableKind) : Type 0 where
  pub chains : kind ≡ kinds.Chains → version_of new ≡ version_of old
  pub tree : kind ≡ kinds.Tree → version_of new ≡ Three
  pub device : device_of new ≡ device_of old
  pub gate : gate_of new ≡ gate_of old
  pub next : next_of new ≡ next_of old
  pub pages_stay : (k : ℕ) → pages new k ≡ pages old k
  pub sound : IsPageMap old → IsPageMap new

-- a layer of this name came in with a tree of which this holds, and the trees of the layers that were there
-- stay
pub record BringsTree {D A : Type 0} {m : _} (old new : Layers D A m) (name : List ℕ)
    (IsSo : Tree → Type 0) : Type 0 where
  pub now : Tree
  pub after : HasTree new name now
  pub is_so : IsSo now
  pub others : KeepsEachTree old new
