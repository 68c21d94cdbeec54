-- Layers, trees and versions that stay as they are: in memory, and over a closing.
use Rattle.std.specs.Prelude.{ℕ, ◌≡◌, List, Result, OnErr, OnOk}
use Rattle.block_device.specs.Device.{Blocks}
use Rattle.page_cache.specs.Cache.{IsHonest, KeepsMap, version_of}
use Rattle.page_file.specs.declared.header.Version.{Version}
use Rattle.tree_node.specs.Trees.{Tree}
use Rattle.live_layers.specs.Image.{IsTreeIn}
use Rattle.live_layers.specs.Keeping.{HasTree, IsWritten, cache_of, newest_of, records_in}
use Rattle.live_layers.specs.declared.layers.Layers.{Layers}

-- the version of the file stays, and that to which it may be raised
pub record KeepsVersions {D A : Type 0} {m : _} (old new : Layers D A m) : Type 0 where
  pub version : IsHonest (cache_of old) → version_of (cache_of new) ≡ version_of (cache_of old)
  pub newest : newest_of new ≡ newest_of old

-- A change left the file at this version where it was made, and where it was not at the one that it had. That
-- to which it may be raised stays.
pub record LeavesVersion {D A : Type 0} {m : _} {T E : Type 0} (old new : Layers D A m) (made : Version)
    (result : Result T E) : Type 0 where
  pub done : IsHonest (cache_of old) → OnOk result (version_of (cache_of new) ≡ made)
  pub undone : IsHonest (cache_of old) → OnErr result (version_of (cache_of new) ≡ version_of (cache_of old))
  pub newest : newest_of new ≡ newest_of old

-- the map of pages with the version of the file, the records and the newest version stay, so each tree does,
-- and what was written is so still
pub record KeepsPagesAndRecords {D A : Type 0} {m : _} (old new : Layers D A m) : Type 0 where
  pub map : KeepsMap (cache_of old) (cache_of new)
  pub records : records_in new ≡ records_in old
  pub written : IsWritten old → IsWritten new
  pub newest : newest_of new ≡ newest_of old

-- each layer keeps its tree
abbrev pub KeepsEachTree : {D A : Type 0} {m : _} → Layers D A m → Layers D A m → Type 0
KeepsEachTree old new = (name : List ℕ) (t : Tree) → HasTree old name t → HasTree new name t

-- the blocks have the tree of each layer
abbrev pub LeavesTreesIn : {D A : Type 0} {m : _} → Layers D A m → Blocks → Type 0
LeavesTreesIn kept blocks = (name : List ℕ) (t : Tree) → HasTree kept name t → IsTreeIn blocks name t

-- the layers have each tree of the blocks
abbrev pub FindsTreesIn : {D A : Type 0} {m : _} → Layers D A m → Blocks → Type 0
FindsTreesIn kept blocks = (name : List ℕ) (t : Tree) → IsTreeIn blocks name t → HasTree kept name t
