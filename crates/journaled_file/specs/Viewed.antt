-- A pair as it is viewed, before anything is written into it.
use Rattle.std.specs.Prelude.{◌≡◌, ◌≤◌, ◌⊎◌, [], ◌∷◌, length}
use Rattle.block_device.specs.Device.{Blocks, Recovery}
use Rattle.committed_log.specs.Log.{overlaid}
use Rattle.committed_log.specs.Room.{blocks_of}
use Rattle.journaled_file.specs.Gate.{with_gate}
use Rattle.journaled_file.specs.declared.viewed.View.{View}
use Rattle.journaled_file.specs.declared.viewed.ViewedPair.{ViewedPair}
use Rattle.titled_pair.specs.Title.{untitled}

-- a base in a view: with its gate, and through its slots of the journal behind the title
abbrev pub seen : View → Blocks → Blocks → Blocks
seen v base journal = overlaid (blocks_of v.slots) (untitled journal) (with_gate v.gate base)

-- the journal has all slots of a view
abbrev pub HasSlots : View → Blocks → Type 0
HasSlots v journal = length (blocks_of v.slots) ≤ length (untitled journal)

-- its pair, its view, what is read of it, and whether it keeps its contract
abbrev pub pair_of : {P : Type 0} {m : _} → ViewedPair P m → P
pair_of d = d.pair

abbrev pub view_of : {P : Type 0} {m : _} → ViewedPair P m → View
view_of d = d.view

abbrev pub shown_of : {P : Type 0} {m : _} → ViewedPair P m → Blocks
shown_of {m = m} d = seen d.view (m.base d.pair) (m.journal d.pair)

abbrev pub IsHonest : {P : Type 0} {m : _} → ViewedPair P m → Type 0
IsHonest {m = m} d = m.honest d.pair × HasSlots d.view (m.journal d.pair)

-- both files, each behind a block that tells which it is
abbrev pub IsOneOf : Blocks → Blocks → Blocks → Type 0
IsOneOf base journal k = (k ≡ [] ∷ base) ⊎ (k ≡ (1 ∷ []) ∷ journal)

-- What it commits are both files as they are: as no run of calls of a device commits anything but what it takes, and
-- this one takes nothing, both stay by any such run, whoever did it.
abbrev pub recovery_of : {P : Type 0} {m : _} → Recovery (ViewedPair P m)
recovery_of {m = m} =
    record {
      commits = λ d k. IsOneOf (m.base d.pair) (m.journal d.pair) k;
      found_since = λ d t c. ⊥;
      takes = λ k. ⊥;
    }

-- nothing was committed but what is taken
abbrev pub CommitsNoMore : {D : Type 0} → Recovery D → D → D → Type 0
CommitsNoMore recovery old new = (k : Blocks) → recovery.commits new k → recovery.commits old k ⊎ recovery.takes k
