-- A reader of a base and its log as its contracts see it.
use Rattle.std.specs.Prelude.{ℕ, List}
use Rattle.block_device.specs.Device.{Blocks}
use Rattle.committed_log.specs.Log.{overlaid}
use Rattle.snapshot_reader.specs.declared.reader.SnapshotReader.{SnapshotReader}

-- its two readers
abbrev pub base_of : {B J A : Type 0} {m : _} {n : _} → SnapshotReader B J A m n → B
base_of r = r.base

abbrev pub journal_of : {B J A : Type 0} {m : _} {n : _} → SnapshotReader B J A m n → J
journal_of r = r.journal

-- the homes of the blocks of the regions that it has read
abbrev pub homes_of : {B J A : Type 0} {m : _} {n : _} → SnapshotReader B J A m n → List ℕ
homes_of r = r.slots.homes.items

-- the base as it is read through them
abbrev pub shown_of : {B J A : Type 0} {m : _} {n : _} → SnapshotReader B J A m n → Blocks
shown_of {m = m} {n = n} r = overlaid (homes_of r) (n.shown r.journal) (m.shown r.base)

-- nobody writes what either reads
abbrev pub IsHonest : {B J A : Type 0} {m : _} {n : _} → SnapshotReader B J A m n → Type 0
IsHonest {m = m} {n = n} r = m.honest r.base × n.honest r.journal
