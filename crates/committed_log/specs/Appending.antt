-- What only appends to the journal, as opening does: who has read the blocks that were there sees the same.
use Rattle.std.specs.Prelude.{◌≡◌, ◌⊎◌, length, take}
use Rattle.block_device.specs.Device.{Blocks}
use Rattle.device_pair.specs.Pairs.{PairLeaves}
use Rattle.committed_log.specs.Committed.{base_of, journal_of, pair_of}
use Rattle.committed_log.specs.declared.log.CommittedLog.{CommittedLog}

-- the base as it was, and the journal with more blocks behind those that it had, or none
pub record IsAppended (base journal a b : Blocks) : Type 0 where
  pub base_is : a ≡ base
  pub begins : take (length journal) b ≡ journal

-- this is read, and a stop now leaves nothing else
pub record Appended (base journal base' journal' : Blocks) (may_leave : Blocks → Blocks → Type 0) : Type 0 where
  pub now : IsAppended base journal base' journal'
  pub left : (a b : Blocks) → may_leave a b → IsAppended base journal a b

-- what a stop left before, or this
abbrev pub OrAppended : (Blocks → Blocks → Type 0) → Blocks → Blocks → Blocks → Blocks → Type 0
OrAppended may_leave base journal a b = may_leave a b ⊎ IsAppended base journal a b

-- The calls between only append to the journal, at each moment, where those before them did.
pub record AppendsOnly {P A : Type 0} {m : _} (old new : CommittedLog P A m) : Type 0 where
  pub after : (base journal : Blocks)
      → Appended base journal (base_of old) (journal_of old) (m.may_leave (pair_of old))
      → Appended base journal (base_of new) (journal_of new) (m.may_leave (pair_of new))
  pub stops : (base journal : Blocks)
      → Appended base journal (base_of old) (journal_of old) (m.may_leave (pair_of old))
      → PairLeaves m.moment m.left_since (pair_of old) (pair_of new) (IsAppended base journal)
