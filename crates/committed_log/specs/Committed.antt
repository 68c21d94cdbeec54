-- A committed log as its contracts see it: the base as it is read through the regions, and what stands behind
-- them in the journal.
use Rattle.std.specs.Prelude.{◌≡◌, ℕ, Bool, List, length, drop, take}
use Rattle.block_device.specs.Device.{Blocks}
use Rattle.device_pair.specs.Pairs.{PairElapses, PairsNoMore}
use Rattle.committed_log.specs.Log.{overlaid}
use Rattle.committed_log.specs.declared.log.CommittedLog.{CommittedLog}
use Rattle.committed_log.specs.declared.slots.Slots.{Slots}

-- its pair, and the blocks of base and journal as the pair has them
abbrev pub pair_of : {P A : Type 0} {m : _} → CommittedLog P A m → P
pair_of c = c.pair

abbrev pub base_of : {P A : Type 0} {m : _} → CommittedLog P A m → Blocks
base_of {m = m} c = m.base c.pair

abbrev pub journal_of : {P A : Type 0} {m : _} → CommittedLog P A m → Blocks
journal_of {m = m} c = m.journal c.pair

abbrev pub IsHonest : {P A : Type 0} {m : _} → CommittedLog P A m → Type 0
IsHonest {m = m} c = m.honest c.pair

-- the homes of the blocks of its regions, and whether the first flag is being cleared
abbrev pub homes_of : {P A : Type 0} {m : _} → CommittedLog P A m → List ℕ
homes_of c = c.slots.homes.items

abbrev pub slots_of : {P A : Type 0} {m : _} → CommittedLog P A m → Slots A
slots_of c = c.slots

abbrev pub clearing_of : {P A : Type 0} {m : _} → CommittedLog P A m → Bool
clearing_of c = c.clearing

-- the base as it is read through the regions, and the blocks of the journal behind them
abbrev pub seen_of : {P A : Type 0} {m : _} → CommittedLog P A m → Blocks
seen_of c = overlaid (homes_of c) (journal_of c) (base_of c)

abbrev pub behind_of : {P A : Type 0} {m : _} → CommittedLog P A m → Blocks
behind_of c = drop (length (homes_of c)) (journal_of c)

-- what a stop now may leave, as it is read through the regions
abbrev pub leaves_of : {P A : Type 0} {m : _} → CommittedLog P A m → Blocks → Blocks → Type 0
leaves_of {m = m} c v j = (a : Blocks) × (b : Blocks) × m.may_leave c.pair a b
    × (v ≡ overlaid (homes_of c) b a) × (j ≡ drop (length (homes_of c)) b)

-- the same regions, with the same room for more
pub record SameLog {P A : Type 0} {m : _} (old new : CommittedLog P A m) : Type 0 where
  pub homes : homes_of new ≡ homes_of old
  pub slots : slots_of new ≡ slots_of old
  pub clearing : clearing_of new ≡ clearing_of old

-- Nothing was written.
pub record IsStill {P A : Type 0} {m : _} (old new : CommittedLog P A m) : Type 0 where
  pub log : SameLog old new
  pub base : base_of new ≡ base_of old
  pub journal : journal_of new ≡ journal_of old
  pub now : PairsNoMore (m.may_leave old.pair) (m.may_leave new.pair)
  pub time : PairElapses (m.moment old.pair) (m.moment new.pair) (m.left_since old.pair)
      (m.left_since new.pair) (m.may_leave new.pair)

-- a stop leaves what is read, and nothing else
abbrev pub IsDurable : {P A : Type 0} {m : _} → CommittedLog P A m → Type 0
IsDurable c = (v j : Blocks) → leaves_of c v j → (v ≡ seen_of c) × (j ≡ behind_of c)

-- a step of the journal behind its first s blocks, which stay
abbrev pub KeepsFirst : ℕ → Blocks → Blocks → Type 0
KeepsFirst s old new = take s new ≡ take s old
