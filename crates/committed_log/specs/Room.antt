-- Room in the index of slots.
use Rattle.std.specs.Prelude.{◌≤◌, ◌<◌, ◌+◌, ◌^◌, ℕ, List, vec_len, vec_capacity}
use Rattle.committed_log.specs.declared.slots.Slots.{Slots}

-- the blocks that the slots hold
abbrev pub blocks_of : {A : Type 0} → Slots A → List ℕ
blocks_of s = s.homes.items

-- there is memory for n slots more
pub record HasRoomFor {A : Type 0} (n : ℕ) (s : Slots A) : Type 0 where
  pub few : vec_len s.homes + n < 2 ^ 32
  pub homes : vec_len s.homes + n ≤ vec_capacity s.homes
  pub before : vec_len s.before + n ≤ vec_capacity s.before
  pub bucket : 0 < vec_len s.heads
