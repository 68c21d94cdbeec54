-- A log as it is read: its regions one behind the other, the home of each of their blocks, and what they make
-- of a base (our format).
use Rattle.std.specs.Prelude.{◌+◌, ◌*◌, ◌-◌, ◌/◌, ◌%◌, ◌^◌, ℕ, zero, suc, Bool, ◌&&◌, ◌==◌, nat_le, min}
use Rattle.std.specs.Prelude.{if◌then◌else◌, List, [], ◌∷◌, ◌++◌, length, set, drop, replicate}
use Rattle.block_device.specs.Device.{Blocks, block_at}
use Rattle.block_bytes.specs.Numbers.{zeros, number_at, put_number}

-- the ASCII text RSTARJNL
abbrev pub log_text : ℕ
log_text = 0x52535441524a4e4c

-- block 0 of a region, its flag: not committed (0), or committed (1)
unfoldable pub flag_block : ℕ → List ℕ
flag_block committed = put_number 1 8 committed (put_number 8 0 log_text zeros)

-- block 1 of a region: how many slots it has
unfoldable pub count_block : ℕ → List ℕ
count_block n = put_number 4 8 n (put_number 8 0 log_text zeros)

-- the flag says that its region is committed
unfoldable pub says : List ℕ → Bool
says block = (number_at 8 0 block == log_text) && (number_at 1 8 block == 1)

-- how many slots the first region counts
unfoldable pub count_in : Blocks → ℕ
count_in b = number_at 4 8 (block_at 1 b)

-- how many blocks hold the homes of n slots
abbrev pub index_blocks : ℕ → ℕ
index_blocks n = n / 1024 + min 1 (n % 1024)

-- how many blocks the first region has: flag, count, slots and their index
abbrev pub size_of : Blocks → ℕ
size_of b = 2 + count_in b + index_blocks (count_in b)

-- the home of slot k of n is among the 1024 of an index block
unfoldable pub home_in : ℕ → ℕ → Blocks → ℕ
home_in n k b = number_at 4 (4 * (k % 1024)) (block_at (2 + n + k / 1024) b)

-- the homes of m slots of n, from slot k on
abbrev pub slot_homes : ℕ → ℕ → ℕ → Blocks → List ℕ
slot_homes n k zero b = []
slot_homes n k (suc m) b = home_in n k b ∷ slot_homes n (suc k) m b

-- the home of a block of the log that is no slot: no block of any base
abbrev pub no_home : ℕ
no_home = 2 ^ 32 - 1

-- the homes of the blocks of a region whose n slots have these
abbrev pub region_of : List ℕ → List ℕ
region_of slots = no_home ∷ no_home ∷ (slots ++ replicate (index_blocks (length slots)) no_home)

-- the homes of the blocks of the first region
unfoldable pub region_homes : Blocks → List ℕ
region_homes b = region_of (slot_homes (count_in b) 0 (count_in b) b)

-- the first region is committed, and all its blocks are there
abbrev pub is_committed : Blocks → Bool
is_committed b = says (block_at 0 b) && nat_le (size_of b) (length b)

-- the homes of the blocks of at most n regions, up to the first that is not committed
abbrev pub homes_from : ℕ → Blocks → List ℕ
homes_from zero b = []
homes_from (suc n) b = if is_committed b then region_homes b ++ homes_from n (drop (size_of b) b) else []

-- the homes of the blocks of a log
unfoldable pub homes_in : Blocks → List ℕ
homes_in b = homes_from (length b) b

-- a block of the log, and the block of the base that it is to be
pub record Entry : Type 0 where
  pub home : ℕ
  pub bytes : List ℕ

-- the blocks of a log with these homes, from block k on
abbrev pub entries_from : ℕ → List ℕ → Blocks → List Entry
entries_from k [] b = []
entries_from k (h ∷ hs) b = record { home = h; bytes = block_at k b } ∷ entries_from (suc k) hs b

-- the base with these entries at their homes, of which those that are no block of it have none
abbrev pub replayed : List Entry → Blocks → Blocks
replayed [] a = a
replayed (e ∷ es) a = replayed es (set a e.home e.bytes)

-- the base as it is read through the first blocks of a log, which have these homes
abbrev pub overlaid : List ℕ → Blocks → Blocks → Blocks
overlaid homes b a = replayed (entries_from 0 homes b) a

-- what recovery makes of a base and a log
abbrev pub recovered : Blocks → Blocks → Blocks
recovered a b = overlaid (homes_in b) b a
