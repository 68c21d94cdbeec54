-- What a stop may leave, by the gate (our rule, docs/FORMAT.md, "The gate").
use Rattle.std.specs.Prelude.{◌≡◌, ◌⊎◌, ◌≤◌, ℕ, List, drop}
use Rattle.std.specs.Coded.{Coded-set, coded_list, coded_ℕ}
use Rattle.block_device.specs.Device.{Blocks, Torn, block_at, Brings, Recovery}
use Rattle.page_file.specs.Layout.{gate_block}
use Rattle.page_file.specs.Opening.{IsRefused}
use Rattle.page_file.specs.declared.gate.Gate.{Gate}
use Rattle.page_file.specs.declared.gate.Gate.TheVariants.{Shut, Open, Unsure}

-- the same blocks, the gate aside
abbrev pub SameButGate : Blocks → Blocks → Type 0
SameButGate c shown = drop 1 c ≡ drop 1 shown

-- What a stop at any moment since the gate's leaves, where the blocks are read so: with the gate shut
-- the blocks as read; with it open, blocks that opening refuses; with it unsure either, the gate aside.
abbrev pub StopSince : Gate → Blocks → Blocks → Type 0
StopSince Shut shown c = c ≡ shown
StopSince Open shown c = IsRefused c
StopSince Unsure shown c = IsRefused c ⊎ SameButGate c shown

-- what a stop now leaves
abbrev pub StopNow : Gate → Blocks → Blocks → Type 0
StopNow Shut shown c = c ≡ shown
StopNow Open shown c = block_at 0 c ≡ gate_block 0
StopNow Unsure shown c = SameButGate c shown

-- whatever a stop since some earlier moment leaves, it left before, or it has P
pub record AddsOnly {D : Type 0} (moment : D → ℕ) (left_since : D → ℕ → Blocks → Type 0)
    (recovery : Recovery D) (old new : D) (P : Blocks → Type 0) : Type 0 where
  pub later : moment old ≤ moment new
  pub before : (t : ℕ) (c : Blocks) → t ≤ moment old → left_since new t c → left_since old t c ⊎ P c
  pub brings : Brings moment recovery old new P

-- one of those outcomes, with another gate
abbrev pub GateAside : (Blocks → Type 0) → Blocks → Type 0
GateAside outcomes c = (d : Blocks) × outcomes d × SameButGate c d

-- one of those outcomes, with block i torn
abbrev pub TornFrom : ℕ → (Blocks → Type 0) → Blocks → Type 0
TornFrom i outcomes c = (d : Blocks) × outcomes d × Torn i d c

-- the gate is open
abbrev pub IsOpen : Blocks → Type 0
IsOpen c = block_at 0 c ≡ gate_block 0

-- every outcome has P
abbrev pub AllLeave : (Blocks → Type 0) → (Blocks → Type 0) → Type 0
AllLeave outcomes P = (c : Blocks) → outcomes c → P c

set_blocks : (x y : Blocks) (p q : x ≡ y) → p ≡ q
set_blocks = Coded-set (coded_list (coded_list coded_ℕ))

set_bytes : (x y : List ℕ) (p q : x ≡ y) → p ≡ q
set_bytes = Coded-set (coded_list coded_ℕ)

pub StopNow-prop : (gate : Gate) (shown c : Blocks) (p q : StopNow gate shown c) → p ≡ q
StopNow-prop Shut shown c = set_blocks c shown
StopNow-prop Open shown c = set_bytes (block_at 0 c) (gate_block 0)
StopNow-prop Unsure shown c = set_blocks (drop 1 c) (drop 1 shown)

pub StopsNow-prop : (may_leave : Blocks → Type 0) (gate : Gate) (shown : Blocks)
    (p q : (c : Blocks) → may_leave c → StopNow gate shown c) → p ≡ q
StopsNow-prop may_leave gate shown p q = λ i c left. StopNow-prop gate shown c (p c left) (q c left) i
