-- What a file of pages stands for, and what calls keep of it.
use Rattle.std.specs.Prelude.{◌≡◌, ◌+◌, ◌^◌, ◌<◌, ◌≤◌, ◌↔◌, ℕ, List, Option, Some, None, IsSome}
use Rattle.block_device.specs.Device.{Blocks, block_at}
use Rattle.page_file.specs.Layout.{catalog_block, opened_version}
use Rattle.page_file.specs.Opening.{failed_check}
use Rattle.page_file.specs.Pages.{free_page_link, free_pages_of, page_of, given_pages, pages_in, next_in}
use Rattle.page_file.specs.Pages.{HasFreeChain, IsSoundMap, with_version}
use Rattle.page_file.specs.Stops.{AddsOnly, StopSince}
use Rattle.page_file.specs.declared.fault.Fault.{Fault}
use Rattle.page_file.specs.declared.fault.Fault.TheVariants.{Damaged}
use Rattle.page_file.specs.declared.gate.Gate.{Gate}
use Rattle.page_file.specs.declared.gate.Gate.TheVariants.{Open}
use Rattle.page_file.specs.declared.header.Header.{Header}
use Rattle.page_file.specs.declared.header.Version.{Version}
use Rattle.page_file.specs.declared.header.Version.TheVariants.{Two, Three}
use Rattle.page_file.specs.declared.file.PageFile.{PageFile}

-- its device, the blocks on it as they are read, and whether it is honest
abbrev pub device_of : {D : Type 0} {m : _} → PageFile D m → D
device_of file = file.device

abbrev pub blocks_of : {D : Type 0} {m : _} → PageFile D m → Blocks
blocks_of {m = m} file = m.shown file.device

abbrev pub IsHonest : {D : Type 0} {m : _} → PageFile D m → Type 0
IsHonest {m = m} file = m.honest file.device

-- its gate: shut, open or unsure
abbrev pub gate_of : {D : Type 0} {m : _} → PageFile D m → Gate
gate_of file = file.gate

-- what its header says, or has to say once the file is settled
abbrev pub header_of : {D : Type 0} {m : _} → PageFile D m → Header
header_of file = file.header

-- its version: what its pages may be
abbrev pub version_of : {D : Type 0} {m : _} → PageFile D m → Version
version_of file = file.header.version

-- one more than the greatest page number given out
abbrev pub next_of : {D : Type 0} {m : _} → PageFile D m → ℕ
next_of file = file.header.next

-- how many pages are free
abbrev pub free_count_of : {D : Type 0} {m : _} → PageFile D m → ℕ
free_count_of file = file.header.count

-- At most so many more pages are live: those given out that are not free rose by no more.
abbrev pub Grows : {D : Type 0} {m : _} → ℕ → PageFile D m → PageFile D m → Type 0
Grows most old new = next_of new + free_count_of old ≤ next_of old + free_count_of new + most

-- each page number is given out, and none is free
abbrev pub IsFull : {D : Type 0} {m : _} → PageFile D m → Type 0
IsFull file = (next_of file ≡ 2 ^ 31) × (free_count_of file ≡ 0)

-- the map from live page number to the page's bytes
abbrev pub pages : {D : Type 0} {m : _} → PageFile D m → ℕ → Option (List ℕ)
pages {m = m} file n = page_of (m.shown file.device) file.header n

-- the pages given out, live or free
abbrev pub given : {D : Type 0} {m : _} → PageFile D m → ℕ → Option (List ℕ)
given file n = given_pages (blocks_of file) (next_of file) n

-- the free pages, in their order
abbrev pub free_of : {D : Type 0} {m : _} → PageFile D m → List ℕ
free_of file = free_pages_of (blocks_of file) (header_of file)

-- the page of this number is live
abbrev pub IsLive : {D : Type 0} {m : _} → PageFile D m → ℕ → Type 0
IsLive file n = IsSome (pages file n)

-- A sound page map of an honest device: the free pages are a chain within the pages given out.
pub record IsPageMap {D : Type 0} {m : _} (file : PageFile D m) : Type 0 where
  pub honest : IsHonest file
  pub free : HasFreeChain (m.shown file.device) file.header

-- The gate and its moment stay, and so does the version: the same gate, the same blocks where it is not open,
-- and no stop left anything but what such a gate allows since its moment.
pub record KeepsGate {D : Type 0} {m : _} (old new : PageFile D m) : Type 0 where
  pub gate : gate_of new ≡ gate_of old
  pub honest : IsHonest old ↔ IsHonest new
  pub version : IsHonest old → version_of new ≡ version_of old
  pub blocks : IsHonest old → ¬ (gate_of old ≡ Open) → blocks_of new ≡ blocks_of old
  pub stops : IsHonest old
      → AddsOnly m.moment m.left_since m.recovery old.device new.device
      (StopSince (gate_of old) (blocks_of old))

-- The map stays, and is as sound as it was; so do the pages given out that are not live, the count of the
-- free ones, and the version.
pub record KeepsMap {D : Type 0} {m : _} (old new : PageFile D m) : Type 0 where
  pub next : next_of new ≡ next_of old
  pub free_count : free_count_of new ≡ free_count_of old
  pub version : IsHonest old → version_of new ≡ version_of old
  pub pages_stay : IsHonest old → (k : ℕ) → pages new k ≡ pages old k
  pub given_stay : IsHonest old → (k : ℕ) → given new k ≡ given old k
  pub sound : IsPageMap old ↔ IsPageMap new

-- Blocks in which the file lies, settled: opening refuses them by no check, and finds the same version and
-- the same map, which is as sound.
pub record LiesIn {D : Type 0} {m : _} (file : PageFile D m) (blocks : Blocks) : Type 0 where
  pub passes : failed_check blocks ≡ None
  pub version : opened_version blocks ≡ version_of file
  pub next : next_in blocks ≡ next_of file
  pub pages_there : (k : ℕ) → pages_in blocks k ≡ pages file k
  pub sound : IsPageMap file ↔ IsSoundMap blocks

-- Blocks of a new file: opening refuses them by no check, and finds version 2 and one page, the catalog of no
-- layers.
pub record IsNewFile (blocks : Blocks) : Type 0 where
  pub passes : failed_check blocks ≡ None
  pub version : opened_version blocks ≡ Two
  pub next : next_in blocks ≡ 3
  pub catalog : pages_in blocks 2 ≡ Some catalog_block
  pub others : (k : ℕ) → ¬ (k ≡ 2) → pages_in blocks k ≡ None
  pub sound : IsSoundMap blocks

-- The version was raised to 3, in memory alone; all else stays.
pub record RaisesVersion {D : Type 0} {m : _} (old new : PageFile D m) : Type 0 where
  pub version : version_of new ≡ Three
  pub header : header_of new ≡ with_version Three (header_of old)
  pub device : device_of new ≡ device_of old
  pub gate : gate_of new ≡ gate_of old

-- The fault says that the first free page is damaged: there is one, and its block is not that of a free page
-- as the format has it. Nothing has changed.
pub record IsBroken {D : Type 0} {m : _} (old new : PageFile D m) (f : Fault) : Type 0 where
  pub is : f ≡ Damaged (header_of old).first
  pub some : 0 < (header_of old).count
  pub no_link : free_page_link (header_of old).count (next_of old)
      (block_at (header_of old).first (blocks_of old)) ≡ None
  pub header : header_of new ≡ header_of old
  pub blocks : blocks_of new ≡ blocks_of old
