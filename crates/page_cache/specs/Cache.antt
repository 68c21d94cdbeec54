-- What a cache of pages stands for, and what calls keep of it: the words that callers use.
use Rattle.std.specs.Prelude.{◌≡◌, ◌<◌, ◌↔◌, ℕ, List, Bool, Option, None, IsSome, length}
use Rattle.std.specs.Map.{keys_of}
use Rattle.block_device.specs.Device.{Blocks, block_at}
use Rattle.page_file.specs.File as below
use Rattle.page_file.specs.Layout.{opened_version}
use Rattle.page_file.specs.Opening.{failed_check}
use Rattle.page_file.specs.Pages as breaks_at
use Rattle.page_file.specs.Pages.{HasFreeChain, IsSoundMap, free_page_link, free_pages_of, given_pages}
use Rattle.page_file.specs.Pages.{next_in, page_of, pages_in}
use Rattle.page_file.specs.declared.fault.Fault.{Fault}
use Rattle.page_file.specs.declared.fault.Fault.TheVariants.{Damaged}
use Rattle.page_file.specs.declared.gate.Gate.{Gate}
use Rattle.page_file.specs.declared.header.Version.{Version}
use Rattle.page_cache.specs.Frames.{changed_pages, frame_at, laid_over}
use Rattle.page_cache.specs.declared.cache.PageCache.{PageCache}

-- its device, the blocks on it as they are read, and whether it is honest
abbrev pub device_of : {D A : Type 0} {m : _} → PageCache D A m → D
device_of cache = below.device_of cache.file

abbrev pub blocks_of : {D A : Type 0} {m : _} → PageCache D A m → Blocks
blocks_of cache = below.blocks_of cache.file

abbrev pub IsHonest : {D A : Type 0} {m : _} → PageCache D A m → Type 0
IsHonest cache = below.IsHonest cache.file

-- its gate: shut, open or unsure
abbrev pub gate_of : {D A : Type 0} {m : _} → PageCache D A m → Gate
gate_of cache = below.gate_of cache.file

-- its version: what its pages may be
abbrev pub version_of : {D A : Type 0} {m : _} → PageCache D A m → Version
version_of cache = below.version_of cache.file

-- one more than the greatest page number given out
abbrev pub next_of : {D A : Type 0} {m : _} → PageCache D A m → ℕ
next_of cache = below.next_of cache.file

-- how many pages are free
abbrev pub free_count_of : {D A : Type 0} {m : _} → PageCache D A m → ℕ
free_count_of cache = below.free_count_of cache.file

-- At most so many more pages are live: those given out that are not free rose by no more.
abbrev pub Grows : {D A : Type 0} {m : _} → ℕ → PageCache D A m → PageCache D A m → Type 0
Grows most old new = below.Grows most old.file new.file

-- each page number is given out, and none is free
abbrev pub IsFull : {D A : Type 0} {m : _} → PageCache D A m → Type 0
IsFull cache = below.IsFull cache.file

-- the blocks as they are read once each changed page is written
abbrev pub blocks_behind : {D A : Type 0} {m : _} → PageCache D A m → Blocks
blocks_behind cache = laid_over (changed_pages cache.frames.entries) (blocks_of cache)

-- the map from live page number to the page's bytes
abbrev pub pages : {D A : Type 0} {m : _} → PageCache D A m → ℕ → Option (List ℕ)
pages cache n = page_of (blocks_behind cache) (below.header_of cache.file) n

-- the pages given out, live or free
abbrev pub given : {D A : Type 0} {m : _} → PageCache D A m → ℕ → Option (List ℕ)
given cache n = given_pages (blocks_behind cache) (next_of cache) n

-- the free pages, in their order
abbrev pub free_of : {D A : Type 0} {m : _} → PageCache D A m → List ℕ
free_of cache = free_pages_of (blocks_behind cache) (below.header_of cache.file)

-- the page of this number is live
abbrev pub IsLive : {D A : Type 0} {m : _} → PageCache D A m → ℕ → Type 0
IsLive cache n = IsSome (pages cache n)

-- the page of this number is held in memory
abbrev pub IsHeld : {D A : Type 0} {m : _} → PageCache D A m → ℕ → Type 0
IsHeld cache n = IsSome (frame_at cache.frames.entries n)

-- the numbers of the pages that are held, the one used last first
abbrev pub held_pages : {D A : Type 0} {m : _} → PageCache D A m → List ℕ
held_pages cache = keys_of cache.frames.entries

-- how many pages are held, and how many may be
abbrev pub held_of : {D A : Type 0} {m : _} → PageCache D A m → ℕ
held_of cache = length cache.frames.entries

abbrev pub capacity_of : {D A : Type 0} {m : _} → PageCache D A m → ℕ
capacity_of cache = cache.frames.cap

-- how many pages were lent
abbrev pub looks_of : {D A : Type 0} {m : _} → PageCache D A m → ℕ
looks_of cache = cache.looks

-- whether a page was put, given out or freed since the last change was begun
abbrev pub touched_of : {D A : Type 0} {m : _} → PageCache D A m → Bool
touched_of cache = cache.touched

-- Each page given out reads on the device as it is lent: none is changed in memory alone.
abbrev pub IsWritten : {D A : Type 0} {m : _} → PageCache D A m → Type 0
IsWritten cache = (n : ℕ) → given_pages (blocks_of cache) (next_of cache) n ≡ given cache n

-- A sound page map of an honest device: the free pages are a chain within the pages given out.
pub record IsPageMap {D A : Type 0} {m : _} (cache : PageCache D A m) : Type 0 where
  pub honest : IsHonest cache
  pub free : HasFreeChain (blocks_behind cache) (below.header_of cache.file)

-- the gate and its moment stay, and so does the version
abbrev pub KeepsGate : {D A : Type 0} {m : _} → PageCache D A m → PageCache D A m → Type 0
KeepsGate old new = below.KeepsGate old.file new.file

-- The map stays, and is as sound as it was; so do the pages given out that are not live, the count of the
-- free ones, and the version.
pub record KeepsMap {D A : Type 0} {m : _} (old new : PageCache D A m) : Type 0 where
  pub next : next_of new ≡ next_of old
  pub free_count : free_count_of new ≡ free_count_of old
  pub version : IsHonest old → version_of new ≡ version_of old
  pub pages_stay : IsHonest old → (k : ℕ) → pages new k ≡ pages old k
  pub given_stay : IsHonest old → (k : ℕ) → given new k ≡ given old k
  pub sound : IsPageMap old ↔ IsPageMap new

-- Blocks in which the map lies, settled: opening refuses them by no check, and finds the same version and the
-- same map, which is as sound.
pub record LiesIn {D A : Type 0} {m : _} (cache : PageCache D A m) (blocks : Blocks) : Type 0 where
  pub passes : failed_check blocks ≡ None
  pub version : opened_version blocks ≡ version_of cache
  pub next : next_in blocks ≡ next_of cache
  pub pages_there : (k : ℕ) → pages_in blocks k ≡ pages cache k
  pub sound : IsPageMap cache ↔ IsSoundMap blocks

-- Nothing that callers see has changed: the device, the gate, the version, the map, the count of looks and
-- the capacity are the same.
pub record IsUnchanged {D A : Type 0} {m : _} (old new : PageCache D A m) : Type 0 where
  pub device : device_of new ≡ device_of old
  pub gate : gate_of new ≡ gate_of old
  pub version : version_of new ≡ version_of old
  pub next : next_of new ≡ next_of old
  pub free_count : free_count_of new ≡ free_count_of old
  pub pages_stay : (k : ℕ) → pages new k ≡ pages old k
  pub given_stay : (k : ℕ) → given new k ≡ given old k
  pub sound : IsPageMap old ↔ IsPageMap new
  pub looks : looks_of new ≡ looks_of old
  pub capacity : capacity_of new ≡ capacity_of old

-- the chain of free pages breaks at page n, behind what is held
abbrev pub BreaksAt : {D A : Type 0} {m : _} → PageCache D A m → ℕ → Type 0
BreaksAt cache n = breaks_at.BreaksAt (blocks_behind cache) (below.header_of cache.file) n

-- The fault says that the first free page is damaged: there is one, and its bytes are not those of a free
-- page as the format has it. The map stays.
pub record IsBroken {D A : Type 0} {m : _} (old new : PageCache D A m) (f : Fault) : Type 0 where
  pub is : f ≡ Damaged (below.header_of old.file).first
  pub some : 0 < (below.header_of old.file).count
  pub no_link : free_page_link (below.header_of old.file).count (next_of old)
      (block_at (below.header_of old.file).first (blocks_behind old)) ≡ None
  pub map : KeepsMap old new
