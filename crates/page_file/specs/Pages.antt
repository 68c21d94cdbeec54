-- The map of live pages that blocks and a header stand for (our rule, docs/FORMAT.md, "Pages").
use Rattle.std.specs.Prelude.{◌≡◌, ◌⊎◌, ◌≤◌, ◌<◌, ◌+◌, ◌-◌, ◌==◌, ℕ, zero, suc, List, [], ◌∷◌, Option, Some}
use Rattle.std.specs.Prelude.{None, Bool, ◌&&◌, not, nat_le, nat_lt, eqb, if◌then◌else◌, slice_get, IsSome}
use Rattle.std.specs.Set.{is_member}
use Rattle.block_device.specs.Device.{Blocks, Torn, block_at, written}
use Rattle.block_bytes.specs.Numbers.{zeros}
use Rattle.block_bytes.specs.Kinds.{free_kind}
use Rattle.page_file.specs.Layout.{kind_of, link_of}
use Rattle.page_file.specs.Opening.{header_of_block}
use Rattle.page_file.specs.declared.header.Header.{Header}
use Rattle.page_file.specs.declared.header.Version.{Version}

-- so many free pages from the first on, each of which names the next; a number below 3 names none
abbrev pub chain : Blocks → ℕ → ℕ → List ℕ
chain blocks zero n = []
chain blocks (suc count) n = if nat_lt n 3 then [] else n ∷ chain blocks count (link_of (block_at n blocks))

-- the free pages
abbrev pub free_pages_of : Blocks → Header → List ℕ
free_pages_of blocks h = chain blocks h.count h.first

-- a page is live if it was given out and is not free
abbrev pub is_live : Blocks → Header → ℕ → Bool
is_live blocks h n = nat_le 2 n && (nat_lt n h.next && not (is_member eqb (free_pages_of blocks h) n))

-- the pages given out, live or free, in a file of which `next` is one more than the greatest number given out
abbrev pub given_pages : Blocks → ℕ → ℕ → Option (List ℕ)
given_pages blocks next n = if nat_le 2 n && nat_lt n next then Some (block_at n blocks) else None

-- the map from live page number to the page's bytes
abbrev pub page_of : Blocks → Header → ℕ → Option (List ℕ)
page_of blocks h n = if is_live blocks h n then Some (block_at n blocks) else None

-- so many free pages in a row: each is one given out after the catalog and a page of that kind, and the last
-- one names 0
abbrev pub IsChain : Blocks → ℕ → ℕ → ℕ → Type 0
IsChain blocks next zero n = n ≡ 0
IsChain blocks next (suc count) n =
    (3 ≤ n) × (n < next) × (kind_of (block_at n blocks) ≡ free_kind)
    × IsChain blocks next count (link_of (block_at n blocks))

-- the free pages are such a chain; no page is in it twice, since each names one next page
abbrev pub HasFreeChain : Blocks → Header → Type 0
HasFreeChain blocks h = IsChain blocks h.next h.count h.first

-- what the blocks of a settled file stand for
abbrev pub header_in : Blocks → Header
header_in blocks = header_of_block (block_at 1 blocks)

abbrev pub pages_in : Blocks → ℕ → Option (List ℕ)
pages_in blocks n = page_of blocks (header_in blocks) n

abbrev pub next_in : Blocks → ℕ
next_in blocks = (header_in blocks).next

abbrev pub IsSoundMap : Blocks → Type 0
IsSoundMap blocks = HasFreeChain blocks (header_in blocks)

-- the same map but for page n
abbrev pub SameBut : ℕ → (ℕ → Option (List ℕ)) → (ℕ → Option (List ℕ)) → Type 0
SameBut n old new = (k : ℕ) → ¬ (k ≡ n) → new k ≡ old k

-- the header once one more number is given out, and once page n is the first free page
abbrev pub with_one_given : Header → Header
with_one_given h = record { version = h.version; next = h.next + 1; first = h.first; count = h.count }

abbrev pub with_one_free : ℕ → Header → Header
with_one_free n h = record { version = h.version; next = h.next; first = n; count = h.count + 1 }

-- and once the first free page is taken from the chain
abbrev pub with_one_taken : Blocks → Header → Header
with_one_taken blocks h =
    record {
      version = h.version;
      next = h.next;
      first = link_of (block_at h.first blocks);
      count = h.count - 1;
    }

-- and of another version
abbrev pub with_version : Version → Header → Header
with_version version h = record { version = version; next = h.next; first = h.first; count = h.count }

-- the number that is given out next, of so many free pages: that of the first one, or a new number where
-- there is none
abbrev pub next_of_free : ℕ → Header → ℕ
next_of_free zero h = h.next
next_of_free (suc count) h = h.first

abbrev pub next_given : Header → ℕ
next_given h = next_of_free h.count h

-- the header once it is given out
abbrev pub with_free : ℕ → Blocks → Header → Header
with_free zero blocks h = with_one_given h
with_free (suc count) blocks h = with_one_taken blocks h

abbrev pub with_given : Blocks → Header → Header
with_given blocks h = with_free h.count blocks h

-- That page is given out: it is zeros, and no longer free.
pub record HasGiven (old new : Blocks) (h h' : Header) : Type 0 where
  pub header : h' ≡ with_given old h
  pub block : new ≡ written (next_given h) zeros old
  pub torn : Torn (next_given h) old new

-- It may be given out, and may hold any bytes. A page that is still in the chain of free pages is as it was.
pub record MayHaveGiven (old new : Blocks) (h h' : Header) : Type 0 where
  pub torn : Torn (next_given h) old new
  pub header : ((h' ≡ h) × ((h.count ≡ 0) ⊎ (new ≡ old))) ⊎ ((h' ≡ with_given old h) × (0 < h.count))

-- Page n was given out, where those pages were free and that number was next: the first free page, or else a
-- new number.
abbrev pub TakesFirst : ℕ → List ℕ → ℕ → List ℕ → ℕ → Type 0
TakesFirst n [] next free' next' = (n ≡ next) × (free' ≡ []) × (next' ≡ next + 1)
TakesFirst n (first ∷ rest) next free' next' = (n ≡ first) × (free' ≡ rest) × (next' ≡ next)

-- what a free page may name as the next, where so many are free from it on: 0 by the last, and by each other
-- one a page given out after the catalog
abbrev pub may_link : ℕ → ℕ → ℕ → Bool
may_link count next link = if count == 1 then link == 0 else (nat_le 3 link && nat_lt link next)

-- the block of a free page as the format has it, and the page that it names
abbrev pub is_free_page : ℕ → ℕ → List ℕ → Bool
is_free_page count next block = kind_of block == free_kind && may_link count next (link_of block)

abbrev pub free_page_link : ℕ → ℕ → List ℕ → Option ℕ
free_page_link count next block = if is_free_page count next block then Some (link_of block) else None

-- the first so many pages of the chain are free pages in their places, each of which names the next
abbrev pub LinkOn : Blocks → Header → ℕ → Type 0
LinkOn blocks h many = (i k : ℕ) → i < many → slice_get (free_pages_of blocks h) i ≡ Some k
    → IsSome (free_page_link (h.count - i) h.next (block_at k blocks))

-- The chain of free pages breaks at page n: those before n link on and lead to it, and n is no free page in
-- its place (our rule, docs/FORMAT.md, "Pages").
pub record BreaksAt (blocks : Blocks) (h : Header) (n : ℕ) : Type 0 where
  pub before : ℕ
  pub counted : before < h.count
  pub linked : LinkOn blocks h before
  pub leads : slice_get (free_pages_of blocks h) before ≡ Some n
  pub broken : free_page_link (h.count - before) h.next (block_at n blocks) ≡ None
