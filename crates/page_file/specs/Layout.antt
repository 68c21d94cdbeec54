-- The blocks of a file: gate, header, catalog and free page, as they are written and as they are read
-- (our format, docs/FORMAT.md).
use Rattle.std.specs.Prelude.{◌≡◌, ◌==◌, ℕ, List, Bool, true, ◌&&◌, nat_le, if◌then◌else◌}
use Rattle.block_device.specs.Device.{Blocks, block_at}
use Rattle.block_bytes.specs.Numbers.{zeros, number_at, put_number}
use Rattle.block_bytes.specs.Kinds.{free_kind}
use Rattle.page_file.specs.declared.header.Header.{Header}
use Rattle.page_file.specs.declared.header.Version.{Version}
use Rattle.page_file.specs.declared.header.Version.TheVariants.{Two, Three}

-- the ASCII text RSTARGAT
abbrev pub gate_text : ℕ
gate_text = 0x5253544152474154

-- the ASCII text RSTARHDR
abbrev pub header_text : ℕ
header_text = 0x5253544152484452

-- the numbers of the versions that are read
abbrev pub is_known : ℕ → Bool
is_known number = nat_le 1 number && nat_le number 3

-- the number of a version, as a header is written, and the version of a number, as it is read: a file of
-- version 1 is one of version 2 that was not changed since
abbrev pub version_number : Version → ℕ
version_number Two = 2
version_number Three = 3

-- the numbers of the versions that are read where none above `newest` is
abbrev pub is_read : Version → ℕ → Bool
is_read newest number = nat_le 1 number && nat_le number (version_number newest)

-- a version is none above the newest
abbrev pub IsWithin : Version → Version → Type 0
IsWithin newest version = newest ≡ Two → version ≡ Two

abbrev pub version_from : ℕ → Version
version_from number = if number == 3 then Three else Two

-- the version's number in a header's block, and in the blocks of a file
abbrev pub header_version : List ℕ → ℕ
header_version block = number_at 2 8 block

abbrev pub version_in : Blocks → ℕ
version_in blocks = header_version (block_at 1 blocks)

-- the version of a file that is opened on these blocks
abbrev pub opened_version : Blocks → Version
opened_version blocks = version_from (version_in blocks)

-- block 0, the gate: open (0) or shut (1)
unfoldable pub gate_block : ℕ → List ℕ
gate_block shut = put_number 1 8 shut (put_number 8 0 gate_text zeros)

-- block 1, the header
unfoldable pub header_block : Header → List ℕ
header_block h =
    put_number 4 20 h.count
    (put_number 4 16 h.first
    (put_number 4 12 h.next (put_number 2 8 (version_number h.version) (put_number 8 0 header_text zeros))))

-- block 2 of a new file, a catalog of no layers
unfoldable pub catalog_block : List ℕ
catalog_block = put_number 1 0 1 zeros

-- the header of a new file, in which the catalog alone was given out
abbrev pub new_header : Header
new_header = record { version = Two; next = 3; first = 0; count = 0 }

-- a free page that names the next one, 0 if none
unfoldable pub free_block : ℕ → List ℕ
free_block next = put_number 4 4 next (put_number 1 0 free_kind zeros)

-- a block that reads as a shut gate
pub record IsShutGate (block : List ℕ) : Type 0 where
  pub text : number_at 8 0 block ≡ gate_text
  pub shut : number_at 1 8 block ≡ 1

-- a block that reads as this header
pub record IsHeader (h : Header) (block : List ℕ) : Type 0 where
  pub text : number_at 8 0 block ≡ header_text
  pub known : is_known (header_version block) ≡ true
  pub version_is : version_from (header_version block) ≡ h.version
  pub next_is : number_at 4 12 block ≡ h.next
  pub first_is : number_at 4 16 block ≡ h.first
  pub count_is : number_at 4 20 block ≡ h.count

-- the kind of a page, and the page that a free one names as the next
abbrev pub kind_of : List ℕ → ℕ
kind_of page = number_at 1 0 page

abbrev pub link_of : List ℕ → ℕ
link_of page = number_at 4 4 page
