-- How a page spells the catalog, the list of a file's layers (our format, docs/FORMAT.md): byte 0 is 1, byte
-- 1 the count of layers, and from 256 on a record of 64 bytes for each, one after the other.
use Rattle.std.specs.Prelude.{◌≡◌, ℕ, ◌+◌, ◌*◌, ◌^◌, ◌<◌, ◌≤◌, ◌&&◌, ◌==◌, ◌⊎◌, Bool, nat_le, List, length}
use Rattle.std.specs.Prelude.{All, map, Option, Some, None, if◌then◌else◌}
use Rattle.std.specs.List.{list_all}
use Rattle.arrayvec.specs.ArrayVec.{ArrayVec}
use Rattle.block_bytes.specs.Kinds.{catalog_kind}
use Rattle.block_bytes.specs.Numbers.{number_at, IsApart}
use Rattle.block_bytes.specs.Places.{first_places}
use Rattle.catalog_page.specs.declared.layer_record.LayerRecord.{LayerRecord}

-- what the catalog says of a layer
pub record Record : Type 0 where
  pub name : List ℕ
  pub dims : ℕ
  pub fanout : ℕ
  pub level : ℕ
  pub root : ℕ
  pub ids_root : ℕ
  pub count : ℕ

-- the record that a `LayerRecord` is
abbrev pub record_of : LayerRecord → Record
record_of layer = record {
  name = layer.name.items;
  dims = layer.dims;
  fanout = layer.fanout;
  level = layer.level;
  root = layer.root;
  ids_root = layer.ids_root;
  count = layer.count;
}

-- the records of a list of them
abbrev pub records_of : ArrayVec LayerRecord → List Record
records_of layers = map record_of layers.items

-- the name has 1 to 24 bytes
pub record HasName (layer : Record) : Type 0 where
  pub some : 1 ≤ length layer.name
  pub short : length layer.name ≤ 24

-- a record that a page can spell
pub record IsRecord (layer : Record) : Type 0 where
  pub named : HasName layer
  pub name_bytes : All (λ byte. byte < 256) layer.name
  pub dims_fits : layer.dims < 2 ^ 8
  pub fanout_fits : layer.fanout < 2 ^ 8
  pub level_fits : layer.level < 2 ^ 8
  pub root_fits : layer.root < 2 ^ 32
  pub ids_root_fits : layer.ids_root < 2 ^ 32
  pub count_fits : layer.count < 2 ^ 64

-- a list of layers that a page can spell
pub record IsCatalog (layers : List Record) : Type 0 where
  pub few : length layers ≤ 60
  pub each : All IsRecord layers

-- ---- one record

-- the n bytes from a place
abbrev pub bytes_at : ℕ → ℕ → List ℕ → List ℕ
bytes_at n at page = first_places (λ k. number_at 1 (at + k) page) n

-- where the record in a place begins
abbrev pub record_place : ℕ → ℕ
record_place place = 256 + 64 * place

-- the record that begins at a byte: the length of its name, its name, and its numbers
unfoldable pub record_from : ℕ → List ℕ → Record
record_from at page = record {
  name = bytes_at (number_at 1 at page) (at + 1) page;
  dims = number_at 1 (at + 25) page;
  fanout = number_at 1 (at + 26) page;
  level = number_at 1 (at + 27) page;
  root = number_at 4 (at + 28) page;
  ids_root = number_at 4 (at + 32) page;
  count = number_at 8 (at + 36) page;
}

-- the numbers of a record that begins at a byte are those of a layer
pub record HasNumbers (at : ℕ) (layer : Record) (page : List ℕ) : Type 0 where
  pub dims_is : number_at 1 (at + 25) page ≡ layer.dims
  pub fanout_is : number_at 1 (at + 26) page ≡ layer.fanout
  pub level_is : number_at 1 (at + 27) page ≡ layer.level
  pub root_is : number_at 4 (at + 28) page ≡ layer.root
  pub ids_root_is : number_at 4 (at + 32) page ≡ layer.ids_root
  pub count_is : number_at 8 (at + 36) page ≡ layer.count

-- the record in a place
abbrev pub record_at : List ℕ → ℕ → Record
record_at page place = record_from (record_place place) page

-- the records in the first places
abbrev pub first_records : List ℕ → ℕ → List Record
first_records page count = first_places (record_at page) count

-- ---- the page

-- the page spells these layers
pub record Spells (page : List ℕ) (layers : List Record) : Type 0 where
  pub kind : number_at 1 0 page ≡ catalog_kind
  pub few : number_at 1 1 page ≤ 60
  pub named : All HasName layers
  pub records : layers ≡ first_records page (number_at 1 1 page)

-- whether the name has 1 to 24 bytes
abbrev pub has_name : Record → Bool
has_name layer = nat_le 1 (length layer.name) && nat_le (length layer.name) 24

-- whether the page spells layers
unfoldable pub catalog_test : List ℕ → Bool
catalog_test page = number_at 1 0 page == catalog_kind && nat_le (number_at 1 1 page) 60
    && list_all has_name (first_records page (number_at 1 1 page))

-- the list of layers that the page spells, if it spells one
unfoldable pub records_at : List ℕ → Option (List Record)
records_at page = if catalog_test page then Some (first_records page (number_at 1 1 page)) else None

-- ---- which bytes are named

-- a byte of the record that begins at a byte and whose name has this length: those after the name, and those
-- from 44 on, are not
abbrev pub IsOfRecord : ℕ → ℕ → ℕ → Type 0
IsOfRecord length at k = ((at ≤ k) × (k < at + 1 + length)) ⊎ ((at + 25 ≤ k) × (k < at + 44))

-- a byte of the page that is named: its kind, its count, and those of the records below its count
abbrev pub IsNamed : List ℕ → ℕ → Type 0
IsNamed page k = (k < 2)
    ⊎ ((place : ℕ) × (place < number_at 1 1 page)
    × IsOfRecord (number_at 1 (record_place place) page) (record_place place) k)

-- all bytes stay but those from a place
abbrev pub ChangesOnly : ℕ → ℕ → List ℕ → List ℕ → Type 0
ChangesOnly size at old new = (k : ℕ) → IsApart 1 k size at → number_at 1 k new ≡ number_at 1 k old

-- all bytes stay but those of the record that begins at a byte and whose name has this length
abbrev pub ChangesRecord : ℕ → ℕ → List ℕ → List ℕ → Type 0
ChangesRecord length at old new = (k : ℕ) → (IsOfRecord length at k → ⊥)
    → number_at 1 k new ≡ number_at 1 k old
