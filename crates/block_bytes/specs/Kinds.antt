-- The kinds of pages, and how a page with entries begins (our format, docs/FORMAT.md): byte 0 is the kind,
-- byte 1 the dimension, and at 2 the count of entries.
use Rattle.std.specs.Prelude.{◌≡◌, ℕ, List}
use Rattle.block_bytes.specs.Numbers.{number_at}

-- what a page is, as its byte 0 says
abbrev pub catalog_kind : ℕ
catalog_kind = 1

-- a node of format 1, whose objects have the tag 0
abbrev pub untagged_node_kind : ℕ
untagged_node_kind = 2

abbrev pub directory_kind : ℕ
directory_kind = 3

-- a bucket of format 1, whose objects have the tag 0
abbrev pub untagged_bucket_kind : ℕ
untagged_bucket_kind = 4

abbrev pub free_kind : ℕ
free_kind = 5

abbrev pub node_kind : ℕ
node_kind = 6

abbrev pub bucket_kind : ℕ
bucket_kind = 7

-- the first four bytes of a page with entries
pub record HasHead (kind dims count : ℕ) (page : List ℕ) : Type 0 where
  pub kind_is : number_at 1 0 page ≡ kind
  pub dims_is : number_at 1 1 page ≡ dims
  pub count_is : number_at 2 2 page ≡ count
