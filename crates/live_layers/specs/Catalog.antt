-- Which catalogs are good. Our rule, docs/FORMAT.md, "Opening".
use Rattle.std.specs.Prelude.{ℕ, ◌≡◌, ◌^◌, true, Bool, All, ◌&&◌, nat_le, nat_lt, List, map, sum_by}
use Rattle.std.specs.List.{list_all}
use Rattle.std.specs.Cmp.Lexicographic.{slice_cmp}
use Rattle.std.specs.FinMap.{is_sorted}
use Rattle.std.specs.Ordering.{nat_cmp}
use Rattle.catalog_page.specs.Layout.{Record}
use Rattle.tree_node.specs.declared.node.Root.{Root}
use Rattle.plain_table.specs.Table.{is_layer_name, is_dims, is_fanout, most_objects}

-- a page given out after the catalog
abbrev pub is_page : ℕ → ℕ → Bool
is_page next n = nat_le 3 n && nat_lt n next

-- the name, dimension and fanout of a layer that may be
abbrev pub is_layer : Record → Bool
is_layer r = is_layer_name r.name && is_dims r.dims && is_fanout r.fanout

-- the record of one: the level of its root is at most 40, and its root and the first page of its identifier
-- table are pages given out
abbrev pub is_layer_record : ℕ → Record → Bool
is_layer_record next r = is_layer r && nat_le r.level 40 && is_page next r.root && is_page next r.ids_root

-- each is the record of a layer that may be, whatever pages were given out: page numbers are below 2^31
abbrev pub AreLayers : List Record → Type 0
AreLayers records = All (λ (r : Record). is_layer_record (2 ^ 31) r ≡ true) records

-- records by their names
abbrev pub by_name : List Record → List (List ℕ × Record)
by_name records = map (λ r. (r.name, r)) records

-- the names ascend
abbrev pub names_ascend : List Record → Bool
names_ascend records = is_sorted (slice_cmp nat_cmp) (by_name records)

-- how many objects the layers have together
abbrev pub objects_named : List Record → ℕ
objects_named records = sum_by (λ r. r.count) records

-- a good catalog of a file of which `next` is one more than the greatest page number given out
abbrev pub is_good_catalog : ℕ → List Record → Bool
is_good_catalog next records = list_all (is_layer_record next) records
    && (names_ascend records && nat_le (objects_named records) most_objects)

-- the record of a layer whose tree begins there and that has so many objects
abbrev pub with_tree : Record → Root → ℕ → Record
with_tree r root count = record r { level = root.level; root = root.page; count = count }
