-- What the calls on an identifier table make of it and of its pages: its kind stays (our rule, docs/FORMAT.md,
-- "Identifier tables").
use Rattle.std.specs.Prelude.{◌≡◌, ℕ, ◌+◌, ◌/◌, List}
use Rattle.std.specs.FinMap as map
use Rattle.std.specs.List.Sorted.{IsNonDecreasingBy}
use Rattle.box_math.specs.Objects.{Object}
use Rattle.bucket_page.specs.Layout.{Entry}
use Rattle.id_chains.specs.Table.{class_of}
use Rattle.id_chains.specs.Tidy as chains
use Rattle.id_tree.specs.Tidy as trees
use Rattle.id_words.specs.Objects.{with_all}
use Rattle.node_page.specs.Parts.{Moves, no_page}
use Rattle.node_page.specs.Standing.{PageMap}
use Rattle.id_table.specs.Table.{IdTable, IdsStand, kind_of, objects_of, page_of, part_of}
use Rattle.id_table.specs.declared.kind.TableKind.{TableKind}
use Rattle.id_table.specs.declared.kind.TableKind.TheVariants.{Chains, Tree}

-- a new table of this kind and of no objects, in pages of its own
pub record Makes (dims : ℕ) (old new : PageMap) (kind : TableKind) (page : ℕ) : Type 0 where
  pub table : IdTable
  pub kind_is : kind_of table ≡ kind
  pub page_is : page_of table ≡ page
  pub stands : IdsStand dims new table
  pub objects : objects_of table ≡ map.empty
  pub moves : Moves old new no_page (part_of table)

-- the table with an object with this identifier, of which this is kept: with one more, or another box of one
-- that it has
pub record Sets (dims : ℕ) (old new : PageMap) (t : IdTable) (id : ℕ) (kept : Object) : Type 0 where
  pub table : IdTable
  pub kind_is : kind_of table ≡ kind_of t
  pub page_is : page_of table ≡ page_of t
  pub stands : IdsStand dims new table
  pub objects : objects_of table ≡ map.insert (objects_of t) id kept
  pub moves : Moves old new (part_of t) (part_of table)

-- the table without an object
pub record Removes (dims : ℕ) (old new : PageMap) (t : IdTable) (id : ℕ) : Type 0 where
  pub table : IdTable
  pub kind_is : kind_of table ≡ kind_of t
  pub page_is : page_of table ≡ page_of t
  pub stands : IdsStand dims new table
  pub objects : objects_of table ≡ map.remove (objects_of t) id
  pub moves : Moves old new (part_of t) (part_of table)

-- the table with all these objects more
pub record Fills (dims : ℕ) (old new : PageMap) (t : IdTable) (added : List Entry) : Type 0 where
  pub table : IdTable
  pub kind_is : kind_of table ≡ kind_of t
  pub page_is : page_of table ≡ page_of t
  pub stands : IdsStand dims new table
  pub objects : objects_of table ≡ with_all (objects_of t) added
  pub moves : Moves old new (part_of t) (part_of table)

-- the order of objects that a table of this kind takes best: chain after chain, or by identifier
abbrev pub AreInOrder : TableKind → List Entry → Type 0
AreInOrder Chains = IsNonDecreasingBy (λ object. class_of object.0)
AreInOrder Tree = IsNonDecreasingBy (λ object. object.0)

-- where the pages of a table of this kind have zeros in all bytes that they do not name, they have so still
abbrev pub KeepsTidy : ℕ → TableKind → PageMap → PageMap → Type 0
KeepsTidy dims Chains = chains.KeepsTidy dims
KeepsTidy dims Tree = trees.KeepsTidy dims

-- ---- by how many pages the live ones grow at most

-- an object more: a bucket, or a page on each level of a tree and a new root
abbrev pub most_added_pages : ℕ
most_added_pages = 7

-- a table of no objects that takes so many: one page at most for each 28, beside a first page for each chain
abbrev pub most_filled_pages : ℕ → ℕ
most_filled_pages count = count / 28 + 1000
