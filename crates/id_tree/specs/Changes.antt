-- What the calls on an identifier tree make of it and of its pages: the words of id_table/specs/Changes.antt
-- for such a table.
use Rattle.std.specs.Prelude.{◌≡◌, ℕ, List}
use Rattle.std.specs.FinMap as map
use Rattle.box_math.specs.Objects.{Object}
use Rattle.bucket_page.specs.Layout.{Entry}
use Rattle.node_page.specs.Parts.{Moves, no_page}
use Rattle.node_page.specs.Standing.{PageMap}
use Rattle.id_words.specs.Objects.{with_all}
use Rattle.id_tree.specs.Tree.{IdTree, TreeStands, objects_of, part_of}

-- a new table of no objects, in pages of its own
pub record Makes (dims : ℕ) (old new : PageMap) (root : ℕ) : Type 0 where
  pub table : IdTree
  pub page : table.page ≡ root
  pub stands : TreeStands dims new table
  pub objects : objects_of table ≡ map.empty
  pub moves : Moves old new no_page (part_of table)

-- the table with an object with this identifier, of which this is kept: with one more, or another box of one
-- that it has
pub record Sets (dims : ℕ) (old new : PageMap) (t : IdTree) (id : ℕ) (kept : Object) : Type 0 where
  pub table : IdTree
  pub page : table.page ≡ t.page
  pub stands : TreeStands dims new table
  pub objects : objects_of table ≡ map.insert (objects_of t) id kept
  pub moves : Moves old new (part_of t) (part_of table)

-- the table without an object
pub record Removes (dims : ℕ) (old new : PageMap) (t : IdTree) (id : ℕ) : Type 0 where
  pub table : IdTree
  pub page : table.page ≡ t.page
  pub stands : TreeStands dims new table
  pub objects : objects_of table ≡ map.remove (objects_of t) id
  pub moves : Moves old new (part_of t) (part_of table)

-- the table with all these objects more
pub record Fills (dims : ℕ) (old new : PageMap) (t : IdTree) (added : List Entry) : Type 0 where
  pub table : IdTree
  pub page : table.page ≡ t.page
  pub stands : TreeStands dims new table
  pub objects : objects_of table ≡ with_all (objects_of t) added
  pub moves : Moves old new (part_of t) (part_of table)

-- how many pages an object more makes live at most: one on each level, and a new root
abbrev pub most_added_pages : ℕ
most_added_pages = 7
