-- What the code has done where an object is taken out below a node: the words of its inner contracts
-- (docs/RULES.md, "Removal").
use Rattle.std.specs.Prelude.{◌≡◌, ◌⊎◌, ℕ, ◌+◌, ◌-◌, ◌<◌, ◌≤◌, All, Some, List, ◌++◌, length, map, reverse}
use Rattle.std.specs.Prelude.{take, drop, slice_index_or}
use Rattle.box_math.specs.Bounds.{Within}
use Rattle.box_math.specs.Objects.{Object, bounds_of, tag_of}
use Rattle.tree_node.specs.declared.node.Root.{Root}
use Rattle.tree_node.specs.Nodes.{Item, NodeContent, item_of}
use Rattle.tree_node.specs.Rows.{occurs_waiting}
use Rattle.tree_node.specs.Trees.{Row, end, more, object, child, Tree, occurs, row_items}
use Rattle.node_page.specs.Changes.{AllWait}
use Rattle.node_bytes.specs.Layout.{IsOfLevel}
use Rattle.node_page.specs.Parts.{Moves}
use Rattle.node_page.specs.Standing.{PageMap, RowStands, Stands}
use Rattle.reinsert.specs.Children.{Child, child_at}
use Rattle.reinsert.specs.Placed.{Held, held_in}
use Rattle.condense.specs.declared.kept.Orphans.{Orphans}
use Rattle.condense.specs.declared.kept.Orphan.{Orphan}
use Rattle.condense.specs.Removal.{Condensed, TakesOut}

-- the tree of these entries at a root
abbrev pub tree_at : Root → Row → Tree
tree_at root row = record { page = root.page; level = root.level; row = row }

-- ---- what is kept, as the code holds it

abbrev pub orphan_held : {D : ℕ} → Orphan D → Held
orphan_held orphan = record { item = item_of orphan.entry; level = orphan.level }

abbrev pub held_now : {D : ℕ} → Orphans D → List Held
held_now kept = map orphan_held kept.list.items

-- ---- nodes in hand

-- a node of this level in hand, which may have too few entries to be written
pub record IsCut (level : ℕ) (c : NodeContent) : Type 0 where
  pub level_is : c.level ≡ level
  pub few : length c.entries ≤ 100
  pub refers : All (λ item. IsOfLevel level item.reference item.tag) c.entries

-- the entries without the one at a position
abbrev pub items_without : List Item → ℕ → List Item
items_without items at = take at items ++ drop (at + 1) items

-- an entry of the object is left out of a leaf
pub record IsTakenFrom (id : ℕ) (removed : Object) (before after : List Item) : Type 0 where
  pub at : ℕ
  pub within : at < length before
  pub found : (d : Item)
      → slice_index_or before at
      d ≡ record { bounds = bounds_of removed; reference = id; tag = tag_of removed }
  pub rest : after ≡ items_without before at

-- ---- where the object is

-- a leaf below the node has the object, and each box on the way there encloses its box
abbrev pub LeadsTo : ℕ → ℕ → Object → Row → Type 0
LeadsTo dims id removed end = ⊥
LeadsTo dims id removed (more (object kept i) rest) = ((kept ≡ removed) × (i ≡ id))
    ⊎ LeadsTo dims id removed rest
LeadsTo dims id removed (more (child b page below) rest) =
    (Within dims (bounds_of removed) b × LeadsTo dims id removed below) ⊎ LeadsTo dims id removed rest

-- ---- what was taken

-- The object was taken out below the node. What the node has become is in hand, with these entries, and not
-- yet written; the trees below it and what is kept stand.
pub record HasTaken (dims most : ℕ) (m m' : PageMap) (level id : ℕ) (removed : Object) (row : Row)
    (held held' : List Held) (items : List Item) : Type 0 where
  pub out : Condensed
  pub takes_out : TakesOut dims most level id removed row out
  pub below : RowStands dims m' level out.row
  pub kept : AllWait dims m' out.kept
  pub moves : Moves m m' (λ n. occurs n row) (λ n. occurs n out.row + occurs_waiting n out.kept)
  pub entries : items ≡ row_items out.row
  pub holds : held' ≡ held ++ reverse (map held_in out.kept)

-- a node stands with these entries, and the object was taken out below its child at a place, which is in hand
pub record TookBelow (dims most : ℕ) (m m1 : PageMap) (page level id : ℕ) (removed : Object) (row : Row)
    (at : ℕ)
    (held held1 : List Held) (entries lower : List Item) : Type 0 where
  pub stands : Stands dims m (record { page = page; level = level; row = row })
  pub are : row_items row ≡ entries
  pub from : Child
  pub there : child_at row at ≡ Some from
  pub taken : HasTaken dims most m m1 (level - 1) id removed from.row held held1 lower
