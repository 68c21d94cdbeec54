-- Nodes and their entries, as contracts see them: without their dimension.
use Rattle.std.specs.Prelude.{ℕ, List, map}
use Rattle.box_math.specs.Bounds.{Bounds}
use Rattle.tree_node.specs.declared.node.Entry.{Entry}
use Rattle.tree_node.specs.declared.node.Node.{Node}

-- an entry: a box, the identifier of an object or the page of a child, and the tag of the object, 0 for a
-- child
pub record Item : Type 0 where
  pub bounds : Bounds
  pub reference : ℕ
  pub tag : ℕ

-- what a node holds: its level, 0 for a leaf, and its entries
pub record NodeContent : Type 0 where
  pub level : ℕ
  pub entries : List Item

abbrev pub item_of : {D : ℕ} → Entry D → Item
item_of entry = record { bounds = entry.bounds; reference = entry.reference; tag = entry.tag }

abbrev pub items_of : {D : ℕ} → List (Entry D) → List Item
items_of entries = map item_of entries

abbrev pub content_of : {D : ℕ} → Node D → NodeContent
content_of node = record { level = node.level; entries = map item_of node.entries.items }

-- the references of a node by position, which in a leaf are the identifiers
abbrev pub references_of : NodeContent → List ℕ
references_of c = map (λ (item : Item). item.reference) c.entries
