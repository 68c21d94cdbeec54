-- How the nodes of a pair are opened: the higher one, or both of one level (our rule, docs/FORMAT.md, "Trees
-- of pages"). A node that is not opened stands for itself, as the only entry of a node above it.
use Rattle.std.specs.Prelude.{◌≡◌, ℕ, ◌+◌, ◌^◌, ◌<◌, nat_le, List, [], ◌∷◌, All, ⊤, Option, Some, None}
use Rattle.std.specs.Prelude.{if◌then◌else◌}
use Rattle.box_math.specs.Bounds.{Bounds, Within}
use Rattle.box_math.specs.Objects.{Object, bounds_of}
use Rattle.tree_node.specs.Boxes.{least_box}
use Rattle.tree_node.specs.Nodes.{Item, NodeContent}
use Rattle.tree_node.specs.Trees.{Row, end, more, object, child, objects_in, row_items}
use Rattle.node_page.specs.Standing.{PageMap, RowStands}

-- the level of what is opened of a node on this level, beside one on the other
abbrev pub opened_level : ℕ → ℕ → ℕ
opened_level level other = if nat_le other level then level else level + 1

-- what is opened of a node with this box and page
abbrev pub opened : ℕ → ℕ → Bounds → ℕ → Row → Row
opened level other bounds page row = if nat_le other level then row else more (child bounds page row) end

-- a node with this box, if it has one, as the only entry
abbrev pub alone : Option Bounds → ℕ → Row → Row
alone None page row = end
alone (Some bounds) page row = more (child bounds page row) end

-- the entries of a node of which a page is the only one, if it has a box
abbrev pub lone : Option Bounds → ℕ → List Item
lone None page = []
lone (Some bounds) page = record { bounds = bounds; reference = page; tag = 0 } ∷ []

-- the least box of a node with these entries, none of an empty one
abbrev pub node_box : ℕ → List Item → Option Bounds
node_box dims [] = None
node_box dims (item ∷ items) = Some (least_box dims (item ∷ items))

-- what is opened of a root
abbrev pub opened_root : ℕ → ℕ → ℕ → ℕ → Row → Row
opened_root dims level other page row =
    if nat_le other level then row else alone (node_box dims (row_items row)) page row

-- above the leaves each reference is a number of 32 bits
abbrev pub HasPages : NodeContent → Type 0
HasPages c = 0 < c.level → All (λ item. item.reference < 2 ^ 32) c.entries

-- a node with one entry
abbrev pub sole : ℕ → Item → NodeContent
sole level item = record { level = level; entries = item ∷ [] }

-- each object lies within the box
abbrev pub AllWithin : ℕ → Bounds → List (ℕ × Object) → Type 0
AllWithin dims b [] = ⊤
AllWithin dims b (x ∷ xs) = Within dims (bounds_of x.1) b × AllWithin dims b xs

-- the box above each node encloses the objects below it
abbrev pub Encloses : ℕ → Row → Type 0
Encloses dims end = ⊤
Encloses dims (more (object kept id) rest) = Encloses dims rest
Encloses dims (more (child bounds page below) rest) =
    AllWithin dims bounds (objects_in below) × Encloses dims below × Encloses dims rest

-- the node has these entries, and the trees below them stand in the pages
pub record HasRow (dims : ℕ) (pages : PageMap) (c : NodeContent) (row : Row) : Type 0 where
  pub items : row_items row ≡ c.entries
  pub below : RowStands dims pages c.level row
