-- A node one of whose entries gets another box (docs/RULES.md, "Insertion").
use Rattle.std.specs.Prelude.{◌≡◌, ℕ, zero, suc, ◌<◌, ◌≤◌, List, [], ◌∷◌, length, Some}
use Rattle.block_bytes.specs.Numbers.{number_at}
use Rattle.box_math.specs.Bounds.{Bounds, Within}
use Rattle.tree_node.specs.Boxes.{box_at}
use Rattle.tree_node.specs.Nodes.{Item, NodeContent}
use Rattle.node_bytes.specs.Layout.{IsPageOfNode, IsTidy, StaysNode, node_at}

-- the entries with another box at a place
abbrev pub set_box : List Item → ℕ → Bounds → List Item
set_box [] at b = []
set_box (item ∷ items) zero b = record { bounds = b; reference = item.reference; tag = item.tag } ∷ items
set_box (item ∷ items) (suc at) b = item ∷ set_box items at b

-- the node with another box at a place
abbrev pub with_box_at : NodeContent → ℕ → Bounds → NodeContent
with_box_at c place b = record { level = c.level; entries = set_box c.entries place b }

-- a node of at most the most entries has one in the place, whose box lies within the other
pub record CanEnlarge (dims most place : ℕ) (b : Bounds) (c : NodeContent) : Type 0 where
  pub few : length c.entries ≤ most
  pub there : place < length c.entries
  pub grows : Within dims (box_at c.entries place) b

-- the entry in a place got another box on a page that spells a node with such an entry, one that spells a node
-- spells one still, and one that counts no such entry stays
pub record IsBoxed (dims place : ℕ) (b : Bounds) (old new : List ℕ) : Type 0 where
  pub spelled : (c : NodeContent) → node_at dims old ≡ Some c → place < length c.entries
      → node_at dims new ≡ Some (with_box_at c place b)
  pub is_page : IsTidy dims old → (c : NodeContent) → node_at dims old ≡ Some c → place < length c.entries
      → IsPageOfNode dims new (with_box_at c place b)
  pub stays : StaysNode dims old new
  pub absent : number_at 2 2 old ≤ place → new ≡ old
