-- The nodes that pages spell, of a tree or not, and what a change leaves of them.
use Rattle.std.specs.Prelude.{◌≡◌, ℕ, ◌<◌, ◌≤◌, List, Some, length, slice_index_or}
use Rattle.tree_node.specs.Boxes.{no_item}
use Rattle.tree_node.specs.Nodes.{Item, NodeContent}
use Rattle.node_page.specs.Standing.{PageMap, node_in}

-- nodes of this level and above stay
abbrev pub KeepsNodes : ℕ → ℕ → PageMap → PageMap → Type 0
KeepsNodes dims level m m' =
    (n : ℕ) (c : NodeContent) → node_in dims (m n) ≡ Some c → level ≤ c.level → node_in dims (m' n) ≡ Some c

-- no page spells a node that it did not spell before
abbrev pub AddsNoNode : ℕ → PageMap → PageMap → Type 0
AddsNoNode dims m m' =
    (n : ℕ) (c : NodeContent) → node_in dims (m' n) ≡ Some c → node_in dims (m n) ≡ Some c

-- the page of the child in a place
abbrev pub page_at : List Item → ℕ → ℕ
page_at items place = (slice_index_or items place no_item).reference

-- the page spells a node of this level
pub record HasLevel (dims page level : ℕ) (m : PageMap) : Type 0 where
  pub node : NodeContent
  pub there : node_in dims (m page) ≡ Some node
  pub level_is : node.level ≡ level

-- and has an entry in the place
pub record HasPlace (dims page level place : ℕ) (m : PageMap) : Type 0 where
  pub node : NodeContent
  pub there : node_in dims (m page) ≡ Some node
  pub level_is : node.level ≡ level
  pub within : place < length node.entries
