-- What a node has become below which an object was taken out: its page has it, or it is in hand.
use Rattle.std.specs.Prelude.{◌≡◌, ℕ, ◌+◌, ◌-◌, ◌<◌, ◌≤◌, Bool, true, false, List, Option, Some, length, map}
use Rattle.std.specs.Prelude.{⊤}
use Rattle.box_math.specs.Bounds.{Bounds}
use Rattle.box_math.specs.Objects.{Object}
use Rattle.page_file.specs.Pages.{SameBut}
use Rattle.tree_node.specs.Boxes.{least_box}
use Rattle.tree_node.specs.Nodes.{Item, NodeContent, content_of, item_of}
use Rattle.tree_node.specs.Shape.{least_entries}
use Rattle.tree_node.specs.Trees.{Row}
use Rattle.tree_node.specs.declared.node.Node.{Node}
use Rattle.tree_node.specs.declared.node.Root.{Root}
use Rattle.node_page.specs.Standing.{PageMap, node_in}
use Rattle.reinsert.specs.Placed.{Held}
use Rattle.condense.specs.Spelled.{HasLevel, KeepsNodes, page_at}
use Rattle.condense.specs.Taken.{HasTaken, IsCut}
use Rattle.condense.specs.declared.hand.Became.{Became}
use Rattle.condense.specs.declared.hand.Became.TheVariants.{Few, Settled, Unwritten}
use Rattle.condense.specs.declared.hand.InHand.{InHand}
use Rattle.condense.specs.declared.hand.Next.{Next}

abbrev pub is_written : {D : ℕ} → Became D → Bool
is_written (Settled least) = true
is_written Few = true
is_written Unwritten = false

-- The node of this level has these entries now: in its page, where it has enough of them with the least box
-- round them, or in hand, where it has too few.
abbrev pub IsNow : {D : ℕ} → ℕ → Option (List ℕ) → ℕ → List Item → Node D → Became D → Type 0
IsNow {D} most page level items hand (Settled least) =
    (node_in D page ≡ Some (record { level = level; entries = items }))
    × (least_entries most ≤ length items) × (least ≡ least_box D items)
IsNow {D} most page level items hand Few =
    (node_in D page ≡ Some (record { level = level; entries = items }))
    × (length items < least_entries most)
IsNow {D} most page level items hand Unwritten =
    (items ≡ map item_of hand.entries.items) × (length items < least_entries most)

-- a page has it, with so many entries, round which this box is least
abbrev pub IsWrittenWith : {D : ℕ} → ℕ → ℕ → Bounds → Became D → Type 0
IsWrittenWith most count least (Settled box) = (least_entries most ≤ count) × (box ≡ least)
IsWrittenWith most count least Few = count < least_entries most
IsWrittenWith most count least Unwritten = ⊥

-- where it is in hand, it is one of this level, and has too few entries
abbrev pub IsFewInHand : {D : ℕ} → ℕ → ℕ → Node D → Became D → Type 0
IsFewInHand most level hand (Settled least) = ⊤
IsFewInHand most level hand Few = ⊤
IsFewInHand most level hand Unwritten = IsCut level (content_of hand)
    × (length hand.entries.items < least_entries most)

-- where its page has too few
abbrev pub IfFew : {D : ℕ} → Became D → Type 0 → Type 0
IfFew (Settled least) X = ⊤
IfFew Few X = X
IfFew Unwritten X = ⊤

-- in any pages: a node of this level is at the page, of too few entries where that is told
pub record IsStill {D : ℕ} (most page level : ℕ) (m : PageMap) (became : Became D) : Type 0 where
  pub node : NodeContent
  pub there : node_in D (m page) ≡ Some node
  pub level_is : node.level ≡ level
  pub few : IfFew became (length node.entries < least_entries most)

-- a node of the level was at the page, one is still, and nodes above the level stay
pub record StaysAbove {D : ℕ} (most : ℕ) (at : Root) (m m' : PageMap) (became : Became D) : Type 0 where
  pub was : HasLevel D at.page at.level m
  pub still : IsStill most at.page at.level m' became
  pub stay : KeepsNodes D (at.level + 1) m m'

-- The object was taken out below the node at the root. Between, all but its page was as it is now.
pub record HasBecome {D : ℕ} (most : ℕ) (m m' : PageMap) (at : Root) (id : ℕ) (removed : Object) (row : Row)
    (held held' : List Held) (hand : Node D) (became : Became D) : Type 0 where
  pub items : List Item
  pub between : PageMap
  pub taken : HasTaken D most m between at.level id removed row held held' items
  pub others : SameBut at.page between m'
  pub now : IsNow most (m' at.page) at.level items hand became

-- ---- on the way down

-- a child is one level below a node, at a page that a node can refer to
pub record IsNext (at : Root) (next : Next) : Type 0 where
  pub above : 0 < at.level
  pub level : next.below.level ≡ at.level - 1
  pub page : 3 ≤ next.below.page

-- the node at the root has the child in its place
pub record LeadsDown (dims : ℕ) (m : PageMap) (at : Root) (next : Next) : Type 0 where
  pub node : NodeContent
  pub there : node_in dims (m at.page) ≡ Some node
  pub level_is : node.level ≡ at.level
  pub within : next.place < length node.entries
  pub names : next.below.page ≡ page_at node.entries next.place

-- ---- the root

-- the root's page has these entries where it is told to be settled, else they are in hand
abbrev pub IsSettledAs : (dims : ℕ) → Root → PageMap → List Item → InHand dims → Type 0
IsSettledAs dims root m items hand =
    (hand.settled ≡ true → node_in dims (m root.page) ≡ Some (record { level = root.level; entries = items }))
    × (hand.settled ≡ false → items ≡ map item_of hand.node.entries.items)
