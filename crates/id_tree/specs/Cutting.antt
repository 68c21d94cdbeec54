-- Nodes cut in two, as bytes of pages.
use Rattle.std.specs.Prelude.{◌≡◌, ℕ, ◌+◌, ◌-◌, ◌<◌, ◌≤◌, Bool, false, List, ◌++◌, length, take, drop}
use Rattle.std.specs.Prelude.{slice_index_or, insert, All, Some}
use Rattle.bucket_page.specs.Layout.{Entry}
use Rattle.id_page.specs.Fork.{ForkContent, Link, fork_at, with_links}
use Rattle.id_page.specs.Leaf.{leaf_at, most_objects}
use Rattle.page_file.specs.Pages.{SameBut}
use Rattle.node_page.specs.Standing.{PageMap}
use Rattle.id_tree.specs.Halving.{from_key, under_key}
use Rattle.id_tree.specs.Rows.{HasRoom}
use Rattle.id_tree.specs.Steps.{Keeps}
use Rattle.id_tree.specs.Tidy.{AreAsTidy, IsAsTidy}
use Rattle.id_tree.specs.Writes.{GivesAndPuts}
use Rattle.id_tree.specs.Tree.{IsFilled, IsLarge, IsParted, Row, RowStands, fork_in, least_objects, links_of}
use Rattle.id_tree.specs.Tree.{objects_in, occurs}

-- the objects of a leaf, or of two, were cut at a key into these pages
pub record CutsLeaf (dims : ℕ) (edge : Bool) (objects : List Entry) (key : ℕ) (first second : List ℕ) : Type 0
  where
    pub under : leaf_at dims first ≡ Some (under_key key objects)
    pub from : leaf_at dims second ≡ Some (from_key key objects)
    pub large : least_objects dims ≤ length (under_key key objects)
    pub some : 0 < length (from_key key objects)
    pub rest : edge ≡ false → least_objects dims ≤ length (from_key key objects)

-- the children of a fork, or of two, were cut at the key of one into these pages
pub record CutsFork (dims level : ℕ) (edge : Bool) (links : List Link) (key : ℕ)
    (first second : List ℕ) : Type 0 where
  pub many : ℕ
  pub key_is : (other : Link) → (slice_index_or links many other).0 ≡ key
  pub upto : fork_at dims first ≡ Some (record { level = level; links = take many links })
  pub beyond : fork_at dims second ≡ Some (record { level = level; links = drop many links })
  pub large : 85 ≤ many
  pub some : many < length links
  pub rest : edge ≡ false → many + 85 ≤ length links

-- a page spells the node of this level with this row
pub record SpellsNode (dims level : ℕ) (row : Row) (page : List ℕ) : Type 0 where
  pub leaf : level ≡ 0 → leaf_at dims page ≡ Some (objects_in row)
  pub fork : 0 < level → fork_at dims page ≡ Some (record { level = level; links = links_of row })

-- what a node has fits into one page
pub record FitsOne (dims level : ℕ) (row : Row) : Type 0 where
  pub leaf : level ≡ 0 → length (objects_in row) ≤ most_objects dims
  pub fork : 0 < level → length (links_of row) ≤ 340

-- a node that is full, or more, is cut at a key into these pages
pub record Cuts (dims level : ℕ) (edge : Bool) (row : Row) (key : ℕ) (first second : List ℕ) : Type 0 where
  pub left : Row
  pub right : Row
  pub spells_left : SpellsNode dims level left first
  pub spells_right : SpellsNode dims level right second
  pub below_left : (pages : PageMap) → RowStands dims pages level row → RowStands dims pages level left
  pub below_right : (pages : PageMap) → RowStands dims pages level row → RowStands dims pages level right
  pub parted_left : IsParted left
  pub parted_right : IsParted right
  pub filled_left : IsFilled dims level false left
  pub filled_right : IsFilled dims level edge right
  pub large_left : IsLarge dims level left
  pub large_right : edge ≡ false → IsLarge dims level right
  pub some_left : 0 < length (objects_in left)
  pub some_right : 0 < length (objects_in right)
  pub room_left : FitsOne dims level row → HasRoom dims level left
  pub room_right : FitsOne dims level row → HasRoom dims level right
  pub lesser : All (λ o. o.0 < key) (objects_in left)
  pub from : All (λ o. key ≤ o.0) (objects_in right)
  pub keeps : Keeps (objects_in row) (objects_in left ++ objects_in right)
  pub counts : (n : ℕ) → occurs n left + occurs n right ≡ occurs n row

-- a fork as its page is, and the cut that was looked out for one of its children, in tidy pages where all are
pub record Plans (dims : ℕ) (pages : PageMap) (level : ℕ) (last : Bool) (row below : Row) (fork : List ℕ)
    (key : ℕ) (first second : List ℕ) : Type 0 where
  pub fork_is : fork_at dims fork ≡ Some (record { level = level; links = links_of row })
  pub fork_tidy : IsAsTidy dims pages fork
  pub cuts : Cuts dims (level - 1) last below key first second
  pub cut_tidy : AreAsTidy dims pages first second

-- A page that was not live has the second half and the page of the node the first, and then its fork names
-- both.
pub record Splits (dims : ℕ) (old new : PageMap) (page child number place key : ℕ)
    (fork first second : List ℕ) : Type 0 where
  pub mid : PageMap
  pub given : GivesAndPuts old mid child number first second
  pub others : SameBut page mid new
  pub named : (c : ForkContent) → fork_at dims fork ≡ Some c
      → fork_in dims (new page) ≡ Some (with_links c (insert c.links place (key, number)))
