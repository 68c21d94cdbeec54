-- Rows of children taken apart at the child where an identifier is, and nodes that stand in pages.
use Rattle.std.specs.Prelude.{◌≡◌, ℕ, ◌+◌, ◌-◌, ◌<◌, ◌≤◌, Bool, List, length, slice_index_or, Option, Some}
use Rattle.std.specs.Prelude.{None, ⊤, if◌then◌else◌, ◌==◌, ◌⊎◌}
use Rattle.std.specs.FinMap as map
use Rattle.box_math.specs.Objects.{Object}
use Rattle.bucket_page.specs.Layout.{Entry}
use Rattle.id_words.specs.Objects.{kept_in, times_in}
use Rattle.id_page.specs.Leaf.{most_objects}
use Rattle.node_page.specs.Parts.{Part}
use Rattle.node_page.specs.Standing.{PageMap}
use Rattle.id_tree.specs.Tree.{HasNode, IdTree, IsFilled, IsParted, Row, end, more, object, child, RowStands}
use Rattle.id_tree.specs.Tree.{links_of, objects_in, objects_of, occurs}

-- two rows one after the other
abbrev pub joined : Row → Row → Row
joined end behind = behind
joined (more b rest) behind = more b (joined rest behind)

-- the key of the first child of a row, or this one where it has none
abbrev pub next_key : Row → ℕ → ℕ
next_key end other = other
next_key (more (object id kept) rest) other = other
next_key (more (child key page below) rest) other = key

-- a row has a first child, of this key
abbrev pub Begins : ℕ → Row → Type 0
Begins key end = ⊥
Begins key (more (object id kept) rest) = ⊥
Begins key (more (child k page below) rest) = k ≡ key

-- the way to an identifier passes all children of a row, before one of this key
abbrev pub Passes : ℕ → Row → ℕ → Type 0
Passes id end key = ⊤
Passes id (more (object other kept) rest) key = Passes id rest key
Passes id (more (child k page below) rest) key = (next_key rest key ≤ id) × Passes id rest key

-- and stops before these
abbrev pub Stops : ℕ → Row → Type 0
Stops id end = ⊤
Stops id (more (object other kept) rest) = ⊤
Stops id (more (child key page below) rest) = id < key

-- a row has this page as that of the child where an identifier is
pub record At (id page : ℕ) (row : Row) : Type 0 where
  pub front : Row
  pub key : ℕ
  pub below : Row
  pub rest : Row
  pub is : row ≡ joined front (more (child key page below) rest)
  pub passes : Passes id front key
  pub stops : Stops id rest

-- the page of a node with all below it
abbrev pub part_at : ℕ → Row → Part
part_at page row n = (if page == n then 1 else 0) + occurs n row

-- A node and all below it stand, on pages of their own; the flag says whether the node is at the edge of its
-- tree.
pub record NodeStands (dims : ℕ) (pages : PageMap) (page level : ℕ) (edge : Bool) (row : Row) : Type 0 where
  pub low : 2 < page
  pub node : HasNode dims pages page level row
  pub below : RowStands dims pages level row
  pub parted : IsParted row
  pub filled : IsFilled dims level edge row
  pub once : (n : ℕ) → part_at page row n ≤ 1

-- a node takes an object more, or a child more
pub record HasRoom (dims level : ℕ) (row : Row) : Type 0 where
  pub leaf : level ≡ 0 → length (objects_in row) < most_objects dims
  pub fork : 0 < level → length (links_of row) < 340

-- it takes none
pub record IsFull (dims level : ℕ) (row : Row) : Type 0 where
  pub leaf : level ≡ 0 → most_objects dims ≤ length (objects_in row)
  pub fork : 0 < level → 340 ≤ length (links_of row)

-- the objects of a leaf have this one in a place
pub record HasAt (id : ℕ) (objects : List Entry) (place : ℕ) (kept : Object) : Type 0 where
  pub within : place < length objects
  pub is : (other : Entry) → slice_index_or objects place other ≡ (id, kept)

-- where they have one with an identifier, if they do
abbrev pub IsFoundAt : ℕ → List Entry → Option (ℕ × Object) → Type 0
IsFoundAt id objects None = kept_in id objects ≡ None
IsFoundAt id objects (Some found) = HasAt id objects found.0 found.1

-- what a search in a leaf answers: what is kept of the object in a place, or that none has the identifier
abbrev pub IsSoughtIn : ℕ → List Entry → ℕ → Option Object → Type 0
IsSoughtIn id objects place None = kept_in id objects ≡ None
IsSoughtIn id objects place (Some kept) = HasAt id objects place kept

-- the way from a node down to the leaf where an identifier is
pub data Reaches (id : ℕ) : ℕ → ℕ → Row → ℕ → Row → Type 0 where
  here : (page : ℕ) (row : Row) → Reaches id 0 page row page row
  down : (level page below leaf : ℕ) (row last : Row) → 0 < level → (way : At id below row)
      → Reaches id (level - 1) below way.below leaf last → Reaches id level page row leaf last

-- where an identifier is below a node: its leaf, its place there and what is kept of its object
pub record IsBelow (page level id : ℕ) (row : Row) (leaf place : ℕ) (kept : Object) : Type 0 where
  pub last : Row
  pub way : Reaches id level page row leaf last
  pub has : HasAt id (objects_in last) place kept
  pub is : kept_in id (objects_in row) ≡ Some kept

-- the leaf to which the way from a node leads, if the node has one
abbrev pub LeadsBelow : ℕ → ℕ → ℕ → Row → Option ℕ → Type 0
LeadsBelow page level id row None = kept_in id (objects_in row) ≡ None
LeadsBelow page level id row (Some leaf) = (last : Row) × Reaches id level page row leaf last

-- a way leads from the root to this leaf
pub record LeadsToLeaf (t : IdTree) (id leaf : ℕ) : Type 0 where
  pub last : Row
  pub way : Reaches id t.level t.page t.row leaf last

-- where a table has an identifier, or would get it: in the leaf to which the way leads, and there in this
-- place where its object is there; leaf 0 where the root has no child
pub record IsLeafPlace (t : IdTree) (id leaf place : ℕ) : Type 0 where
  pub there : (kept : Object) → map.get (objects_of t) id ≡ Some kept
      → IsBelow t.page t.level id t.row leaf place kept
  pub missing : map.get (objects_of t) id ≡ None → (leaf ≡ 0) ⊎ LeadsToLeaf t id leaf

-- a node that stands, without an identifier twice
pub record MaySeek (dims : ℕ) (pages : PageMap) (page level : ℕ) (edge : Bool) (row : Row) : Type 0 where
  pub stands : NodeStands dims pages page level edge row
  pub single : (q : ℕ) → times_in q (objects_in row) ≤ 1
