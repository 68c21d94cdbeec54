-- Trees of nodes as values: what lies below each entry, what a tree holds, and its pages (Guttman 1984; our
-- rule, docs/FORMAT.md, "Trees of pages").
use Rattle.std.specs.Prelude.{◌≡◌, ℕ, zero, suc, ◌+◌, ◌-◌, ◌<◌, List, [], ◌∷◌, ◌++◌, ⊤, if◌then◌else◌, ◌==◌}
use Rattle.box_math.specs.Bounds.{Bounds}
use Rattle.box_math.specs.Objects.{Object, bounds_of, tag_of}
use Rattle.tree_node.specs.Nodes.{Item}

-- The entries of a node in order of position: on level 0 what is kept of objects, with identifiers, and above
-- it boxes with trees one level lower. A tree below is its page and its own entries.
mutual
  pub data Row : Type 0 where
    end : Row
    more : Branch → Row → Row

  pub data Branch : Type 0 where
    object : Object → ℕ → Branch
    child : Bounds → ℕ → Row → Branch

-- a tree: the page and the level of its root, and the root's entries
pub record Tree : Type 0 where
  pub page : ℕ
  pub level : ℕ
  pub row : Row

-- the entries as a page has them: an object's reference is its identifier, and that of a child its page, with
-- the tag 0
abbrev pub row_items : Row → List Item
row_items end = []
row_items (more (object kept id) rest) =
    record { bounds = bounds_of kept; reference = id; tag = tag_of kept } ∷ row_items rest
row_items (more (child bounds page below) rest) =
    record { bounds = bounds; reference = page; tag = 0 } ∷ row_items rest

-- how many entries there are
abbrev pub row_length : Row → ℕ
row_length end = 0
row_length (more branch rest) = 1 + row_length rest

-- the entries are those of a node on this level: objects on level 0, and above it children, each one level
-- lower
abbrev pub RowOnLevel : ℕ → Row → Type 0
RowOnLevel level end = ⊤
RowOnLevel level (more (object kept id) rest) = (level ≡ 0) × RowOnLevel level rest
RowOnLevel level (more (child bounds page below) rest) = (0 < level) × RowOnLevel (level - 1) below
    × RowOnLevel level rest

-- ---- what a tree holds

-- the objects in the leaves from left to right, each an identifier and what is kept of it
abbrev pub objects_in : Row → List (ℕ × Object)
objects_in end = []
objects_in (more (object kept id) rest) = (id, kept) ∷ objects_in rest
objects_in (more (child bounds page below) rest) = objects_in below ++ objects_in rest

-- the identifiers of a leaf, by position
abbrev pub ids_in : Row → List ℕ
ids_in end = []
ids_in (more (object kept id) rest) = id ∷ ids_in rest
ids_in (more (child bounds page below) rest) = ids_in rest

-- the identifiers of each leaf below a node of this level, from left to right; a node on level 0 is a leaf
-- itself
abbrev pub leaf_ids : ℕ → Row → List (List ℕ)
leaf_ids zero row = ids_in row ∷ []
leaf_ids (suc level) end = []
leaf_ids (suc level) (more (object kept id) rest) = leaf_ids (suc level) rest
leaf_ids (suc level) (more (child bounds page below) rest) = leaf_ids level below ++ leaf_ids (suc level) rest

-- how often a page occurs below a node
abbrev pub occurs : ℕ → Row → ℕ
occurs n end = 0
occurs n (more (object kept id) rest) = occurs n rest
occurs n (more (child bounds page below) rest) = (if page == n then 1 else 0) + occurs n below + occurs n rest

-- and in the whole tree
abbrev pub occurs_in : ℕ → Tree → ℕ
occurs_in n t = (if t.page == n then 1 else 0) + occurs n t.row

-- ---- one node replaced

-- the entries below, with those of the node at this page replaced
abbrev pub with_node : ℕ → Row → Row → Row
with_node page new end = end
with_node page new (more (object kept id) rest) = more (object kept id) (with_node page new rest)
with_node page new (more (child bounds q below) rest) =
    more (child bounds q (if q == page then new else with_node page new below)) (with_node page new rest)

-- the same for a whole tree
abbrev pub tree_with_node : Tree → ℕ → Row → Tree
tree_with_node t page new =
    record { page = t.page; level = t.level; row = if t.page == page then new else with_node page new t.row }
