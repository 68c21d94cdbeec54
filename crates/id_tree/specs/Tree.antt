-- Identifier trees, and the pages that they stand in (our format, docs/FORMAT.md): a root and further forks,
-- and leaves with the objects.
use Rattle.std.specs.Prelude.{◌≡◌, ℕ, ◌+◌, ◌-◌, ◌<◌, ◌≤◌, Bool, true, false, List, [], ◌∷◌, ◌++◌, length, All}
use Rattle.std.specs.Prelude.{Option, Some, ⊤, if◌then◌else◌, ◌==◌, option_and_then}
use Rattle.std.specs.FinMap.{FinMap, from_entries}
use Rattle.std.specs.Ordering.{nat_cmp}
use Rattle.box_math.specs.Objects.{Object}
use Rattle.bucket_page.specs.Layout.{Entry}
use Rattle.id_page.specs.Fork.{ForkContent, Link, fork_at}
use Rattle.id_page.specs.Leaf.{leaf_at}
use Rattle.id_words.specs.Objects.{times_in}
use Rattle.node_page.specs.Parts.{Part}
use Rattle.node_page.specs.Standing.{PageMap}

-- What a node has, in order of position: a leaf (level 0) objects, a fork children, each with its key, its
-- page and what it has itself.
mutual
  pub data Row : Type 0 where
    end : Row
    more : Branch → Row → Row

  pub data Branch : Type 0 where
    object : ℕ → Object → Branch
    child : ℕ → ℕ → Row → Branch

-- a table: the page and the level of its root, which is a fork, and what the root has
pub record IdTree : Type 0 where
  pub page : ℕ
  pub level : ℕ
  pub row : Row

-- ---- what it holds

-- the objects, leaf after leaf
abbrev pub objects_in : Row → List Entry
objects_in end = []
objects_in (more (object id kept) rest) = (id, kept) ∷ objects_in rest
objects_in (more (child key page below) rest) = objects_in below ++ objects_in rest

-- as a map from identifier to what is kept of the object
abbrev pub objects_of : IdTree → FinMap nat_cmp Object
objects_of t = from_entries (objects_in t.row)

-- how often a page occurs below a node, and in the whole tree
abbrev pub occurs : ℕ → Row → ℕ
occurs n end = 0
occurs n (more (object id kept) rest) = occurs n rest
occurs n (more (child key page below) rest) = (if page == n then 1 else 0) + occurs n below + occurs n rest

abbrev pub occurs_in : ℕ → IdTree → ℕ
occurs_in n t = (if t.page == n then 1 else 0) + occurs n t.row

-- its part of the pages
abbrev pub part_of : IdTree → Part
part_of t n = occurs_in n t

-- ---- the pages that it stands in

-- the leaf and the fork in a page, if it is there and spells one
abbrev pub leaf_in : ℕ → Option (List ℕ) → Option (List Entry)
leaf_in dims page = option_and_then (leaf_at dims) page

abbrev pub fork_in : ℕ → Option (List ℕ) → Option ForkContent
fork_in dims page = option_and_then (fork_at dims) page

-- the children of a fork as its page has them
abbrev pub links_of : Row → List Link
links_of end = []
links_of (more (object id kept) rest) = links_of rest
links_of (more (child key page below) rest) = (key, page) ∷ links_of rest

-- a page has a leaf or a fork with this row
pub record HasNode (dims : ℕ) (pages : PageMap) (page level : ℕ) (row : Row) : Type 0 where
  pub leaf : level ≡ 0 → leaf_in dims (pages page) ≡ Some (objects_in row)
  pub fork : 0 < level → fork_in dims (pages page) ≡ Some (record { level = level; links = links_of row })

-- the nodes below one of this level stand in the pages, each with some object: it has objects on level 0, and
-- children above it
abbrev pub RowStands : ℕ → PageMap → ℕ → Row → Type 0
RowStands dims pages level end = ⊤
RowStands dims pages level (more (object id kept) rest) = (level ≡ 0) × RowStands dims pages level rest
RowStands dims pages level (more (child key page below) rest) =
    (0 < level) × (2 < page) × (0 < length (objects_in below)) × HasNode dims pages page (level - 1) below
    × RowStands dims pages (level - 1) below × RowStands dims pages level rest

-- The key of the next child parts a child's objects from all behind: these have lesser identifiers, and those
-- have none.
abbrev pub Parts : List Entry → Row → Type 0
Parts objects end = ⊤
Parts objects (more (object id kept) rest) = ⊤
Parts objects (more (child key page below) rest) =
    All (λ o. o.0 < key) objects × All (λ o. key ≤ o.0) (objects_in (more (child key page below) rest))

-- it does so at each child
abbrev pub IsParted : Row → Type 0
IsParted end = ⊤
IsParted (more (object id kept) rest) = IsParted rest
IsParted (more (child key page below) rest) = IsParted below × Parts (objects_in below) rest × IsParted rest

-- ---- how full the pages are

-- a quarter of the places of a leaf, and of a fork
unfoldable pub least_objects : ℕ → ℕ
least_objects dims = if dims == 2 then 37 else 29

abbrev pub least_children : ℕ
least_children = 85

-- at least a quarter of the places of a node are taken
pub record IsLarge (dims level : ℕ) (row : Row) : Type 0 where
  pub leaf : level ≡ 0 → least_objects dims ≤ length (objects_in row)
  pub fork : 0 < level → least_children ≤ length (links_of row)

-- whether a child is at the edge of the tree: the last one of a node that is there
abbrev pub at_edge : Bool → Row → Bool
at_edge edge end = edge
at_edge edge (more branch rest) = false

-- each node below is large, but for those at the edge: they take what ascends
abbrev pub IsFilled : ℕ → ℕ → Bool → Row → Type 0
IsFilled dims level edge end = ⊤
IsFilled dims level edge (more (object id kept) rest) = IsFilled dims level edge rest
IsFilled dims level edge (more (child key page below) rest) =
    (at_edge edge rest ≡ false → IsLarge dims (level - 1) below)
    × IsFilled dims (level - 1) (at_edge edge rest) below
    × IsFilled dims level edge rest

-- the greatest level of a root: a tree with one level more would have more pages than there are numbers
abbrev pub most_levels : ℕ
most_levels = 6

-- the pages stand for the table: no identifier and no page is in it twice, and a root above others has two
-- children
pub record TreeStands (dims : ℕ) (pages : PageMap) (t : IdTree) : Type 0 where
  pub low : 2 < t.page
  pub high : 0 < t.level
  pub bounded : t.level ≤ most_levels
  pub root : HasNode dims pages t.page t.level t.row
  pub below : RowStands dims pages t.level t.row
  pub parted : IsParted t.row
  pub filled : IsFilled dims t.level true t.row
  pub wide : 1 < t.level → 2 ≤ length (links_of t.row)
  pub single : (id : ℕ) → times_in id (objects_in t.row) ≤ 1
  pub once : (n : ℕ) → occurs_in n t ≤ 1
