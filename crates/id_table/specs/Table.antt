-- Identifier tables of either kind, and the pages that they stand in (our rule, docs/FORMAT.md, "Identifier
-- tables").
use Rattle.std.specs.Prelude.{ℕ, ◌≡◌, ⊤, List, []}
use Rattle.std.specs.FinMap.{FinMap, from_entries}
use Rattle.std.specs.Ordering.{nat_cmp}
use Rattle.box_math.specs.Objects.{Object}
use Rattle.bucket_page.specs.Layout.{Entry}
use Rattle.id_chains.specs.Table as chains
use Rattle.id_chains.specs.Table.{IdChains, IdChainsStand}
use Rattle.id_tree.specs.Tree as trees
use Rattle.id_tree.specs.Rows.{IsLeafPlace}
use Rattle.id_tree.specs.Tree.{IdTree, TreeStands}
use Rattle.node_page.specs.Parts.{Part}
use Rattle.node_page.specs.Standing.{PageMap}
use Rattle.id_table.specs.declared.asking.Spot.{Spot}
use Rattle.id_table.specs.declared.asking.Spot.TheVariants.{InChain, InLeaf}
use Rattle.id_table.specs.declared.kind.TableKind.{TableKind}
use Rattle.id_table.specs.declared.kind.TableKind.TheVariants.{Chains, Tree}

-- a table is one of chains, or a tree
pub data IdTable : Type 0 where
  chained : IdChains → IdTable
  treed : IdTree → IdTable

abbrev pub kind_of : IdTable → TableKind
kind_of (chained t) = Chains
kind_of (treed t) = Tree

-- the page where it begins
abbrev pub page_of : IdTable → ℕ
page_of (chained t) = t.page
page_of (treed t) = t.page

-- the objects, page after page
abbrev pub entries_of : IdTable → List Entry
entries_of (chained t) = chains.entries_of t
entries_of (treed t) = trees.objects_in t.row

-- as a map from identifier to what is kept of the object
abbrev pub objects_of : IdTable → FinMap nat_cmp Object
objects_of t = from_entries (entries_of t)

-- how often a page occurs in it
abbrev pub occurs_in_ids : ℕ → IdTable → ℕ
occurs_in_ids n (chained t) = chains.occurs_in_ids n t
occurs_in_ids n (treed t) = trees.occurs_in n t

-- its part of the pages
abbrev pub part_of : IdTable → Part
part_of t n = occurs_in_ids n t

-- the pages stand for the table
abbrev pub IdsStand : ℕ → PageMap → IdTable → Type 0
IdsStand dims pages (chained t) = IdChainsStand dims pages t
IdsStand dims pages (treed t) = TreeStands dims pages t

-- a table that stands nowhere
abbrev pub no_table : IdTable
no_table = chained (record { page = 0; chains = [] })

-- the table has an identifier at this spot, or would get it there
abbrev pub IsSpot : IdTable → ℕ → Spot → Type 0
IsSpot (chained t) id InChain = ⊤
IsSpot (chained t) id (InLeaf at) = ⊥
IsSpot (treed t) id InChain = ⊥
IsSpot (treed t) id (InLeaf at) = IsLeafPlace t id at.leaf at.place

-- so does whatever table stands in the pages and begins at this one
abbrev pub IsSpotAt : ℕ → PageMap → ℕ → ℕ → Spot → Type 0
IsSpotAt dims pages page id spot =
    (t : IdTable) → page_of t ≡ page → IdsStand dims pages t → IsSpot t id spot
