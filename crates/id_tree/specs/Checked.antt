-- What a check of an identifier tree finds.
use Rattle.std.specs.Prelude.{◌≡◌, ◌⊎◌, ◌&&◌, ◌==◌, ℕ, Bool, false, ◌+◌, ◌-◌, ◌<◌, ◌≤◌, List, [], ◌∷◌, ◌++◌}
use Rattle.std.specs.Prelude.{All, Option, Some, None, length, slice_index_or, take}
use Rattle.std.specs.BTreeSet.{BTreeSet}
use Rattle.bucket_page.specs.Layout.{Entry}
use Rattle.id_page.specs.Fork.{ForkContent, Link, fork_at}
use Rattle.id_page.specs.Leaf.{HasLeafHead, leaf_at}
use Rattle.id_words.specs.Seen.{seen_times}
use Rattle.id_words.specs.Objects.{times_in}
use Rattle.node_page.specs.Checked.{named_pages}
use Rattle.node_page.specs.Standing.{PageMap}
use Rattle.id_tree.specs.Tree.{HasNode, IdTree, IsFilled, IsLarge, IsParted, Row, RowStands, TreeStands}
use Rattle.id_tree.specs.Tree.{fork_in, least_children, least_objects, links_of, objects_in, occurs, part_of}

-- the pages stand for a table with its root at this page, with these objects leaf after leaf, and with these
-- pages
pub record IsCheckedTable (dims : ℕ) (pages : PageMap) (root : ℕ) (pairs : List Entry) (list : List ℕ) : Type
    0 where
  pub table : IdTree
  pub page_is : table.page ≡ root
  pub stands : TreeStands dims pages table
  pub pairs_are : pairs ≡ objects_in table.row
  pub pages_are : (n : ℕ) → named_pages list n ≡ part_of table n

-- the greatest number of 64 bits
abbrev pub most_identifier : ℕ
most_identifier = 18446744073709551615

-- ---- its steps

-- objects of a leaf were appended to those before: each identifier is one of these, and was not seen before
pub record AddsObjects (low top : ℕ) (objects pairs_before pairs : List Entry)
    (seen_before seen : BTreeSet ℕ) : Type 0 where
  pub pairs_are : pairs ≡ pairs_before ++ objects
  pub from : All (λ o. low ≤ o.0) objects
  pub upto : All (λ o. o.0 ≤ top) objects
  pub seen_are : (id : ℕ) → seen_times seen id ≡ seen_times seen_before id + times_in id objects

-- a page is a leaf with enough objects, which were appended
pub record FindsLeaf (dims : ℕ) (edge : Bool) (low top : ℕ) (page : List ℕ) (pairs_before pairs : List Entry)
    (seen_before seen : BTreeSet ℕ) : Type 0 where
  pub objects : List Entry
  pub is : leaf_at dims page ≡ Some objects
  pub some : 0 < length objects
  pub large : edge ≡ false → least_objects dims ≤ length objects
  pub adds : AddsObjects low top objects pairs_before pairs seen_before seen

-- objects that may be those of a leaf, beside what was seen
pub record MayBeLeaf (dims : ℕ) (edge : Bool) (low top : ℕ) (objects : List Entry) (seen : BTreeSet ℕ) : Type
    0 where
  pub some : 0 < length objects
  pub large : edge ≡ false → least_objects dims ≤ length objects
  pub from : All (λ o. low ≤ o.0) objects
  pub upto : top < most_identifier → All (λ o. o.0 ≤ top) objects
  pub single : (id : ℕ) → seen_times seen id + times_in id objects ≤ 1

-- a page is a fork of this level with enough children
pub record FindsFork (dims level : ℕ) (edge : Bool) (page : List ℕ) : Type 0 where
  pub links : List Link
  pub is : fork_at dims page ≡ Some (record { level = level; links = links })
  pub some : 0 < length links
  pub large : edge ≡ false → least_children ≤ length links

-- the identifiers of the child in a place are from one to another, where those of the fork are from one to
-- another
pub record IsRange (links : List Link) (place low top from upto : ℕ) : Type 0 where
  pub first : place ≡ 0 → from ≡ low
  pub later : 0 < place → (other : Link) → from ≡ (slice_index_or links place other).0
  pub last : place + 1 ≡ length links → upto ≡ top
  pub inner : place + 1 < length links → (other : Link)
      → upto + 1 ≡ (slice_index_or links (place + 1) other).0

-- a node stands, with identifiers from one on and with some object, as large as one in its place has to be
pub record StandsFrom (dims : ℕ) (pages : PageMap) (page level : ℕ) (edge : Bool) (low : ℕ) (row : Row) : Type
    0 where
  pub low_page : 2 < page
  pub node : HasNode dims pages page level row
  pub below : RowStands dims pages level row
  pub parted : IsParted row
  pub filled : IsFilled dims level edge row
  pub some : 0 < length (objects_in row)
  pub large : edge ≡ false → IsLarge dims level row
  pub from : All (λ o. low ≤ o.0) (objects_in row)

-- the objects and the pages below a node were appended to those before
pub record AddsRow (row : Row) (pairs_before pairs : List Entry) (list_before list : List ℕ)
    (seen_before seen : BTreeSet ℕ) : Type 0 where
  pub pairs_are : pairs ≡ pairs_before ++ objects_in row
  pub pages_are : (n : ℕ) → named_pages list n ≡ named_pages list_before n + occurs n row
  pub seen_are : (id : ℕ) → seen_times seen id ≡ seen_times seen_before id + times_in id (objects_in row)

-- a node was found to stand, and what is below it was appended
pub record AddsNode (dims : ℕ) (pages : PageMap) (page level : ℕ) (edge : Bool) (low top : ℕ)
    (pairs_before pairs : List Entry) (list_before list : List ℕ) (seen_before seen : BTreeSet ℕ) : Type 0
  where
    pub row : Row
    pub stands : StandsFrom dims pages page level edge low row
    pub upto : All (λ o. o.0 ≤ top) (objects_in row)
    pub adds : AddsRow row pairs_before pairs list_before list seen_before seen

-- a node that stands, with pages below it and with identifiers that were not seen
pub record MayAdd (dims : ℕ) (pages : PageMap) (page level : ℕ) (edge : Bool) (low top : ℕ) (row : Row)
    (list : List ℕ) (seen : BTreeSet ℕ) : Type 0 where
  pub stands : StandsFrom dims pages page level edge low row
  pub upto : top < most_identifier → All (λ o. o.0 ≤ top) (objects_in row)
  pub once : (n : ℕ) → named_pages list n + occurs n row ≤ 1
  pub single : (id : ℕ) → seen_times seen id + times_in id (objects_in row) ≤ 1

-- the first children of a fork were found to stand, and what is below them was appended
pub record AddsChildren (dims : ℕ) (pages : PageMap) (level : ℕ) (edge : Bool) (low top : ℕ)
    (links : List Link) (place : ℕ) (pairs_before pairs : List Entry) (list_before list : List ℕ)
    (seen_before seen : BTreeSet ℕ)
    : Type 0 where
  pub row : Row
  pub links_are : links_of row ≡ take place links
  pub below : RowStands dims pages level row
  pub parted : IsParted row
  pub filled : IsFilled dims level (edge && (place == length links)) row
  pub some : 0 < place → 0 < length (objects_in row)
  pub from : All (λ o. low ≤ o.0) (objects_in row)
  pub under : place < length links → (other : Link) → 0 < place
      → All (λ o. o.0 < (slice_index_or links place other).0) (objects_in row)
  pub upto : length links ≤ place → All (λ o. o.0 ≤ top) (objects_in row)
  pub adds : AddsRow row pairs_before pairs list_before list seen_before seen

-- a page is the root of a table: a fork of level 1 to 6, with two children where it is above others
pub record FindsRoot (dims level count : ℕ) (page : List ℕ) : Type 0 where
  pub links : List Link
  pub is : fork_at dims page ≡ Some (record { level = level; links = links })
  pub count_is : count ≡ length links
  pub high : 0 < level
  pub bounded : level ≤ 6
  pub wide : 1 < level → 2 ≤ count

-- ---- the page that is damaged where no such table stands

-- a fork names a page as that of a child
abbrev pub Names : ForkContent → ℕ → Type 0
Names c page = (place : ℕ) × (place < length c.links)
    × ((other : Link) → (slice_index_or c.links place other).1 ≡ page)

-- the fork at a page names another one as that of a child
abbrev pub NamesChild : ℕ → PageMap → ℕ → ℕ → Type 0
NamesChild dims pages page child = (c : ForkContent) × (fork_in dims (pages page) ≡ Some c) × Names c child

-- the page spells a fork of this level with so many children
abbrev pub SpellsFork : ℕ → PageMap → ℕ → ℕ → ℕ → Type 0
SpellsFork dims pages page level count =
    (c : ForkContent) × (fork_in dims (pages page) ≡ Some c) × (c.level ≡ level) × (length c.links ≡ count)

-- a walk leads from one page to another, each time to a page that the fork of the one before names
abbrev pub Leads : ℕ → PageMap → ℕ → List ℕ → ℕ → Type 0
Leads dims pages page [] last = last ≡ page
Leads dims pages page (next ∷ walk) last =
    NamesChild dims pages page next × Leads dims pages next walk last

-- some walk from a page comes to another
abbrev pub ComesInTree : ℕ → PageMap → ℕ → ℕ → Type 0
ComesInTree dims pages page last = (walk : List ℕ) × Leads dims pages page walk last

-- the place of an identifier that a search found is in no leaf, or in one that a walk from the root comes to
abbrev pub IsMet : ℕ → PageMap → ℕ → ℕ → Type 0
IsMet dims pages root leaf = (leaf ≡ 0) ⊎ ComesInTree dims pages root leaf

-- A walk goes down from a page by forks, each one level below the one before it, to a page of level 0, or to
-- a fork of no children.
abbrev pub GoesDown : ℕ → PageMap → ℕ → ℕ → List ℕ → Option ℕ → Type 0
GoesDown dims pages page level [] None = SpellsFork dims pages page level 0
GoesDown dims pages page level [] (Some leaf) = (level ≡ 0) × (leaf ≡ page)
GoesDown dims pages page level (next ∷ walk) leaf =
    (0 < level) × ((count : ℕ) × SpellsFork dims pages page level count) × NamesChild dims pages page next
    × GoesDown dims pages next (level - 1) walk leaf

abbrev pub ComesDown : ℕ → PageMap → ℕ → ℕ → Option ℕ → Type 0
ComesDown dims pages page level leaf = (walk : List ℕ) × GoesDown dims pages page level walk leaf

-- the page begins as a leaf
abbrev pub BeginsAsLeaf : ℕ → PageMap → ℕ → Type 0
BeginsAsLeaf dims pages page = (bytes : List ℕ) × (pages page ≡ Some bytes) × HasLeafHead dims bytes

-- a search came down from the root to a page that begins as a leaf, or, for leaf 0, to a fork of no children
abbrev pub IsReached : ℕ → PageMap → ℕ → ℕ → Type 0
IsReached dims pages root leaf =
    (level : ℕ) × (((leaf ≡ 0) × ComesDown dims pages root level None)
    ⊎ (ComesDown dims pages root level (Some leaf) × BeginsAsLeaf dims pages leaf))
