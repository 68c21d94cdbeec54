-- Two neighbouring nodes made one, or cut in two again elsewhere.
use Rattle.std.specs.Prelude.{◌≡◌, ℕ, ◌+◌, ◌-◌, ◌*◌, ◌/◌, ◌<◌, ◌≤◌, Bool, true, false, List, [], ◌∷◌, ◌++◌}
use Rattle.std.specs.Prelude.{length, remove, slice_index_or, slice_set, All, Some, None, IsSome, nat_lt}
use Rattle.std.specs.Prelude.{if◌then◌else◌}
use Rattle.block_bytes.specs.Numbers.{number_at}
use Rattle.id_page.specs.Fork.{ForkContent, Link, fork_at, route_place, with_links}
use Rattle.id_page.specs.Leaf.{most_objects}
use Rattle.id_words.specs.Objects.{kept_in, times_in}
use Rattle.page_file.specs.Pages.{SameBut}
use Rattle.node_page.specs.Parts.{Moves}
use Rattle.node_page.specs.Standing.{PageMap}
use Rattle.id_tree.specs.Rows.{At, NodeStands, Passes, Stops, joined, part_at}
use Rattle.id_tree.specs.Steps.{Keeps, MakesRoom}
use Rattle.id_tree.specs.Tidy.{AreAsTidy, IsAsTidy}
use Rattle.id_tree.specs.Cutting.{Cuts}
use Rattle.id_tree.specs.Tree.{IdTree, IsLarge, Row, TreeStands, end, more, object, child, at_edge, fork_in}
use Rattle.id_tree.specs.Tree.{least_children, least_objects, links_of, objects_in}

-- ---- nodes with enough

-- a node that has some and is as large as it has to be also after it lost one object or child
pub record HasSpare (dims level : ℕ) (edge : Bool) (row : Row) : Type 0 where
  pub leaf : level ≡ 0 → 1 < length (objects_in row)
  pub fork : 0 < level → 1 < length (links_of row)
  pub large_leaf : level ≡ 0 → edge ≡ false → least_objects dims < length (objects_in row)
  pub large_fork : 0 < level → edge ≡ false → least_children < length (links_of row)

-- a node that has two fifths of what fits, or more
pub record IsAmple (dims level : ℕ) (row : Row) : Type 0 where
  pub leaf : level ≡ 0 → most_objects dims * 2 / 5 ≤ length (objects_in row)
  pub fork : 0 < level → 136 ≤ length (links_of row)

-- a node with spare, without an identifier twice
pub record MayShrink (dims : ℕ) (pages : PageMap) (page level : ℕ) (edge : Bool) (row : Row) : Type 0 where
  pub stands : NodeStands dims pages page level edge row
  pub spare : HasSpare dims level edge row
  pub single : (q : ℕ) → times_in q (objects_in row) ≤ 1

-- it has the identifier
abbrev pub Has : ℕ → Row → Type 0
Has id row = ¬ (kept_in id (objects_in row) ≡ None)

-- ---- two children next to one another

-- a row has these pages as those of two children next to one another, and the way to an identifier leads to
-- one of them
pub record AtPair (id first second : ℕ) (row : Row) : Type 0 where
  pub front : Row
  pub key : ℕ
  pub one : Row
  pub between : ℕ
  pub two : Row
  pub rest : Row
  pub is : row ≡ joined front (more (child key first one) (more (child between second two) rest))
  pub passes : Passes id front key
  pub stops : Stops id rest

-- what a fork page says of them: the place of the first one, the key of the second one, and whether that one
-- is at the edge of the tree
pub record IsPair (dims level : ℕ) (edge : Bool) (row : Row) (id : ℕ) (fork : List ℕ)
    (left first second key : ℕ) (last : Bool) : Type 0 where
  pub at : AtPair id first second row
  pub fork_is : fork_at dims fork ≡ Some (record { level = level; links = links_of row })
  pub left_is : left ≡ length (links_of at.front)
  pub key_is : key ≡ at.between
  pub last_is : last ≡ at_edge edge at.rest

-- such a fork, and two of its children
pub record MayJoin (dims : ℕ) (pages : PageMap) (page level : ℕ) (edge : Bool) (row : Row) (id : ℕ)
    (fork : List ℕ) (left first second key : ℕ) (last : Bool) : Type 0 where
  pub stands : NodeStands dims pages page level edge row
  pub high : 0 < level
  pub single : (q : ℕ) → times_in q (objects_in row) ≤ 1
  pub pair : IsPair dims level edge row id fork left first second key last
  pub tidy : IsAsTidy dims pages fork

-- a fork of two children or more, and the page and the place of the one where an identifier is
pub record MayMeet (dims : ℕ) (pages : PageMap) (page level : ℕ) (edge : Bool) (row : Row)
    (id child place : ℕ) : Type 0 where
  pub stands : NodeStands dims pages page level edge row
  pub high : 0 < level
  pub wide : 1 < length (links_of row)
  pub single : (q : ℕ) → times_in q (objects_in row) ≤ 1
  pub way : At id child row
  pub place_is : place ≡ route_place id (links_of row)

-- the place of the first one of two children next to one another, of which one is in that place
pub record IsBeside (left place : ℕ) (row : Row) : Type 0 where
  pub from : left ≤ place
  pub upto : place ≤ left + 1
  pub within : left + 1 < length (links_of row)

-- two nodes of one level next to one another: a key parts their objects, and no page and no identifier is in
-- both
pub record AreNeighbours (dims : ℕ) (pages : PageMap) (level : ℕ) (edge : Bool) (first second key : ℕ)
    (one two : Row) : Type 0 where
  pub one_stands : NodeStands dims pages first level false one
  pub two_stands : NodeStands dims pages second level edge two
  pub one_some : 0 < length (objects_in one)
  pub two_some : 0 < length (objects_in two)
  pub one_large : IsLarge dims level one
  pub two_large : edge ≡ false → IsLarge dims level two
  pub lesser : All (λ o. o.0 < key) (objects_in one)
  pub from : All (λ o. key ≤ o.0) (objects_in two)
  pub single : (q : ℕ) → times_in q (objects_in one ++ objects_in two) ≤ 1
  pub once : (n : ℕ) → part_at first one n + part_at second two n ≤ 1

-- ---- what they have together

-- children, the first one with another key
abbrev pub with_key : ℕ → List Link → List Link
with_key key [] = []
with_key key (x ∷ xs) = (key, x.1) ∷ xs

abbrev pub rekeyed : ℕ → Row → Row
rekeyed key end = end
rekeyed key (more (object id kept) rest) = more (object id kept) (rekeyed key rest)
rekeyed key (more (child k page below) rest) = more (child key page below) rest

-- what two neighbours have, in order: the key between them becomes that of the first child of the second one
abbrev pub met : ℕ → Row → Row → Row
met key one two = joined one (rekeyed key two)

-- it fits into one page, or it does not
pub record FitTogether (dims level : ℕ) (one two : Row) : Type 0 where
  pub leaf : level ≡ 0 → length (objects_in one) + length (objects_in two) ≤ most_objects dims
  pub fork : 0 < level → length (links_of one) + length (links_of two) ≤ 340

pub record AreTooMany (dims level : ℕ) (one two : Row) : Type 0 where
  pub leaf : level ≡ 0 → most_objects dims < length (objects_in one) + length (objects_in two)
  pub fork : 0 < level → 340 < length (links_of one) + length (links_of two)

-- two leaves have so few objects together that each half of them leaves room for one more
pub record LeaveRoom (dims level : ℕ) (one two : Row) : Type 0 where
  pub low : level ≡ 0
  pub few : length (objects_in one) + length (objects_in two) + 2 ≤ most_objects dims + most_objects dims

-- two pages say that they have less than fits
pub record HaveRoom (dims : ℕ) (first second : List ℕ) : Type 0 where
  pub few_first : number_at 2 2 first < most_objects dims
  pub few_second : number_at 2 2 second < most_objects dims

-- a fork, and two of its children, which are leaves: too much for one page, and so little that both have room
-- once they shared it
pub record MayShare (dims : ℕ) (pages : PageMap) (page level : ℕ) (edge : Bool) (row : Row) (id : ℕ)
    (fork : List ℕ) (left first second key : ℕ) (last : Bool) : Type 0 where
  pub join : MayJoin dims pages page level edge row id fork left first second key last
  pub many : AreTooMany dims (level - 1) join.pair.at.one join.pair.at.two
  pub room : LeaveRoom dims (level - 1) join.pair.at.one join.pair.at.two

-- A child where an identifier is may share with each neighbour that it has: what both have is too much for
-- one page, and no more than fits into one and four fifths of that.
abbrev pub MayShareEach : ℕ → ℕ → ℕ → Row → Type 0
MayShareEach dims level id row = (first second : ℕ) (at : AtPair id first second row)
    → AreTooMany dims level at.one at.two
    × (length (objects_in at.one) + length (objects_in at.two)
    ≤ most_objects dims + most_objects dims * 4 / 5)

-- of both neighbours of the child in a place, the pages of which these are, the one that says less, or the
-- one before it where both say as much: the place of the first one of the two children
abbrev pub emptier_left : ℕ → List ℕ → List ℕ → ℕ
emptier_left place before behind =
    if nat_lt (number_at 2 2 behind) (number_at 2 2 before) then place else place - 1

-- the pages of all children are live
abbrev pub HasChildren : PageMap → List Link → Type 0
HasChildren pages links =
    (k : ℕ) (other : Link) → k < length links → IsSome (pages (slice_index_or links k other).1)

-- two pages say that they have more than a node has to have
pub record IsBalanced (dims level : ℕ) (first second : List ℕ) : Type 0 where
  pub first_leaf : level ≡ 0 → least_objects dims < number_at 2 2 first
  pub first_fork : 0 < level → least_children < number_at 2 2 first
  pub second_leaf : level ≡ 0 → least_objects dims < number_at 2 2 second
  pub second_fork : 0 < level → least_children < number_at 2 2 second

-- what both have was cut in two, with more in each half than has to be, and room where they had few enough
pub record CutsBoth (dims : ℕ) (pages : PageMap) (level : ℕ) (edge : Bool) (key : ℕ) (one two : Row)
    (middle : ℕ) (first second : List ℕ) : Type 0 where
  pub cuts : Cuts dims level edge (met key one two) middle first second
  pub balanced : IsBalanced dims level first second
  pub roomy : LeaveRoom dims level one two → HaveRoom dims first second
  pub tidy : AreAsTidy dims pages first second

-- ---- what is written

-- two live pages, of which the second one is no page that is never freed
pub record MayFree (pages : PageMap) (first second : ℕ) : Type 0 where
  pub first_live : IsSome (pages first)
  pub second_live : IsSome (pages second)
  pub apart : ¬ (first ≡ second)
  pub low : 2 < second

-- beside a live page of their own
pub record AreApart (pages : PageMap) (page first second : ℕ) : Type 0 where
  pub both : MayFree pages first second
  pub live : IsSome (pages page)
  pub not_first : ¬ (page ≡ first)
  pub not_second : ¬ (page ≡ second)

-- the first one has these bytes, and the second one is no longer live
pub record PutsAndFrees (old new : PageMap) (first second : ℕ) (bytes : List ℕ) : Type 0 where
  pub others : (n : ℕ) → ¬ (n ≡ first) → ¬ (n ≡ second) → new n ≡ old n
  pub there : new first ≡ Some bytes
  pub gone : new second ≡ None

-- both have these bytes
pub record PutsBoth (old new : PageMap) (first second : ℕ) (one two : List ℕ) : Type 0 where
  pub others : (n : ℕ) → ¬ (n ≡ first) → ¬ (n ≡ second) → new n ≡ old n
  pub there_first : new first ≡ Some one
  pub there_second : new second ≡ Some two

-- The first page has all, the second one is free, and then their fork names the first one alone.
pub record Joins (dims : ℕ) (old new : PageMap) (page first second place : ℕ) (fork all : List ℕ) : Type 0
  where
    pub mid : PageMap
    pub puts : PutsAndFrees old mid first second all
    pub rest : SameBut page mid new
    pub named : (c : ForkContent) → fork_at dims fork ≡ Some c
        → fork_in dims (new page) ≡ Some (with_links c (remove c.links place))

-- Both pages have their shares, and then their fork has the key between these.
pub record Shares (dims : ℕ) (old new : PageMap) (page first second place key : ℕ)
    (fork one two : List ℕ) : Type 0 where
  pub mid : PageMap
  pub puts : PutsBoth old mid first second one two
  pub rest : SameBut page mid new
  pub named : (c : ForkContent) (other : Link) → fork_at dims fork ≡ Some c → place < length c.links
      → fork_in dims (new page) ≡ Some
      (with_links c (slice_set c.links place (key, (slice_index_or c.links place other).1)))

-- the node has the same objects, and enough in the child where an identifier is
pub record MakesSpare (dims : ℕ) (old new : PageMap) (page level : ℕ) (edge : Bool) (row : Row) (id below : ℕ)
    (last : Bool) : Type 0 where
  pub now : Row
  pub stands : NodeStands dims new page level edge now
  pub keeps : Keeps (objects_in row) (objects_in now)
  pub wide : length (links_of row) ≤ length (links_of now) + 1
  pub moves : Moves old new (part_at page row) (part_at page now)
  pub way : At id below now
  pub spare : HasSpare dims (level - 1) last way.below
  pub last_is : last ≡ at_edge edge way.rest

-- and room in it too, where both children had few enough
pub record SharesOut (dims : ℕ) (old new : PageMap) (page level : ℕ) (edge : Bool) (row : Row) (id : ℕ)
    (AreFew : Type 0) (below : ℕ) (last : Bool) : Type 0 where
  pub spare : MakesSpare dims old new page level edge row id below last
  pub room : AreFew → MakesRoom dims old new page level edge row id below last

-- ---- the root

-- a table whose root, of this level, has two children or more
pub record IsAmong (dims : ℕ) (pages : PageMap) (t : IdTree) (level : ℕ) : Type 0 where
  pub stands : TreeStands dims pages t
  pub level_is : level ≡ t.level
  pub wide : 1 < length (links_of t.row)

-- a table whose root has this leaf as its only child
pub record IsOnly (dims : ℕ) (pages : PageMap) (t : IdTree) (leaf : ℕ) : Type 0 where
  pub stands : TreeStands dims pages t
  pub level_is : t.level ≡ 1
  pub key : ℕ
  pub below : Row
  pub is : t.row ≡ more (child key leaf below) end

-- the root has the bytes of a child, which is no longer live
pub record Lifts (old new : PageMap) (root child : ℕ) : Type 0 where
  pub bytes : List ℕ
  pub was : old child ≡ Some bytes
  pub puts : PutsAndFrees old new root child bytes

-- a root of some children, maybe one alone above others
pub record MayLower (dims : ℕ) (pages : PageMap) (root level : ℕ) (row : Row) : Type 0 where
  pub stands : NodeStands dims pages root level true row
  pub high : 0 < level
  pub some : 0 < length (links_of row)

-- A root became one with two children or of level 1, its only child in its place as long as it had one above
-- others: it has the same objects.
pub record Lowers (dims : ℕ) (old new : PageMap) (root level : ℕ) (row : Row) : Type 0 where
  pub height : ℕ
  pub now : Row
  pub high : 0 < height
  pub low : height ≤ level
  pub stands : NodeStands dims new root height true now
  pub objects : objects_in now ≡ objects_in row
  pub wide : 1 < height → 2 ≤ length (links_of now)
  pub moves : Moves old new (part_at root row) (part_at root now)
