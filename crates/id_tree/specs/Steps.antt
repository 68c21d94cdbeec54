-- What the steps of a change make of nodes and of their objects.
use Rattle.std.specs.Prelude.{◌≡◌, ℕ, ◌+◌, ◌-◌, ◌<◌, ◌≤◌, Bool, true, false, List, length, All, Option, Some}
use Rattle.std.specs.Prelude.{None, if◌then◌else◌, ◌==◌}
use Rattle.box_math.specs.Objects.{Object}
use Rattle.bucket_page.specs.Layout.{Entry}
use Rattle.id_page.specs.Fork.{route_place}
use Rattle.node_page.specs.Parts.{Moves}
use Rattle.node_page.specs.Standing.{PageMap}
use Rattle.id_words.specs.Objects.{kept_in, times_in}
use Rattle.id_tree.specs.Rows.{At, HasRoom, IsFull, NodeStands, part_at}
use Rattle.id_tree.specs.Tree.{IdTree, IsLarge, TreeStands, Row, at_edge, links_of, objects_in}

-- objects stand in another order, or others stand for them: what is kept of all identifiers is the same
pub record Keeps (old new : List Entry) : Type 0 where
  pub kept : (q : ℕ) → kept_in q new ≡ kept_in q old
  pub times : (q : ℕ) → times_in q new ≡ times_in q old
  pub below : (key : ℕ) → All (λ o. o.0 < key) old → All (λ o. o.0 < key) new
  pub from : (key : ℕ) → All (λ o. key ≤ o.0) old → All (λ o. key ≤ o.0) new

-- what happens to one identifier: an object comes, is put in place of one, or goes
pub data Step : Type 0 where
  adds : Object → Step
  puts : Object → Step
  drops : Step

-- what is kept of it then
abbrev pub kept_after : Step → Option Object
kept_after (adds kept) = Some kept
kept_after (puts kept) = Some kept
kept_after drops = None

-- how many objects come, and how many go
abbrev pub come : Step → ℕ
come (adds kept) = 1
come (puts kept) = 0
come drops = 0

abbrev pub gone : Step → ℕ
gone (adds kept) = 0
gone (puts kept) = 0
gone drops = 1

-- objects after such a step, wherever they stand
pub record Turns (id : ℕ) (step : Step) (old new : List Entry) : Type 0 where
  pub kept : (q : ℕ) → kept_in q new ≡ (if id == q then kept_after step else kept_in q old)
  pub times : (q : ℕ) → times_in q new + (if id == q then gone step else 0) ≡ times_in q
      old + (if id == q then come step else 0)
  pub below : (key : ℕ) → All (λ o. o.0 < key) old → id < key → All (λ o. o.0 < key) new
  pub from : (key : ℕ) → All (λ o. key ≤ o.0) old → key ≤ id → All (λ o. key ≤ o.0) new

-- a node became another one at its page by such a step, with some object, and as large as one at that place
-- has to be
pub record Becomes (dims : ℕ) (old new : PageMap) (page level : ℕ) (edge : Bool) (row : Row) (id : ℕ)
    (step : Step) : Type 0 where
  pub now : Row
  pub stands : NodeStands dims new page level edge now
  pub turns : Turns id step (objects_in row) (objects_in now)
  pub some : 0 < length (objects_in now)
  pub large : edge ≡ false → IsLarge dims level now
  pub wide : length (links_of row) ≤ length (links_of now) + gone step
  pub moves : Moves old new (part_at page row) (part_at page now)

-- the node has the same objects, and room in the child where an identifier is
pub record MakesRoom (dims : ℕ) (old new : PageMap) (page level : ℕ) (edge : Bool) (row : Row) (id below : ℕ)
    (last : Bool) : Type 0 where
  pub now : Row
  pub stands : NodeStands dims new page level edge now
  pub keeps : Keeps (objects_in row) (objects_in now)
  pub wide : length (links_of row) ≤ length (links_of now)
  pub moves : Moves old new (part_at page row) (part_at page now)
  pub way : At id below now
  pub room : HasRoom dims (level - 1) way.below
  pub last_is : last ≡ at_edge edge way.rest

-- and a child more: the halves of one that was full
pub record MakesHalves (dims : ℕ) (old new : PageMap) (page level : ℕ) (edge : Bool) (row : Row)
    (id below : ℕ) (last : Bool) : Type 0 where
  pub room : MakesRoom dims old new page level edge row id below last
  pub wider : length (links_of row) + 1 ≤ length (links_of room.now)

-- a node of some objects and with room, without an identifier twice
pub record MayGrow (dims : ℕ) (pages : PageMap) (page level : ℕ) (edge : Bool) (row : Row) : Type 0 where
  pub stands : NodeStands dims pages page level edge row
  pub room : HasRoom dims level row
  pub some : 0 < length (objects_in row)
  pub large : edge ≡ false → IsLarge dims level row
  pub single : (q : ℕ) → times_in q (objects_in row) ≤ 1

-- a row has a child where an identifier is, with this page, in this place, at the edge or not, and with room
-- or full
pub record IsBeneath (dims level : ℕ) (edge : Bool) (row : Row) (id child place : ℕ) (last room : Bool) : Type
    0 where
  pub way : At id child row
  pub place_is : place ≡ route_place id (links_of row)
  pub last_is : last ≡ at_edge edge way.rest
  pub has_room : room ≡ true → HasRoom dims (level - 1) way.below
  pub is_full : room ≡ false → IsFull dims (level - 1) way.below

-- a fork with room for a child more, and the page and the place of its full child where the identifier is
pub record MaySplit (dims : ℕ) (pages : PageMap) (page level : ℕ) (edge : Bool) (row : Row)
    (id child place : ℕ) (last : Bool) : Type 0 where
  pub stands : NodeStands dims pages page level edge row
  pub high : 0 < level
  pub room : length (links_of row) < 340
  pub single : (q : ℕ) → times_in q (objects_in row) ≤ 1
  pub way : At id child row
  pub full : IsFull dims (level - 1) way.below
  pub place_is : place ≡ route_place id (links_of row)
  pub last_is : last ≡ at_edge edge way.rest

-- a root with a full child at its edge alone, where the identifier is
abbrev pub IsFullBelow : ℕ → PageMap → ℕ → ℕ → Row → ℕ → ℕ → Type 0
IsFullBelow dims pages page level row id child = MaySplit dims pages page level true row id child 0 true

-- a root became another one by such a step, with a child more
pub record Widens (dims : ℕ) (old new : PageMap) (page level : ℕ) (row : Row) (id : ℕ) (step : Step) : Type 0
  where
    pub becomes : Becomes dims old new page level true row id step
    pub wider : length (links_of row) + 1 ≤ length (links_of becomes.now)

-- a full node, without an identifier twice
pub record MayHalve (dims : ℕ) (pages : PageMap) (page level : ℕ) (edge : Bool) (row : Row) : Type 0 where
  pub stands : NodeStands dims pages page level edge row
  pub full : IsFull dims level row
  pub single : (q : ℕ) → times_in q (objects_in row) ≤ 1

-- a table whose root, of this level, takes no child more
pub record IsFullTree (dims : ℕ) (pages : PageMap) (t : IdTree) (level : ℕ) : Type 0 where
  pub stands : TreeStands dims pages t
  pub level_is : level ≡ t.level
  pub full : 340 ≤ length (links_of t.row)
