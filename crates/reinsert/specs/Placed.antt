-- What the code has done where a placing is done below a node: the words of its inner contracts
-- (docs/RULES.md, "Insertion").
use Rattle.std.specs.Prelude.{◌≡◌, ℕ, ◌+◌, ◌-◌, ◌≤◌, Bool, List, [], ◌∷◌, ◌++◌, length, map}
use Rattle.std.specs.Prelude.{reverse, ⊤, ◌*◌, Option, Some, None, IsSome}
use Rattle.std.specs.Option.{option_map}
use Rattle.arrayvec.specs.ArrayVec.{array_vec_len}
use Rattle.tree_node.specs.declared.node.Entry.{Entry}
use Rattle.tree_node.specs.Nodes.{NodeContent, Item, item_of}
use Rattle.tree_node.specs.Trees.{Row, end, more, Branch, row_items, row_length}
use Rattle.tree_node.specs.Rows.{row_of, item_in, occurs_on, Waiter, occurs_waiting}
use Rattle.tree_node.specs.Boxes.{box_at, least_box, reference_at}
use Rattle.tree_node.specs.Shape.{RowHasShape}
use Rattle.node_page.specs.Changes.{AllWait}
use Rattle.node_page.specs.Standing.{PageMap, HasNode, RowStands, node_in}
use Rattle.node_bytes.specs.Enlarged.{set_box}
use Rattle.node_page.specs.Parts.{Moves}
use Rattle.choose_subtree.specs.Choice.{IsChosenChild}
use Rattle.reinsert.specs.declared.settled.Settled.{Settled}
use Rattle.reinsert.specs.declared.waiting.Wait.{Wait}
use Rattle.reinsert.specs.declared.waiting.Waiting.{Waiting as Room}
use Rattle.reinsert.specs.declared.way.Way.{Way}
use Rattle.reinsert.specs.Children.{occurs_at, Child, boxed}
use Rattle.reinsert.specs.Called.{free_levels}
use Rattle.reinsert.specs.Placing.{Outcome, Settles, Places}
use Rattle.box_math.specs.Bounds.{Bounds}
use Rattle.page_file.specs.Pages.{SameBut}

-- ---- what waits, as the code holds it

-- an entry that waits, without what its trees are
pub record Held : Type 0 where
  pub item : Item
  pub level : ℕ

abbrev pub held_of : {D : ℕ} → Wait D → Held
held_of wait = record { item = item_of wait.entry; level = wait.level }

abbrev pub held_with : {D : ℕ} → ℕ → Entry D → Held
held_with level entry = record { item = item_of entry; level = level }

abbrev pub held_in : Waiter → Held
held_in w = record { item = item_in w.branch; level = w.level }

-- the code holds these, the first to be placed last
abbrev pub Holds : {D : ℕ} → List (Wait D) → List Waiter → Type 0
Holds waits waiting = map held_of waits ≡ reverse (map held_in waiting)

-- what waits, and as much again as can wait for each level that is not called: no placing adds to it
abbrev pub measure_of : {D : ℕ} → Room D → ℕ
measure_of room = array_vec_len room.waits + 30 * free_levels room.called

-- ---- what stands

-- the node that was split off stands, if there is one
abbrev pub BesideStands : ℕ → PageMap → ℕ → Option Child → Type 0
BesideStands dims m level None = ⊤
BesideStands dims m level (Some c) = HasNode dims m c.page level c.row × RowStands dims m level c.row

abbrev pub occurs_beside : ℕ → Option Child → ℕ
occurs_beside n None = 0
occurs_beside n (Some c) = occurs_at c.page n c.row

-- how often a page occurs in what a node became
abbrev pub occurs_after : ℕ → Outcome → ℕ → ℕ
occurs_after page outcome n =
    occurs_at page n outcome.row + occurs_beside n outcome.beside + occurs_waiting n outcome.far

-- what a node became stands
pub record OutcomeStands (dims : ℕ) (m : PageMap) (page level : ℕ) (outcome : Outcome) : Type 0 where
  pub there : HasNode dims m page level outcome.row
  pub below : RowStands dims m level outcome.row
  pub beside : BesideStands dims m level outcome.beside
  pub far : AllWait dims m outcome.far

-- ---- what each step needs, and what it leaves

-- the code hands up what the node became, and has added what waits again
pub record Shows {D : ℕ} (dims : ℕ) (settled : Settled D) (waits waits' : List (Wait D)) (called' : List Bool)
    (outcome : Outcome) : Type 0 where
  pub bounds : settled.bounds ≡ least_box dims (row_items outcome.row)
  pub beside : option_map item_of settled.beside ≡ option_map (λ c. item_in (boxed dims c)) outcome.beside
  pub far : map held_of waits' ≡ map held_of waits ++ reverse (map held_in outcome.far)
  pub calls : called' ≡ outcome.called

-- the page is live, the trees of the entries stand, and no page is among them twice
pub record CanSettle (dims : ℕ) (m : PageMap) (page level : ℕ) (branches : List Branch) : Type 0 where
  pub live : IsSome (m page)
  pub stands : RowStands dims m level (row_of branches)
  pub distinct : (n : ℕ) → occurs_at page n (row_of branches) ≤ 1

-- the node of these entries has settled
pub record SettlesTo {D : ℕ} (dims most top level : ℕ) (called : List Bool) (branches : List Branch)
    (m m' : PageMap)
    (page : ℕ) (settled : Settled D) (waits waits' : List (Wait D)) (called' : List Bool) : Type 0 where
  pub outcome : Outcome
  pub settles : Settles dims most top level called branches outcome
  pub stands : OutcomeStands dims m' page level outcome
  pub moves : Moves m m' (λ n. occurs_at page n (row_of branches)) (occurs_after page outcome)
  pub shows : Shows dims settled waits waits' called' outcome

-- a node stands at the page, and an entry for a level below it; no page is in both twice
pub record CanPlace (dims : ℕ) (m : PageMap) (page level target : ℕ) (row : Row) (branch : Branch) : Type
    0 where
  pub there : HasNode dims m page level row
  pub below : RowStands dims m level row
  pub entry : RowStands dims m target (more branch end)
  pub distinct : (n : ℕ) → occurs_at page n row + occurs_on n branch ≤ 1

-- the entry was placed below the node
pub record PlacesTo {D : ℕ} (dims most top level target : ℕ) (called : List Bool) (branch : Branch)
    (row : Row)
    (m m' : PageMap) (page : ℕ) (settled : Settled D) (waits waits' : List (Wait D))
    (called' : List Bool) : Type 0
  where
    pub outcome : Outcome
    pub places : Places dims most top level (level - target) called branch row outcome
    pub stands : OutcomeStands dims m' page level outcome
    pub moves : Moves m m' (λ n. occurs_at page n row + occurs_on n branch) (occurs_after page outcome)
    pub shows : Shows dims settled waits waits' called' outcome

-- ---- where no page is damaged

-- the node has at most the most entries, and the nodes below it have shape
abbrev pub HasFewEntries : ℕ → ℕ → Row → Type 0
HasFewEntries dims most row = (row_length row ≤ most) × RowHasShape dims most row

-- ---- pages written

-- a page that was not live comes in, with this node, and all others stay
pub record ComesIn (dims : ℕ) (m m' : PageMap) (number : ℕ) (content : NodeContent) : Type 0 where
  pub free : m number ≡ None
  pub there : node_in dims (m' number) ≡ Some content
  pub others : SameBut number m m'

-- a node is written at the page, and another one into a page that was not live; all others stay
pub record SplitsOff (dims : ℕ) (m m' : PageMap) (page number : ℕ) (first second : NodeContent) : Type 0 where
  pub free : m number ≡ None
  pub first_there : node_in dims (m' page) ≡ Some first
  pub second_there : node_in dims (m' number) ≡ Some second
  pub others : (k : ℕ) → ¬ (k ≡ page) → ¬ (k ≡ number) → m' k ≡ m k

-- what was split off, if anything was
abbrev pub items_beside : {D : ℕ} → Option (Entry D) → List Item
items_beside None = []
items_beside (Some e) = item_of e ∷ []

-- the entries of a node whose child at a place has settled: its box is the new one, and what was split off
-- comes last
abbrev pub items_after : {D : ℕ} → List Item → ℕ → Settled D → List Item
items_after items at lower = set_box items at lower.bounds ++ items_beside lower.beside

-- the way down from a node of these entries, which are at most the most: the chosen child, with its page and
-- box, and the least box round the entries
pub record IsWay {D : ℕ} (dims most level : ℕ) (items : List Item) (new : Bounds) (way : Way D) : Type 0 where
  pub few : length items ≤ most
  pub chosen : IsChosenChild dims level items new way.place
  pub page : way.page ≡ reference_at items way.place
  pub bounds : way.bounds ≡ box_at items way.place
  pub least : way.least ≡ least_box dims items
