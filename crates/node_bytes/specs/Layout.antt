-- How a page spells a node of a tree (our format, docs/FORMAT.md): byte 0 is 6, byte 1 the dimension, at 2
-- the count, byte 4 the level, and from 16 on columns of 100 places: lows and highs of each axis by turns,
-- then references, and then tags, of which those above level 0 are not looked at. A page of format 1 has 2
-- for its byte 0 and no tags: each is 0.
use Rattle.std.specs.Prelude.{◌≡◌, ℕ, ◌+◌, ◌*◌, ◌^◌, ◌<◌, ◌≤◌, ◌&&◌, ◌||◌, ◌==◌, ◌⊎◌, Bool, true, nat_le}
use Rattle.std.specs.Prelude.{nat_lt, List, [], ◌∷◌, ◌++◌, length, All, Option, Some, None, if◌then◌else◌}
use Rattle.block_bytes.specs.Forms.{IsPageOf}
use Rattle.block_bytes.specs.Kinds.{HasHead, node_kind, untagged_node_kind}
use Rattle.block_bytes.specs.Numbers.{number_at, IsApart}
use Rattle.block_bytes.specs.Places.{first_places}
use Rattle.box_math.specs.Bounds.{IsDims, IsBox, IsOrdered, all_over, dims_test, ordered_test}
use Rattle.box_bytes.specs.Corners.{box_at, IsClearOfBox, IsOfCorner}
use Rattle.tree_node.specs.Nodes.{Item, NodeContent}

-- a reference of a node on this level: any on level 0, and above it the page of a child, from 3 on and below
-- 2^31
abbrev pub IsReference : ℕ → ℕ → Type 0
IsReference level reference = 0 < level → (3 ≤ reference) × (reference < 2 ^ 31)

-- what an entry of a node on this level has beside its box: on level 0 any reference and any tag, and above
-- it the page of a child and no tag
abbrev pub IsOfLevel : ℕ → ℕ → ℕ → Type 0
IsOfLevel level reference tag = 0 < level → (3 ≤ reference) × (reference < 2 ^ 31) × (tag ≡ 0)

-- a node that a page can spell: at most 100 entries, at least one above the leaves, each with a reference and
-- a tag of the level (their boxes need no word, since a box has its lows at most its highs)
pub record IsSpellable (c : NodeContent) : Type 0 where
  pub few : length c.entries ≤ 100
  pub some : 0 < c.level → 1 ≤ length c.entries
  pub refers : All (λ item. IsOfLevel c.level item.reference item.tag) c.entries

-- a node of so many axes: one that a page can spell, whose level is a byte, and whose entries have boxes of
-- 32-bit coordinates, references of 64 bits and tags of 32
pub record IsNode (dims : ℕ) (c : NodeContent) : Type 0 where
  pub spellable : IsSpellable c
  pub byte : c.level < 256
  pub boxes : All (λ item. IsBox dims item.bounds) c.entries
  pub references : All (λ item. item.reference < 2 ^ 64) c.entries
  pub tags : All (λ item. item.tag < 2 ^ 32) c.entries

-- a node with an entry more, in the place after the last one
abbrev pub pushed : NodeContent → Item → NodeContent
pushed c item = record { level = c.level; entries = c.entries ++ item ∷ [] }

-- ---- one entry

-- where the low on the first axis of the entry in a place stands; that on each further axis stands 800 bytes
-- on
abbrev pub low_place : ℕ → ℕ
low_place place = 16 + 4 * place

-- where its high on the first axis stands; that on each further axis stands 800 bytes on
abbrev pub high_place : ℕ → ℕ
high_place place = 416 + 4 * place

-- where its reference stands, after the columns of all axes
abbrev pub reference_place : ℕ → ℕ → ℕ
reference_place dims place = 16 + 800 * dims + 8 * place

-- where its tag stands, after the references
abbrev pub tag_place : ℕ → ℕ → ℕ
tag_place dims place = 816 + 800 * dims + 4 * place

-- whether the page has tags: it is of the kind that has them, and of level 0
unfoldable pub has_tags : List ℕ → Bool
has_tags page = number_at 1 0 page == node_kind && number_at 1 4 page == 0

-- the tag in a place, 0 where the page has none
unfoldable pub tag_at : ℕ → List ℕ → ℕ → ℕ
tag_at dims page place = if has_tags page then number_at 4 (tag_place dims place) page else 0

-- the entry in a place
unfoldable pub item_at : ℕ → List ℕ → ℕ → Item
item_at dims page place = record {
  bounds = box_at dims page (low_place place) (high_place place) 800;
  reference = number_at 8 (reference_place dims place) page;
  tag = tag_at dims page place;
}

-- the entries in the first places
abbrev pub items_at : ℕ → List ℕ → ℕ → List Item
items_at dims page count = first_places (item_at dims page) count

-- an entry of a node on this level: each low is at most its high, and the reference is one of the level
pub record IsEntry (dims level : ℕ) (item : Item) : Type 0 where
  pub ordered : IsOrdered dims item.bounds.low item.bounds.high
  pub refers : IsReference level item.reference

-- n bytes from a place lie outside an entry of a page with or without tags
pub record IsClearOfEntry (dims : ℕ) (tagged : Bool) (place n at : ℕ) : Type 0 where
  pub bounds : IsClearOfBox dims (low_place place) (high_place place) 800 n at
  pub reference : IsApart n at 8 (reference_place dims place)
  pub tag : tagged ≡ true → IsApart n at 4 (tag_place dims place)

-- a byte of an entry of a page with or without tags: of its lows, of its highs, of its reference or of its
-- tag
abbrev pub IsOfEntry : ℕ → Bool → ℕ → ℕ → Type 0
IsOfEntry dims tagged place k =
    IsOfCorner dims (low_place place) 800 k ⊎ IsOfCorner dims (high_place place) 800 k
    ⊎ ((reference_place dims place ≤ k) × (k < reference_place dims place + 8))
    ⊎ ((tagged ≡ true) × (tag_place dims place ≤ k) × (k < tag_place dims place + 4))

-- ---- the page

-- the first bytes of a node page
pub record IsHead (dims level count : ℕ) (page : List ℕ) : Type 0 where
  pub head : HasHead node_kind dims count page
  pub level_is : number_at 1 4 page ≡ level

-- byte 0 of a node page
abbrev pub IsNodeKind : ℕ → Type 0
IsNodeKind kind = (kind ≡ node_kind) ⊎ (kind ≡ untagged_node_kind)

-- the page begins as a node page of this dimension, of two or three axes, and level does
pub record HasNodeHead (dims level : ℕ) (page : List ℕ) : Type 0 where
  pub axes : IsDims dims
  pub kind : IsNodeKind (number_at 1 0 page)
  pub dims_is : number_at 1 1 page ≡ dims
  pub level_is : number_at 1 4 page ≡ level
  pub few : number_at 2 2 page ≤ 100
  pub some : 0 < level → 1 ≤ number_at 2 2 page

-- the page spells this node
pub record Spells (dims : ℕ) (page : List ℕ) (c : NodeContent) : Type 0 where
  pub head : HasNodeHead dims c.level page
  pub each : (place : ℕ) → place < number_at 2 2 page → IsEntry dims c.level (item_at dims page place)
  pub entries : c.entries ≡ items_at dims page (number_at 2 2 page)

-- the first places of the page hold so many entries of a node on this level
pub record IsLaidOut (dims level count : ℕ) (page : List ℕ) : Type 0 where
  pub few : count ≤ 100
  pub each : (place : ℕ) → place < count → IsEntry dims level (item_at dims page place)

-- whether an entry is one of a node on this level
abbrev pub entry_test : ℕ → ℕ → Item → Bool
entry_test dims level item = ordered_test dims item.bounds.low item.bounds.high
    && (level == 0 || (nat_le 3 item.reference && nat_lt item.reference (2 ^ 31)))

-- whether the page spells a node
unfoldable pub node_test : ℕ → List ℕ → Bool
node_test dims page =
    dims_test dims && (number_at 1 0 page == node_kind || number_at 1 0 page == untagged_node_kind)
    && number_at 1 1 page == dims && nat_le (number_at 2 2 page) 100
    && (number_at 1 4 page == 0 || nat_le 1 (number_at 2 2 page))
    && all_over (number_at 2 2 page) (λ place. entry_test dims (number_at 1 4 page) (item_at dims page place))

-- a page that spelled a node spells one still
abbrev pub StaysNode : ℕ → List ℕ → List ℕ → Type 0
StaysNode dims old new = node_test dims old ≡ true → node_test dims new ≡ true

-- the node that the page spells, if it spells one
unfoldable pub node_at : ℕ → List ℕ → Option NodeContent
node_at dims page =
    if node_test dims page then Some
    (record { level = number_at 1 4 page; entries = items_at dims page (number_at 2 2 page) }) else None

-- the node that a page of this kind spells
abbrev pub node_of_kind : ℕ → ℕ → List ℕ → Option NodeContent
node_of_kind kind dims page = if number_at 1 0 page == kind then node_at dims page else None

-- a byte of the head or of one of the first entries, on a page with or without tags
abbrev pub IsNamed : ℕ → Bool → ℕ → ℕ → Type 0
IsNamed dims tagged count k = (k < 5) ⊎ ((place : ℕ) × (place < count) × IsOfEntry dims tagged place k)

-- a byte that this page names
abbrev pub names : ℕ → List ℕ → ℕ → Type 0
names dims page = IsNamed dims (has_tags page) (number_at 2 2 page)

-- all other bytes of the page are zero
abbrev pub IsTidy : ℕ → List ℕ → Type 0
IsTidy dims page = (k : ℕ) → (names dims page k → ⊥) → number_at 1 k page ≡ 0

-- the page is the one that is written of a node: of the kind that has tags, and tidy
abbrev pub IsPageOfNode : ℕ → List ℕ → NodeContent → Type 0
IsPageOfNode dims page c = IsPageOf (node_of_kind node_kind dims) (names dims) page c
