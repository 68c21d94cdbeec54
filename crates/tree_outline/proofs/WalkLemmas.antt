-- What a walk over the nodes of a tree has listed, child by child.
use Rattle.std.proofs.Common.{◌≡◌, ◌∙◌, ℕ, zero, suc, ◌+◌, ◌-◌, ◌^◌, ◌<◌, ◌≤◌, true, None, Some, List, []}
use Rattle.std.proofs.Common.{◌∷◌, ◌++◌, length, get_or, map, refl, sym, ap, subst, arith}
use Rattle.std.proofs.lemmas.List.{append_assoc, append-nil, length-map}
use Rattle.block_device.specs.Device.{one_more}
use Rattle.box_math.specs.Bounds.{Bounds}
use Rattle.std.specs.Prelude.{Result, IsErrAnd}
use Rattle.page_file.specs.declared.fault.Fault.{Fault}
use Rattle.page_file.specs.declared.fault.Fault.TheVariants as fault
use Rattle.page_cache.specs.Cache.{IsHonest, given, looks_of}
use Rattle.page_cache.specs.Calls.{Asks, AsksUntil, asks_in_turn, ends_so}
use Rattle.page_cache.specs.Laws.{looks_are_few}
use Rattle.page_cache.specs.declared.cache.PageCache.{PageCache}
use Rattle.tree_node.specs.declared.node.Entry.{Entry}
use Rattle.tree_node.specs.Nodes.{Item, NodeContent, item_of}
use Rattle.tree_node.specs.Searches.{counted, passing}
use Rattle.tree_node.specs.Trees.{Row, Tree, end, more, object, child, row_items}
use Rattle.tree_node.proofs.RowLemmas.{all_dropped, entry_item, row_drop}
use Rattle.node_page.specs.Standing.{PageMap, RowStands, StandsAt, node_in}
use Rattle.node_page.proofs.LeafLemmas.{entries_there, same_node, stands_on}
use Rattle.tree_outline.specs.Outlines.{outline_at, outline_of, outlined, outlines_below}
use Rattle.tree_outline.specs.declared.node.NodeOutline.{NodeOutline}

-- ---- a leaf

pub none_below : (dims : ℕ) (m : PageMap) (level : ℕ) (row : Row) → level ≡ 0 → RowStands dims m level row
    → outlines_below {D = dims} level row ≡ []
none_below dims m level end leaf stands = refl
none_below dims m level (more (object kept id) rest) leaf stands =
    none_below dims m level rest leaf stands.1
none_below dims m level (more (child bounds page below) rest) leaf stands =
    absurd (omega (arith, stands.0, leaf))

pub none_counted : (dims : ℕ) (m : PageMap) (level : ℕ) (row : Row) → level ≡ 0 → RowStands dims m level row
    → passing (λ b. true) row ≡ 0
none_counted dims m level end leaf stands = refl
none_counted dims m level (more (object kept id) rest) leaf stands =
    none_counted dims m level rest leaf stands.1
none_counted dims m level (more (child bounds page below) rest) leaf stands =
    absurd (omega (arith, stands.0, leaf))

-- a node that was read is the one that stands there
pub same_outline : (dims page level : ℕ) (c : NodeContent) (row : Row) → c.level ≡ level
    → row_items row ≡ c.entries
    → outlined {D = dims} page c ≡ outlined page (record { level = level; entries = row_items row })
same_outline dims page level c row at_level same =
    ap (outlined {D = dims} page) (same_node c level (row_items row) at_level (sym same))

pub leaf_listed : (dims : ℕ) (m : PageMap) (page level : ℕ) (c : NodeContent) (row : Row)
    (rows rows_now : List (NodeOutline dims)) → level ≡ 0 → c.level ≡ level
    → node_in dims (m page) ≡ Some c → StandsAt dims m page level row → rows_now ≡ rows ++ outlined page c ∷ []
    → rows_now ≡ rows ++ outline_at page level row
leaf_listed dims m page level c row rows rows_now leaf at_level there at added = added
    ∙ ap (λ (x : NodeOutline dims). rows ++ x ∷ [])
    (same_outline dims page level c row at_level (entries_there dims m page level row c at there))
    ∙ ap (λ (xs : List (NodeOutline dims)). rows
    ++ outlined page (record { level = level; entries = row_items row }) ∷ xs)
    (sym (none_below dims m level row leaf at.below))

pub leaf_looked : (dims : ℕ) (m : PageMap) (page level : ℕ) (row : Row) (looks looks_now : ℕ) → level ≡ 0
    → StandsAt dims m page level row → looks_now ≡ one_more looks
    → looks_now ≡ counted looks (1 + passing (λ b. true) row)
leaf_looked dims m page level row looks looks_now leaf at looked =
    omega (arith, looked, none_counted dims m level row leaf at.below)

-- ---- a node that was read, and a growth that was refused

module _ {B A : Type 0} {m : _} where
  pub asks_and_refuses_memory : {T : Type 0} (old new : PageCache B A m) (f : Fault)
      (result : Result T Fault) → IsErrAnd result (λ e. e ≡ f) → f ≡ fault.Memory → AsksUntil old new None
      → Asks old new result
  asks_and_refuses_memory old new f result is memory asks =
      let ended = ends_so result f is in
      subst (λ end. AsksUntil old new end) (sym ended)
      (subst (λ g. AsksUntil old new (Some g)) (sym memory)
      (record {
        gate = asks.gate;
        map = asks.map;
        capacity = asks.capacity;
        looks = asks.looks;
        touched = asks.touched;
        faults = asks.faults;
      }))

-- ---- the children

-- the child in a place, and those after it
pub record Next (dims : ℕ) (m : PageMap) (level : ℕ) (row : Row) (i : ℕ) : Type 0 where
  pub bounds : Bounds
  pub page : ℕ
  pub below : Row
  pub page_is : (x : Item) → x ≡ get_or (row_items row) i x → page ≡ x.reference
  pub stands : StandsAt dims m page (level - 1) below
  pub others : row_drop i row ≡ more (child bounds page below) (row_drop (i + 1) row)

pub next_child : (dims : ℕ) (m : PageMap) (level : ℕ) (row : Row) (i : ℕ) → 0 < level
    → i < length (row_items row) → RowStands dims m level row → Next dims m level row i
next_child dims m level end i above within stands = absurd (omega (arith, within))
next_child dims m level (more (object kept id) rest) i above within stands =
    absurd (omega (arith, stands.0, above))
next_child dims m level (more (child bounds page below) rest) zero above within stands = record {
  bounds = bounds;
  page = page;
  below = below;
  page_is = λ x is. ap (λ (y : Item). y.reference) (sym is);
  stands = record { node = stands.1; below = stands.2 };
  others = refl;
}
next_child dims m level (more (child bounds page below) rest) (suc i) above within stands =
    let later = next_child dims m level rest i above (omega (arith, within)) stands.3 in
    record {
      bounds = later.bounds;
      page = later.page;
      below = later.below;
      page_is = later.page_is;
      stands = later.stands;
      others = later.others
          ∙ ap (λ (n : ℕ). more (child later.bounds later.page later.below)
          (row_drop n (more (child bounds page below) rest)))
          (let e : suc (i + 1) ≡ suc i + 1 = omega arith in e);
    }

-- the count of all nodes of a row
abbrev pub nodes_of : Row → ℕ
nodes_of row = passing (λ b. true) row

counted_twice : (looks many others : ℕ) → counted (counted looks many) others ≡ counted looks (many + others)
counted_twice looks many others = omega arith

counted_none : (looks : ℕ) → looks < 2 ^ 64 → counted looks 0 ≡ looks
counted_none looks few = omega arith

-- ---- what a loop over them has done

module _ {B A : Type 0} {m : _} where
  -- the node and those below the entries before place i are listed, each of which was looked at
  pub record Progress (dims : ℕ) (old now : PageCache B A m) (page level : ℕ) (entries : List (Entry dims))
      (i : ℕ) (rows rows_now : List (NodeOutline dims)) : Type 0 where
    pub asks : AsksUntil old now None
    pub listed : IsHonest old → (row : Row) → row_items row ≡ map item_of entries
        → RowStands dims (given old) level row
        → rows_now ++ outlines_below level (row_drop i row) ≡ rows ++ outline_at page level row
    pub looked : IsHonest old → (row : Row) → row_items row ≡ map item_of entries
        → RowStands dims (given old) level row
        → counted (looks_of now) (nodes_of (row_drop i row)) ≡ counted (looks_of old) (1 + nodes_of row)

  -- the node was read
  pub begins : (dims : ℕ) (old now : PageCache B A m) (page level : ℕ) (entries : List (Entry dims))
      (c : NodeContent) (rows rows_now : List (NodeOutline dims)) → AsksUntil old now None
      → c.level ≡ level → map item_of entries ≡ c.entries → rows_now ≡ rows ++ outlined page c ∷ []
      → looks_of now ≡ one_more (looks_of old) → Progress dims old now page level entries 0 rows rows_now
  begins dims old now page level entries c rows rows_now asks at_level are added looked = record {
    asks = asks;
    listed = λ h row same stands.
        ap (λ (xs : List (NodeOutline dims)). xs ++ outlines_below level row)
        (added
        ∙ ap (λ (x : NodeOutline dims). rows ++ x ∷ [])
        (same_outline dims page level c row at_level (same ∙ are)))
        ∙ append_assoc rows (outlined page (record { level = level; entries = row_items row }) ∷ [])
        (outlines_below level row);
    looked = λ h row same stands. ap (λ (n : ℕ). counted n (nodes_of row)) looked
        ∙ (let e : counted (one_more (looks_of old)) (nodes_of row)
        ≡ counted (looks_of old) (1 + nodes_of row) = omega arith in e);
  }

  module _ {dims : ℕ} {old now : PageCache B A m} {page level : ℕ} {entries : List (Entry dims)} {i : ℕ}
      {rows rows_now : List (NodeOutline dims)}
      (so_far : Progress dims old now page level entries i rows rows_now) where
    next_here : 0 < level → i < length entries → (row : Row) → row_items row ≡ map item_of entries
        → RowStands dims (given old) level row → Next dims (given old) level row i
    next_here above within row same stands =
        next_child dims (given old) level row i above
        (omega (arith, within, ap length same, length-map entries item_of)) stands

    -- the page of the child is that of the entry
    page_here : (e : Entry dims) → i < length entries → e ≡ get_or entries i e → (row : Row)
        → row_items row ≡ map item_of entries → (next : Next dims (given old) level row i)
        → next.page ≡ e.reference
    page_here e within is row same next =
        next.page_is (item_of e)
        (entry_item entries i e within is
        ∙ ap (λ (xs : List Item). get_or xs i (item_of e)) (sym same))

    -- the tree of the child that the loop is at
    pub stands_here : (e : Entry dims) → 0 < level → i < length entries → e ≡ get_or entries i e
        → IsHonest old → (row : Row) → row_items row ≡ map item_of entries
        → RowStands dims (given old) level row
        → (below : Row) × StandsAt dims (given now) e.reference (level - 1) below
    stands_here e above within is h row same stands =
        let next = next_here above within row same stands in (
          next.below,
          subst (λ (n : ℕ). StandsAt dims (given now) n (level - 1) next.below)
              (page_here e within is row same next)
              (stands_on dims (given old) (given now) next.page (level - 1) next.below
              (so_far.asks.map.given_stay h) next.stands),
        )

    -- the walk went over it
    pub went_over : (e : Entry dims) → 0 < level → i < length entries → e ≡ get_or entries i e
        → (next : PageCache B A m) (rows_next : List (NodeOutline dims)) → AsksUntil now next None
        → (IsHonest now → (row : Row) → StandsAt dims (given now) e.reference (level - 1) row
        → rows_next ≡ rows_now ++ outline_at e.reference (level - 1) row)
        → (IsHonest now → (row : Row) → StandsAt dims (given now) e.reference (level - 1) row
        → looks_of next ≡ counted (looks_of now) (1 + nodes_of row))
        → Progress dims old next page level entries (i + 1) rows rows_next
    went_over e above within is next rows_next asks lists looks = record {
      asks = asks_in_turn old now next None so_far.asks asks;
      listed = λ h row same stands.
          let c = next_here above within row same stands in
          let page_is = page_here e within is row same c in
          let there =
          subst (λ (n : ℕ). StandsAt dims (given now) n (level - 1) c.below) page_is
          (stands_on dims (given old) (given now) c.page (level - 1) c.below
          (so_far.asks.map.given_stay h) c.stands) in
          let added = lists (so_far.asks.gate.honest.0 h) c.below there
          ∙ ap (λ (n : ℕ). rows_now ++ outline_at n (level - 1) c.below) (sym page_is) in
          let later = outlines_below {D = dims} level (row_drop (i + 1) row) in
          ap (λ (xs : List (NodeOutline dims)). xs ++ later) added
          ∙ append_assoc rows_now (outline_at c.page (level - 1) c.below) later
          ∙ ap (λ (r : Row). rows_now ++ outlines_below level r) (sym c.others)
          ∙ so_far.listed h row same stands;
      looked = λ h row same stands.
          let c = next_here above within row same stands in
          let page_is = page_here e within is row same c in
          let there =
          subst (λ (n : ℕ). StandsAt dims (given now) n (level - 1) c.below) page_is
          (stands_on dims (given old) (given now) c.page (level - 1) c.below
          (so_far.asks.map.given_stay h) c.stands) in
          let added = looks (so_far.asks.gate.honest.0 h) c.below there in
          let later = nodes_of (row_drop (i + 1) row) in
          ap (λ (n : ℕ). counted n later) added
          ∙ counted_twice (looks_of now) (1 + nodes_of c.below) later
          ∙ ap (λ (r : Row). counted (looks_of now) (nodes_of r)) (sym c.others)
          ∙ so_far.looked h row same stands;
    }

    -- all are done
    pub all_listed : length entries ≤ i → IsHonest old → (row : Row) → row_items row ≡ map item_of entries
        → RowStands dims (given old) level row → rows_now ≡ rows ++ outline_at page level row
    all_listed past h row same stands =
        let done = all_dropped i row (omega (arith, ap length same, length-map entries item_of, past)) in
        sym (append-nil rows_now)
        ∙ ap (λ (r : Row). rows_now ++ outlines_below level r) (sym done)
        ∙ so_far.listed h row same stands

    pub all_looked : length entries ≤ i → IsHonest old → (row : Row) → row_items row ≡ map item_of entries
        → RowStands dims (given old) level row
        → looks_of now ≡ counted (looks_of old) (1 + nodes_of row)
    all_looked past h row same stands =
        let done = all_dropped i row (omega (arith, ap length same, length-map entries item_of, past)) in
        sym (counted_none (looks_of now) (looks_are_few now))
        ∙ ap (λ (r : Row). counted (looks_of now) (nodes_of r)) (sym done)
        ∙ so_far.looked h row same stands

-- the outline of a tree is that of its root
pub same_place : (dims : ℕ) (t : Tree) (page level : ℕ) → t.page ≡ page → t.level ≡ level
    → outline_at {D = dims} page level t.row ≡ outline_of t
same_place dims t page level at_page at_level = ap (λ (n : ℕ). outline_at {D = dims} n level t.row) (sym at_page)
    ∙ ap (λ (l : ℕ). outline_at {D = dims} t.page l t.row) (sym at_level)
