-- What a group of rows that goes down a tree has added and looked at, child by child, and what groups in turn have.
use Rattle.std.proofs.Common.{◌≡◌, ◌∙◌, ℕ, suc, ◌+◌, ◌-◌, ◌/◌, ◌<◌, ◌≤◌, min, Bool, true, false, cond, None, Some}
use Rattle.std.proofs.Common.{List, [], ◌∷◌, length, drop, take, get_or, map, All, refl, sym, ap, subst, arith}
use Rattle.std.proofs.Common.{IsPermutation}
use Rattle.std.specs.List.{filter, flat_map}
use Rattle.std.specs.List.Sorted.{IsSorted}
use Rattle.std.proofs.lemmas.List.{append-nil, drop-drop, drop-map, drop_all, drop_min, get_or_default, length-drop}
use Rattle.std.proofs.lemmas.List.{length-map, take-append-drop, take-map, take_min}
use Rattle.std.proofs.lemmas.List.Elements.{All-filter, All-from_get_or, All-get_or}
use Rattle.std.proofs.lemmas.List.Sorted.{IsPermutation-trans}
use Rattle.box_math.specs.Bounds.{Bounds, Within}
use Rattle.box_math.specs.Measures.{near_test}
use Rattle.box_math.specs.Objects.{Object, bounds_of, tag_of}
use Rattle.box_math.proofs.BoxLaws.{Within-refl}
use Rattle.page_cache.specs.Cache.{IsHonest, looks_of, pages}
use Rattle.page_cache.specs.Calls.{AsksUntil, asks_in_turn}
use Rattle.page_cache.specs.declared.cache.PageCache.{PageCache}
use Rattle.tree_node.specs.Boxes.{least_box, no_item}
use Rattle.tree_node.specs.Joins.{boxes_below, near_pairs}
use Rattle.tree_node.specs.declared.node.Entry.{Entry}
use Rattle.tree_node.specs.Nodes.{Item, NodeContent, item_of, items_of}
use Rattle.tree_node.specs.Positions.{total}
use Rattle.tree_node.specs.Searches.{reached}
use Rattle.tree_node.specs.Shape.{RowWithin}
use Rattle.tree_node.specs.Trees.{Branch, Row, Tree, end, more, object, child, objects_in, row_items}
use Rattle.tree_node.specs.declared.node.Root.{Root}
use Rattle.tree_node.proofs.RowLemmas.{all_dropped, entry_item, row_drop, row_tail}
use Rattle.tree_node.proofs.SearchLemmas.{admitted_are_reached}
use Rattle.node_page.specs.Checked.{ComesTo, Names, pairs_of as objects_of}
use Rattle.node_page.specs.Rooted.{IsTreeAt}
use Rattle.node_page.specs.Standing.{PageMap, RowStands, StandsAt, node_in}
use Rattle.node_page.proofs.DamageLemmas.{comes_below_so, comes_on, entry_names}
use Rattle.node_page.proofs.LeafLemmas.{dropped_stands, entries_there, items-leaf_row, leaf_row, stands-leaf_row}
use Rattle.node_page.proofs.RootedLemmas.{loose}
use Rattle.spatial_join.specs.Opening.{AllWithin, Encloses, HasRow}
use Rattle.spatial_join.specs.Pairs.{GainsItems, GainsPairs, near_objects, pair_cmp, pairs_of}
use Rattle.spatial_join.specs.Rows.{GainsRows, IsRowsAnswer, entry_of, looks_beside, looks_of_group, looks_of_groups}
use Rattle.spatial_join.proofs.DescentLemmas.{Below, Encloses-row_drop, Encloses-row_head, below_first, next_place}
use Rattle.spatial_join.proofs.DescentLemmas.{entry_here, still_has, still_stands}
use Rattle.spatial_join.proofs.LeafJoin.{items_within, leaves_near}
use Rattle.spatial_join.proofs.PairLemmas.{equal_sums_permute, fails_below, head_apart, near_sum, near_sum-none}
use Rattle.spatial_join.proofs.PairLemmas.{near_sum-right, row_head, shape_encloses, sum-left}
use Rattle.spatial_join.proofs.RootLemmas.{box_encloses, tree_at}

-- ---- the entries whose boxes pass

abbrev pub near_row : (Bounds → Bool) → Row → Row
near_row test end = end
near_row test (more (object kept id) rest) =
    cond (test (bounds_of kept)) (more (object kept id) (near_row test rest)) (near_row test rest)
near_row test (more (child bounds page below) rest) =
    cond (test bounds) (more (child bounds page below) (near_row test rest)) (near_row test rest)

-- what holds with an entry that passes, and without one that fails
either : (P : Row → Type 0) (t : Bool) (x : Branch) (rest : Row) → (t ≡ true → P (more x rest))
    → (t ≡ false → P rest) → P (cond t (more x rest) rest)
either P true x rest passes fails = passes refl
either P false x rest passes fails = fails refl

near_items : (test : Bounds → Bool) (row : Row)
    → row_items (near_row test row) ≡ filter (λ item. test item.bounds) (row_items row)
near_items test end = refl
near_items test (more (object kept id) rest) =
    here (test (bounds_of kept)) (filter (λ item. test item.bounds) (row_items rest)) (near_items test rest)
  where
    here : (t : Bool) (xs : List Item) → row_items (near_row test rest) ≡ xs
        → row_items (cond t (more (object kept id) (near_row test rest)) (near_row test rest)) ≡ cond t
        (record { bounds = bounds_of kept; reference = id; tag = tag_of kept } ∷ xs) xs
    here true xs same =
        ap (λ (ys : List Item). record { bounds = bounds_of kept; reference = id; tag = tag_of kept } ∷ ys) same
    here false xs same = same
near_items test (more (child bounds page below) rest) =
    here (test bounds) (filter (λ item. test item.bounds) (row_items rest)) (near_items test rest)
  where
    here : (t : Bool) (xs : List Item) → row_items (near_row test rest) ≡ xs
        → row_items (cond t (more (child bounds page below) (near_row test rest)) (near_row test rest)) ≡ cond t
        (record { bounds = bounds; reference = page; tag = 0 } ∷ xs) xs
    here true xs same = ap (λ (ys : List Item). record { bounds = bounds; reference = page; tag = 0 } ∷ ys) same
    here false xs same = same

near_stands : (dims : ℕ) (m : PageMap) (level : ℕ) (test : Bounds → Bool) (row : Row)
    → RowStands dims m level row → RowStands dims m level (near_row test row)
near_stands dims m level test end stands = tt
near_stands dims m level test (more (object kept id) rest) stands =
    let later = near_stands dims m level test rest stands.1 in
    either (RowStands dims m level) (test (bounds_of kept)) (object kept id) (near_row test rest)
    (λ e. (stands.0, later)) (λ e. later)
near_stands dims m level test (more (child bounds page below) rest) stands =
    let later = near_stands dims m level test rest stands.3 in
    either (RowStands dims m level) (test bounds) (child bounds page below) (near_row test rest)
    (λ e. (stands.0, stands.1, stands.2, later)) (λ e. later)

pub near_encloses : (dims : ℕ) (test : Bounds → Bool) (row : Row) → Encloses dims row
    → Encloses dims (near_row test row)
near_encloses dims test end encloses = tt
near_encloses dims test (more (object kept id) rest) encloses =
    let later = near_encloses dims test rest encloses in
    either (Encloses dims) (test (bounds_of kept)) (object kept id) (near_row test rest) (λ e. later) (λ e. later)
near_encloses dims test (more (child bounds page below) rest) encloses =
    let later = near_encloses dims test rest encloses.2 in
    either (Encloses dims) (test bounds) (child bounds page below) (near_row test rest)
    (λ e. (encloses.0, encloses.1, later)) (λ e. later)

-- objects in a box have pairs only below the entries that are near it
near_only : (dims limit : ℕ) (f : ℕ × ℕ → ℕ) (s : Row) (b : Bounds) (row : Row)
    → AllWithin dims b (objects_in s) → Encloses dims row
    → near_sum dims limit f s row ≡ near_sum dims limit f s (near_row (near_test dims limit b) row)
near_only dims limit f s b end within encloses = refl
near_only dims limit f s b (more (object kept id) rest) within encloses =
    let near = near_row (near_test dims limit b) rest in
    let later = near_only dims limit f s b rest within encloses in
    let all = near_sum-right dims limit f s (more (object kept id) rest) in
    either (λ r. near_sum dims limit f s (more (object kept id) rest) ≡ near_sum dims limit f s r)
    (near_test dims limit b (bounds_of kept)) (object kept id) near
    (λ e. omega (arith, all, later, near_sum-right dims limit f s (more (object kept id) near)))
    (λ e. omega (
      arith,
      all,
      later,
      head_apart dims limit f s (more (object kept id) rest) b _ (row_items rest) within refl encloses e,
    ))
near_only dims limit f s b (more (child bounds page below) rest) within encloses =
    let near = near_row (near_test dims limit b) rest in
    let later = near_only dims limit f s b rest within encloses.2 in
    let all = near_sum-right dims limit f s (more (child bounds page below) rest) in
    either (λ r. near_sum dims limit f s (more (child bounds page below) rest) ≡ near_sum dims limit f s r)
    (near_test dims limit b bounds) (child bounds page below) near
    (λ e. omega (arith, all, later, near_sum-right dims limit f s (more (child bounds page below) near)))
    (λ e. omega (
      arith,
      all,
      later,
      head_apart dims limit f s (more (child bounds page below) rest) b _ (row_items rest) within refl encloses e,
    ))

-- the nodes that are reached below a node all of whose children are looked at
abbrev pub nodes_under : (Bounds → Bool) → Row → ℕ
nodes_under test end = 0
nodes_under test (more (object kept id) rest) = nodes_under test rest
nodes_under test (more (child bounds page below) rest) = 1 + reached test below + nodes_under test rest

pub near_nodes : (test : Bounds → Bool) (row : Row) → nodes_under test (near_row test row) ≡ reached test row
near_nodes test end = refl
near_nodes test (more (object kept id) rest) =
    let later = near_nodes test rest in
    either (λ r. nodes_under test r ≡ reached test rest) (test (bounds_of kept)) (object kept id)
    (near_row test rest) (λ e. later) (λ e. later)
near_nodes test (more (child bounds page below) rest) = here (test bounds) (near_nodes test rest)
  where
    here : (t : Bool) → nodes_under test (near_row test rest) ≡ reached test rest
        → nodes_under test (cond t (more (child bounds page below) (near_row test rest)) (near_row test rest)) ≡
        cond t (1 + reached test below) 0 + reached test rest
    here true same = omega (arith, same)
    here false same = omega (arith, same)

nodes_split : (test : Bounds → Bool) (row : Row)
    → nodes_under test row ≡ nodes_under test (row_head row) + nodes_under test (row_tail row)
nodes_split test end = refl
nodes_split test (more (object kept id) rest) = omega arith
nodes_split test (more (child bounds page below) rest) = omega arith

-- the entries that a search writes down of a node above the leaves
abbrev pub near_content : {dims : ℕ} → ℕ → List (Entry dims) → NodeContent
near_content level entries = record { level = level; entries = map item_of entries }

pub near_has : {dims : ℕ} (m : PageMap) (page level : ℕ) (test : Bounds → Bool) (row : Row)
    (all entries : List (Entry dims)) → StandsAt dims m page level row → entries ≡ all
    → map item_of all ≡ filter (λ item. test item.bounds) (row_items row)
    → HasRow dims m (near_content level entries) (near_row test row)
near_has {dims} m page level test row all entries at value found = record {
  items = near_items test row ∙ sym (ap (map item_of) value ∙ found);
  below = near_stands dims m level test row at.below;
}

-- what holds of all entries holds of those that pass
pub all_near : (P : Item → Type 0) (test : Bounds → Bool) (items now : List Item)
    → now ≡ filter (λ item. test item.bounds) items → All P items → All P now
all_near P test items now found all =
    subst (All P) (sym found) (All-filter (λ (item : Item). test item.bounds) P items all)

-- above the leaves each is named by the node
pub all_named : (c : NodeContent) → 0 < c.level → All (λ (item : Item). Names c item.reference) c.entries
all_named c above =
    All-from_get_or (λ (item : Item). Names c item.reference) c.entries no_item
    (λ i within. entry_names c c.entries i (get_or c.entries i no_item) refl above within
    (get_or_default c.entries i no_item (get_or c.entries i no_item) within))

-- so the pairs below those that pass are all pairs
pub near_gains : (dims limit : ℕ) (s : Row) (b : Bounds) (row : Row) (old now : List (ℕ × ℕ))
    → AllWithin dims b (objects_in s) → Encloses dims row
    → GainsPairs dims limit s (near_row (near_test dims limit b) row) old now → GainsPairs dims limit s row old now
near_gains dims limit s b row old now within encloses gains f =
    omega (arith, gains f, near_only dims limit f s b row within encloses)

-- ---- a leaf

-- what is added of the objects in entries is added of those below
pub leaf_gains : (dims limit : ℕ) (m : PageMap) (left : NodeContent) (page level : ℕ) (b : Bounds) (s u : Row)
    (pairs pairs_now : List (ℕ × ℕ)) → left.level ≡ 0 → level ≡ 0 → HasRow dims m left s
    → StandsAt dims m page level u → AllWithin dims b (objects_in u)
    → ((c : NodeContent) → node_in dims (m page) ≡ Some c → c.level ≡ 0
    → All (λ (item : Item). Within dims item.bounds b) c.entries
    → GainsItems dims limit left.entries c.entries pairs pairs_now)
    → GainsPairs dims limit s u pairs pairs_now
leaf_gains dims limit m left page level b s u pairs pairs_now leaf leaf' first at within adds f =
    let stands = subst (λ (l : ℕ). RowStands dims m l s) leaf first.below in
    let stands' = subst (λ (l : ℕ). RowStands dims m l u) leaf' at.below in
    let found =
    adds (record { level = level; entries = row_items u }) at.node leaf' (items_within dims m b u stands' within)
    f in
    let same = ap (total f) (leaves_near dims limit m s u stands stands')
    ∙ ap (λ (l : List Item). total f (flat_map (pairs_of dims limit (row_items u)) l)) first.items in
    omega (arith, found, same)

leaf_within : (dims : ℕ) (m : PageMap) (b : Bounds) (s : Row) → RowStands dims m 0 s → RowWithin dims s b
    → AllWithin dims b (objects_in s)
leaf_within dims m b end stands within = tt
leaf_within dims m b (more (object kept id) rest) stands within =
    (within.0, leaf_within dims m b rest stands.1 within.1)
leaf_within dims m b (more (child bounds page below) rest) stands within = absurd (omega (arith, stands.0))

least_within : (dims : ℕ) (m : PageMap) (s : Row) → RowStands dims m 0 s
    → AllWithin dims (least_box dims (row_items s)) (objects_in s)
least_within dims m end stands = tt
least_within dims m (more (object kept id) rest) stands =
    leaf_within dims m (least_box dims (row_items (more (object kept id) rest))) (more (object kept id) rest) stands
    (box_encloses dims (more (object kept id) rest) (least_box dims (row_items (more (object kept id) rest))) refl)
least_within dims m (more (child bounds page below) rest) stands = absurd (omega (arith, stands.0))

-- the objects of a leaf lie in the least box of its entries
pub objects_in_least : (dims : ℕ) (m : PageMap) (left : NodeContent) (b : Bounds) (s : Row) → left.level ≡ 0
    → b ≡ least_box dims left.entries → HasRow dims m left s → AllWithin dims b (objects_in s)
objects_in_least dims m left b s leaf is first =
    subst (λ (c : Bounds). AllWithin dims c (objects_in s)) (ap (least_box dims) first.items ∙ sym is)
    (least_within dims m s (subst (λ (l : ℕ). RowStands dims m l s) leaf first.below))

-- a leaf encloses what is below it, which is no node
pub leaf_encloses : (dims : ℕ) (m : PageMap) (s : Row) → RowStands dims m 0 s → Encloses dims s
leaf_encloses dims m end stands = tt
leaf_encloses dims m (more (object kept id) rest) stands = leaf_encloses dims m rest stands.1
leaf_encloses dims m (more (child bounds page below) rest) stands = absurd (omega (arith, stands.0))

leaf_boxes : (dims : ℕ) (m : PageMap) (s : Row) → RowStands dims m 0 s → boxes_below s ≡ []
leaf_boxes dims m end stands = refl
leaf_boxes dims m (more (object kept id) rest) stands = leaf_boxes dims m rest stands.1
leaf_boxes dims m (more (child bounds page below) rest) stands = absurd (omega (arith, stands.0))

pub no_pairs_below : (dims limit : ℕ) (m : PageMap) (left : NodeContent) (s t : Row) → left.level ≡ 0
    → HasRow dims m left s → near_pairs dims limit (boxes_below s) (boxes_below t) ≡ 0
no_pairs_below dims limit m left s t leaf first =
    ap (λ (l : List Bounds). near_pairs dims limit l (boxes_below t))
    (leaf_boxes dims m s (subst (λ (l : ℕ). RowStands dims m l s) leaf first.below))

-- ---- the children in turn

module _ {B A : Type 0} {m : _} where
  -- the leaf that was read, as the pages are now
  pub leaf_read : {dims : ℕ} (old now : PageCache B A m) (page : ℕ) (c : NodeContent) (t : Row)
      → AsksUntil old now None → IsHonest old → c.level ≡ 0 → StandsAt dims (pages old) page 0 t
      → node_in dims (pages old page) ≡ Some c → HasRow dims (pages now) c t
  leaf_read {dims} old now page c t asks h leaf at is = record {
    items = entries_there dims (pages old) page 0 t c at is;
    below = subst (λ (l : ℕ). RowStands dims (pages now) l t) (sym leaf)
        (still_stands old now page 0 t asks h at).below;
  }

  -- the pairs below the children before place i are added, and so many nodes looked at for them
  pub record Progress (dims limit : ℕ) (test : Bounds → Bool) (old now : PageCache B A m) (left : NodeContent)
      (level : ℕ) (entries : List (Entry dims)) (i : ℕ) (pairs pairs_now : List (ℕ × ℕ)) : Type 0 where
    pub asks : AsksUntil old now None
    pub added : IsHonest old → (s t : Row) → HasRow dims (pages old) left s
        → HasRow dims (pages old) (near_content level entries) t → Encloses dims t → (f : ℕ × ℕ → ℕ)
        → total f pairs_now + near_sum dims limit f s (row_drop i t) ≡ total f pairs + near_sum dims limit f s t
    pub looked : IsHonest old → (t : Row) → HasRow dims (pages old) (near_content level entries) t
        → looks_of now + nodes_under test (row_drop i t) ≤ looks_of old + (1 + nodes_under test t)

  module _ {dims limit : ℕ} {test : Bounds → Bool} {old now : PageCache B A m} {left : NodeContent} {level : ℕ}
      {entries : List (Entry dims)} {pairs pairs_now : List (ℕ × ℕ)} {i : ℕ}
      (so_far : Progress dims limit test old now left level entries i pairs pairs_now) where
    -- all is done
    pub all_added : length entries ≤ i → IsHonest old → (s t : Row) → HasRow dims (pages old) left s
        → HasRow dims (pages old) (near_content level entries) t → Encloses dims t
        → GainsPairs dims limit s t pairs pairs_now
    all_added past h s t first second e f =
        let done = all_dropped i t (omega (arith, ap length second.items, length-map entries item_of, past)) in
        let none = ap (near_sum dims limit f s) done ∙ near_sum-none dims limit f s in
        omega (arith, so_far.added h s t first second e f, none)

    pub all_looked : IsHonest old → (t : Row) → HasRow dims (pages old) (near_content level entries) t
        → looks_of now ≤ looks_of old + (1 + nodes_under test t)
    all_looked h t second = omega (arith, so_far.looked h t second)

    module _ (x : Entry dims) (within : i < length entries) (is : x ≡ get_or entries i x) (above : 0 < level) where
      child_here : (t : Row) → HasRow dims (pages old) (near_content level entries) t
          → Below dims (pages old) level (row_drop i t) (item_of x)
      child_here t second =
          below_first dims (pages old) level (row_drop i t) (item_of x) (drop (i + 1) (map item_of entries))
          (entry_here t entries entries i x second.items refl within is) above
          (dropped_stands dims (pages old) level i t second.below)

      -- the tree below the child, as the pages are now
      pub stands_here : IsHonest old → (t : Row) → HasRow dims (pages old) (near_content level entries) t
          → (below : Row) × StandsAt dims (pages now) x.reference (level - 1) below
      stands_here h t second =
          let b = child_here t second in
          (b.below, still_stands old now x.reference (level - 1) b.below so_far.asks h b.stands)

      -- the pairs below the child are added
      pub went_below : (next : PageCache B A m) (pairs_next : List (ℕ × ℕ)) → AsksUntil now next None
          → (IsHonest now → (s u : Row) → HasRow dims (pages now) left s
          → StandsAt dims (pages now) x.reference (level - 1) u → AllWithin dims x.bounds (objects_in u)
          → Encloses dims u → GainsPairs dims limit s u pairs_now pairs_next)
          → (IsHonest now → (u : Row) → StandsAt dims (pages now) x.reference (level - 1) u
          → looks_of next ≤ looks_of now + (1 + reached test u))
          → Progress dims limit test old next left level entries (i + 1) pairs pairs_next
      unfolding child_here
      went_below next pairs_next asks adds looks = record {
        asks = asks_in_turn old now next None so_far.asks asks;
        added = λ h s t first second e f.
            let b = child_here t second in
            let at = still_stands old now x.reference (level - 1) b.below so_far.asks h b.stands in
            let outer =
            subst (Encloses dims) b.head_is
            (Encloses-row_head dims (row_drop i t) (Encloses-row_drop dims i t e)) in
            let found =
            adds (so_far.asks.gate.honest.0 h) s b.below (still_has old now left s so_far.asks h first) at
            outer.0 outer.1 f in
            let same = ap (λ (r : Row). near_sum dims limit f s r) b.head_is
            ∙ ap (λ (ys : List (ℕ × Object)). total f (near_objects dims limit (objects_in s) ys))
            (append-nil (objects_in b.below)) in
            let rest = ap (λ (r : Row). near_sum dims limit f s r) (next_place i t) in
            omega (
              arith,
              so_far.added h s t first second e f,
              near_sum-right dims limit f s (row_drop i t),
              rest,
              found,
              same,
            );
        looked = λ h t second.
            let b = child_here t second in
            let at = still_stands old now x.reference (level - 1) b.below so_far.asks h b.stands in
            let found = looks (so_far.asks.gate.honest.0 h) b.below at in
            let same = ap (nodes_under test) b.head_is in
            let rest = ap (nodes_under test) (next_place i t) in
            omega (arith, so_far.looked h t second, nodes_split test (row_drop i t), rest, found, same);
      }

-- a walk from a child, in pages that are the same, is one from the node
pub comes_by_child : {dims : ℕ} (old now : PageMap) (page : ℕ) (c : NodeContent) (all entries : List (Entry dims))
    (i : ℕ) (e : Entry dims) (n : ℕ) → node_in dims (old page) ≡ Some c
    → All (λ (item : Item). Names c item.reference) (map item_of all) → entries ≡ all → i < length entries
    → e ≡ get_or entries i e → ((k : ℕ) → now k ≡ old k) → ComesTo dims now e.reference n
    → ComesTo dims old page n
comes_by_child {dims} old now page c all entries i e n there named value within is same walk =
    let P : Item → Type 0 = λ item. Names c item.reference in
    let here : All P (map item_of entries) = subst (λ es. All P (map item_of es)) (sym value) named in
    let at =
    All-get_or P (map item_of entries) i (item_of e) (omega (arith, within, length-map entries item_of)) here in
    let names = subst P (sym (entry_item entries i e within is)) at in
    comes_on dims old page c n there (comes_below_so dims old now c n same (e.reference, names, walk))

-- ---- a group of rows

pub leaf_has : (dims : ℕ) (m : PageMap) (c : NodeContent) → c.level ≡ 0 → HasRow dims m c (leaf_row c.entries)
leaf_has dims m c leaf = record {
  items = items-leaf_row c.entries;
  below = subst (λ (l : ℕ). RowStands dims m l (leaf_row c.entries)) (sym leaf) (stands-leaf_row dims m c.entries);
}

group_objects : (items : List Item) → objects_in (leaf_row items) ≡ objects_of items
group_objects [] = refl
group_objects (item ∷ items) =
    ap (λ (l : List (ℕ × Object)). (item.reference, (item.bounds, item.tag)) ∷ l) (group_objects items)

pub group_gains : (dims limit : ℕ) (items rows : List Item) (t : Row) (old now : List (ℕ × ℕ)) → items ≡ rows
    → GainsPairs dims limit (leaf_row items) t old now → GainsRows dims limit (objects_of rows) t old now
group_gains dims limit items rows t old now same gains f =
    gains f
    ∙ ap (λ (l : List (ℕ × Object)). total f old + total f (near_objects dims limit l (objects_in t)))
    (group_objects items ∙ ap objects_of same)

-- ---- entries as rows

abbrev object_of : Item → ℕ × Object
object_of item = (item.reference, (item.bounds, item.tag))

entries_back : (items : List Item) → map entry_of (objects_of items) ≡ items
entries_back [] = refl
entries_back (item ∷ items) = ap (λ (l : List Item). item ∷ l) (entries_back items)

pub objects_length : {D : ℕ} (entries : List (Entry D)) → length (objects_of (items_of entries)) ≡ length entries
objects_length entries = length-map (items_of entries) object_of ∙ length-map entries item_of

pub slice_objects : {D : ℕ} (entries : List (Entry D)) (n from : ℕ)
    → objects_of (items_of (take n (drop from entries))) ≡ take n (drop from (objects_of (items_of entries)))
slice_objects entries n from =
    sym
    (ap (take n) (drop-map object_of from (items_of entries) ∙ ap (map object_of) (drop-map item_of from entries))
    ∙ take-map object_of n (items_of (drop from entries)) ∙ ap (map object_of) (take-map item_of n (drop from entries)))

-- a test for what is near a box passes for a box if it passes for one in it
pub near_guards : (dims limit : ℕ) (w a b : Bounds) → Within dims a b → near_test dims limit w a ≡ true
    → near_test dims limit w b ≡ true
near_guards dims limit w a b within passes = at (near_test dims limit w b) refl
  where
    at : (t : Bool) → near_test dims limit w b ≡ t → t ≡ true
    at true e = refl
    at false e = absurd (let fails = fails_below dims limit w w a b (Within-refl dims w) within e in cc)

pub group_looks : (dims limit most : ℕ) (m : PageMap) (root : Root) (t : Tree) (items : List Item)
    → IsTreeAt dims most m root t
    → 1 + reached (near_test dims limit (least_box dims items)) t.row ≡ looks_of_group dims limit t (objects_of items)
group_looks dims limit most m root t items is =
    ap (λ (xs : List Item). 1 + reached (near_test dims limit (least_box dims xs)) t.row) (sym (entries_back items))
    ∙ sym
    (admitted_are_reached dims most t (near_test dims limit (least_box dims (map entry_of (objects_of items))))
    (loose dims most t is.shape)
    (λ a b box within passes.
    near_guards dims limit (least_box dims (map entry_of (objects_of items))) a b within passes))

-- ---- the groups in turn

none_beside : (dims limit : ℕ) (t : Tree) (rows : List (ℕ × Object)) → length rows ≡ 0
    → looks_beside dims limit rows t ≡ 0
none_beside dims limit t rows none =
    let no_group : (length rows + 63) / 64 ≡ 0 = omega (arith, none) in
    ap (λ (n : ℕ). looks_of_groups dims limit t n rows) no_group

group_beside : (dims limit : ℕ) (t : Tree) (rows : List (ℕ × Object)) → 0 < length rows
    → looks_beside dims limit rows t ≡ looks_of_group dims limit t (take 64 rows)
    + looks_beside dims limit (drop 64 rows) t
group_beside dims limit t rows some =
    let groups : (length rows + 63) / 64 ≡ suc ((length (drop 64 rows) + 63) / 64) =
    omega (arith, some, length-drop 64 rows) in
    ap (λ (n : ℕ). looks_of_groups dims limit t n rows) groups

-- the rows of the next group, and those after it
pub group_is : (rows : List (ℕ × Object)) (from to : ℕ) → from < length rows → to ≡ min (length rows) (from + 64)
    → take (to - from) (drop from rows) ≡ take 64 (drop from rows)
group_is rows from to within is =
    let many : to - from ≡ min 64 (length (drop from rows)) =
    omega (arith, within, is, length-drop from rows) in
    ap (λ (n : ℕ). take n (drop from rows)) many ∙ take_min 64 (drop from rows)

pub others_are : (rows : List (ℕ × Object)) (from to : ℕ) → to ≡ min (length rows) (from + 64)
    → drop 64 (drop from rows) ≡ drop to rows
others_are rows from to is =
    let turned : min (from + 64) (length rows) ≡ to = omega (arith, is) in
    drop-drop 64 from rows ∙ sym (drop_min (from + 64) rows) ∙ ap (λ (n : ℕ). drop n rows) turned

sum_split : (dims limit n : ℕ) (f : ℕ × ℕ → ℕ) (rows others : List (ℕ × Object))
    → total f (near_objects dims limit rows others) ≡ total f (near_objects dims limit (take n rows) others)
    + total f (near_objects dims limit (drop n rows) others)
sum_split dims limit n f rows others =
    ap (λ (l : List (ℕ × Object)). total f (near_objects dims limit l others)) (sym (take-append-drop n rows))
    ∙ sum-left dims limit f (take n rows) (drop n rows) others

module _ {B A : Type 0} {m : _} where
  -- the pairs of the rows before this place are added, and so many nodes looked at for them
  pub record Gone (dims limit : ℕ) (old now : PageCache B A m) (root : Root) (rows left : List (ℕ × Object))
      (pairs_now : List (ℕ × ℕ)) : Type 0 where
    pub asks : AsksUntil old now None
    pub added : IsHonest old → (t : Tree) (most : ℕ) → IsTreeAt dims most (pages old) root t → (f : ℕ × ℕ → ℕ)
        → total f pairs_now + total f (near_objects dims limit left (objects_in t.row)) ≡ total f
        (near_objects dims limit rows (objects_in t.row))
    pub looked : IsHonest old → (t : Tree) (most : ℕ) → IsTreeAt dims most (pages old) root t
        → looks_of now + looks_beside dims limit left t ≤ looks_of old + looks_beside dims limit rows t

  module _ {dims limit : ℕ} {old now : PageCache B A m} {root : Root} {rows left : List (ℕ × Object)}
      {pairs_now : List (ℕ × ℕ)} (so_far : Gone dims limit old now root rows left pairs_now) where
    pub still_there : IsHonest old → (t : Tree) (most : ℕ) → IsTreeAt dims most (pages old) root t
        → StandsAt dims (pages now) root.page root.level t.row
    still_there h t most is =
        still_stands old now root.page root.level t.row so_far.asks h (tree_at dims most (pages old) root t is)

    pub group_gone : (next : PageCache B A m) (pairs_next : List (ℕ × ℕ)) (group : List Item)
        → 0 < length left → objects_of group ≡ take 64 left → AsksUntil now next None
        → (IsHonest now → (row : Row) → StandsAt dims (pages now) root.page root.level row → Encloses dims row
        → GainsRows dims limit (objects_of group) row pairs_now pairs_next)
        → (IsHonest now → (row : Row) → StandsAt dims (pages now) root.page root.level row
        → looks_of next ≤ looks_of now
        + (1 + reached (near_test dims limit (least_box dims group)) row))
        → Gone dims limit old next root rows (drop 64 left) pairs_next
    unfolding still_there
    group_gone next pairs_next group some is asks adds looks = record {
      asks = asks_in_turn old now next None so_far.asks asks;
      added = λ h t most tree f.
          let found =
          adds (so_far.asks.gate.honest.0 h) t.row (still_there h t most tree)
          (shape_encloses dims most t.row tree.shape.below) f in
          let same =
          ap (λ (l : List (ℕ × Object)). total f (near_objects dims limit l (objects_in t.row))) is in
          omega (
            arith,
            so_far.added h t most tree f,
            found,
            same,
            sum_split dims limit 64 f left (objects_in t.row),
          );
      looked = λ h t most tree.
          let found = looks (so_far.asks.gate.honest.0 h) t.row (still_there h t most tree) in
          let same = group_looks dims limit most (pages old) root t group tree
          ∙ ap (looks_of_group dims limit t) is in
          omega (arith, so_far.looked h t most tree, found, same, group_beside dims limit t left some);
    }

    -- all are
    pub rows_answered : length left ≡ 0 → (sorted : List (ℕ × ℕ)) → IsPermutation pairs_now sorted
        → IsSorted pair_cmp sorted → IsHonest old → (t : Tree) (most : ℕ) → IsTreeAt dims most (pages old) root t
        → IsRowsAnswer dims limit rows t sorted
    rows_answered none sorted moved ordered h t most is =
        let done = drop_all 0 left (omega (arith, none)) in
        let same : (f : ℕ × ℕ → ℕ)
        → total f (near_objects dims limit rows (objects_in t.row)) ≡ total f pairs_now =
        λ f.
        let nothing =
        ap (λ (l : List (ℕ × Object)). total f (near_objects dims limit l (objects_in t.row))) done in
        omega (arith, so_far.added h t most is f, nothing) in
        record {
          all = IsPermutation-trans (near_objects dims limit rows (objects_in t.row)) pairs_now sorted
              (equal_sums_permute (near_objects dims limit rows (objects_in t.row)) pairs_now same) moved;
          order = ordered;
        }
