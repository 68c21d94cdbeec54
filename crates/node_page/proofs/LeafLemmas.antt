-- Leaves read one after another.
use Rattle.std.proofs.Common.{◌≡◌, ◌∙◌, ℕ, zero, suc, ◌+◌, ◌-◌, ◌<◌, ◌≤◌, true, None, Some, List, [], ◌∷◌}
use Rattle.std.proofs.Common.{◌++◌, length, drop, take, map, get_or, All, ◌^◌, refl, sym, ap, ap₂, subst}
use Rattle.std.proofs.Common.{arith}
use Rattle.std.proofs.lemmas.List.{append_assoc, append-nil, length-map, take_all}
use Rattle.std.proofs.lemmas.List.Elements.{All-get_or}
use Rattle.std.proofs.Math.Seq.{take-suc}
use Rattle.block_device.specs.Device.{one_more}
use Rattle.page_cache.specs.Cache.{IsHonest, given, looks_of}
use Rattle.page_cache.specs.Calls.{AsksUntil, asks_in_turn}
use Rattle.page_cache.specs.declared.cache.PageCache.{PageCache}
use Rattle.tree_node.specs.declared.node.Entry.{Entry}
use Rattle.tree_node.specs.Nodes.{NodeContent, Item, item_of, references_of}
use Rattle.node_bytes.specs.Layout.{IsOfLevel}
use Rattle.tree_node.specs.Searches.{counted, passing}
use Rattle.tree_node.specs.Trees.{Row, end, more, object, child, ids_in, leaf_ids, row_items}
use Rattle.node_page.specs.Standing.{PageMap, RowStands, StandsAt, node_in}
use Rattle.tree_node.proofs.RowLemmas.{entry_item, items_from, no_leaves, row_drop}
use Rattle.tree_node.proofs.SearchLemmas.{counts_go_on}
use Rattle.node_page.proofs.RowEnds.{items_add_child, leaves_add, nodes_add, row_add, stands_add}
use Rattle.node_page.specs.Lists.{AddsLeavesAt}
use Rattle.node_page.proofs.StandingLemmas.{node_stays, row_stays, same_content}

pub dropped_stands : (dims : ℕ) (m : PageMap) (level n : ℕ) (row : Row) → RowStands dims m level row
    → RowStands dims m level (row_drop n row)
dropped_stands dims m level zero row h = h
dropped_stands dims m level (suc n) end h = h
dropped_stands dims m level (suc n) (more (object kept id) rest) h = dropped_stands dims m level n rest h.1
dropped_stands dims m level (suc n) (more (child bounds page below) rest) h =
    dropped_stands dims m level n rest h.3

-- the tree below the first entry
pub below_first : (dims : ℕ) (m : PageMap) (level : ℕ) (row : Row) (x : Item) (xs : List Item)
    → row_items row ≡ x ∷ xs → 0 < level → RowStands dims m level row
    → (below : Row) × StandsAt dims m x.reference (level - 1) below
below_first dims m level end x xs same above stands = absurd (cc)
below_first dims m level (more (object kept id) rest) x xs same above stands =
    absurd (omega (arith, above, stands.0))
below_first dims m level (more (child bounds page below) rest) x xs same above stands =
    let item : ◌≡◌ {A = Item} (record { bounds = bounds; reference = page; tag = 0 }) x = cc in (
      below,
      subst (λ n. StandsAt dims m n (level - 1) below) (ap (λ (y : Item). y.reference) item)
          (record { node = stands.1; below = stands.2 }),
    )

-- a leaf has its identifiers
ids_are : (dims : ℕ) (m : PageMap) (row : Row) → RowStands dims m 0 row
    → ids_in row ≡ map (λ (item : Item). item.reference) (row_items row)
ids_are dims m end stands = refl
ids_are dims m (more (object kept id) rest) stands = ap (λ ids. id ∷ ids) (ids_are dims m rest stands.1)
ids_are dims m (more (child bounds page below) rest) stands = absurd (omega (arith, stands.0))

-- the node that was read is that of the tree
pub entries_there : (dims : ℕ) (m : PageMap) (page level : ℕ) (row : Row) (c : NodeContent)
    → StandsAt dims m page level row → node_in dims (m page) ≡ Some c → row_items row ≡ c.entries
entries_there dims m page level row c at is =
    ap (λ (x : NodeContent). x.entries)
    (same_content dims m page (record { level = level; entries = row_items row }) c at.node is)

pub leaf_there : (dims : ℕ) (m : PageMap) (page level : ℕ) (row : Row) (c : NodeContent) → level ≡ 0
    → StandsAt dims m page level row → node_in dims (m page) ≡ Some c
    → references_of c ∷ [] ≡ leaf_ids level row
leaf_there dims m page level row c leaf at is =
    let same = entries_there dims m page level row c at is in
    let ids = ids_are dims m row (subst (λ l. RowStands dims m l row) leaf at.below)
    ∙ ap (map (λ (item : Item). item.reference)) same in
    ap (λ xs. xs ∷ []) (sym ids) ∙ ap (λ l. leaf_ids l row) (sym leaf)

-- all references are read
pub references_read : {dims : ℕ} (entries all : List (Entry dims)) (n : ℕ) (ids : List ℕ)
    → ids ≡ map (λ (entry : Entry dims). entry.reference) (take n entries) → length entries ≤ n
    → entries ≡ all → ids ≡ map (λ (item : Item). item.reference) (map item_of all)
references_read entries all n ids is past same = is
    ∙ ap (map (λ entry. entry.reference)) (take_all n entries past ∙ same) ∙ fused all
  where
    fused : {dims : ℕ} (es : List (Entry dims))
        → map (λ (entry : Entry dims). entry.reference) es ≡ map (λ (item : Item). item.reference)
        (map item_of es)
    fused [] = refl
    fused (e ∷ es) = ap (λ xs. e.reference ∷ xs) (fused es)

-- ---- a leaf alone

abbrev pub leaf_row : List Item → Row
leaf_row [] = end
leaf_row (item ∷ items) = more (object (item.bounds, item.tag) item.reference) (leaf_row items)

pub items-leaf_row : (items : List Item) → row_items (leaf_row items) ≡ items
items-leaf_row [] = refl
items-leaf_row (item ∷ items) = ap (λ (xs : List Item). item ∷ xs) (items-leaf_row items)

pub stands-leaf_row : (dims : ℕ) (m : PageMap) (items : List Item) → RowStands dims m 0 (leaf_row items)
stands-leaf_row dims m [] = tt
stands-leaf_row dims m (item ∷ items) = (refl, stands-leaf_row dims m items)

nodes-leaf_row : (items : List Item) → passing (λ b. true) (leaf_row items) ≡ 0
nodes-leaf_row [] = refl
nodes-leaf_row (item ∷ items) = nodes-leaf_row items

pub same_node : (c : NodeContent) (level : ℕ) (items : List Item) → c.level ≡ level → c.entries ≡ items
    → ◌≡◌ {A = NodeContent} c (record { level = level; entries = items })
same_node c level items e f = ap₂ (λ (l : ℕ) (xs : List Item). record { level = l; entries = xs }) e f

-- a node on level 0 stands by itself
pub leaf_found : (dims : ℕ) (m : PageMap) (page level : ℕ) (c : NodeContent)
    (lists lists_now : List (List ℕ)) (looks looks_now : ℕ) → level ≡ 0 → c.level ≡ level
    → node_in dims (m page) ≡ Some c
    → lists_now ≡ lists ++ references_of c ∷ [] → looks_now ≡ one_more looks
    → AddsLeavesAt dims m page level lists lists_now looks looks_now
leaf_found dims m page level c lists lists_now looks looks_now leaf same there added looked =
    let row = leaf_row c.entries in
    let content : ◌≡◌ {A = NodeContent} c (record { level = level; entries = row_items row }) =
    same_node c level (row_items row) same (sym (items-leaf_row c.entries)) in
    let at : StandsAt dims m page level row = record {
      node = there ∙ ap (λ (x : NodeContent). Some x) content;
      below = subst (λ l. RowStands dims m l row) (sym leaf) (stands-leaf_row dims m c.entries);
    } in
    record {
      row = row;
      stands = at;
      lists_are = added
          ∙ ap (λ (xs : List (List ℕ)). lists ++ xs) (leaf_there dims m page level row c leaf at there);
      looks_are = omega (arith, looked, nodes-leaf_row c.entries);
    }

-- ---- what a loop over the entries of a node has read

-- a tree stands where its pages are the same
pub stands_on : (dims : ℕ) (old new : PageMap) (page level : ℕ) (row : Row) → ((n : ℕ) → new n ≡ old n)
    → StandsAt dims old page level row → StandsAt dims new page level row
stands_on dims old new page level row same at = record {
  node = node_stays dims old new page level row (same page) at.node;
  below = row_stays dims old new level row (λ n there. same n) at.below;
}

-- a child above the leaves has a page and no tag
child_of_level : {dims : ℕ} (level : ℕ) (all entries : List (Entry dims)) (i : ℕ) (e : Entry dims)
    → All (λ item. IsOfLevel level item.reference item.tag) (map item_of all) → entries ≡ all
    → i < length entries → e ≡ get_or entries i e
    → IsOfLevel level e.reference e.tag
child_of_level level all entries i e refers same within is =
    let P : Item → Type 0 = λ item. IsOfLevel level item.reference item.tag in
    let here : All P (map item_of entries) = subst (λ es. All P (map item_of es)) (sym same) refers in
    let at =
    All-get_or P (map item_of entries) i (item_of e) (omega (arith, within, length-map entries item_of))
    here in
    subst P (sym (entry_item entries i e within is)) at

pub child_page : {dims : ℕ} (level : ℕ) (all entries : List (Entry dims)) (i : ℕ) (e : Entry dims)
    → All (λ item. IsOfLevel level item.reference item.tag) (map item_of all) → entries ≡ all
    → i < length entries → e ≡ get_or entries i e → 0 < level → e.reference < 2 ^ 31
child_page level all entries i e refers same within is above =
    (child_of_level level all entries i e refers same within is above).1

pub child_tag : {dims : ℕ} (level : ℕ) (all entries : List (Entry dims)) (i : ℕ) (e : Entry dims)
    → All (λ item. IsOfLevel level item.reference item.tag) (map item_of all) → entries ≡ all
    → i < length entries → e ≡ get_or entries i e → 0 < level → e.tag ≡ 0
child_tag level all entries i e refers same within is above =
    (child_of_level level all entries i e refers same within is above).2

-- the leaves below the entries before place i, which stand in the pages
pub record Found (dims : ℕ) (m : PageMap) (level : ℕ) (items : List Item) (i : ℕ)
    (lists lists_now : List (List ℕ)) (looks looks_now : ℕ) : Type 0 where
  pub row : Row
  pub items_are : row_items row ≡ take i items
  pub stands : RowStands dims m level row
  pub lists_are : lists_now ≡ lists ++ leaf_ids level row
  pub looks_are : looks_now ≡ counted looks (1 + passing (λ b. true) row)

module _ (dims : ℕ) (m : PageMap) (level : ℕ) (items : List Item) (lists : List (List ℕ)) (looks : ℕ) where
  pub found_none : (looks_now : ℕ) → 0 < level → looks_now ≡ one_more looks
      → Found dims m level items 0 lists lists looks looks_now
  found_none looks_now above looked = record {
    row = end;
    items_are = refl;
    stands = tt;
    lists_are = sym (append-nil lists)
        ∙ ap (λ (xs : List (List ℕ)). lists ++ xs) (sym (no_leaves level above));
    looks_are = omega (arith, looked);
  }

  pub found_more : (i : ℕ) (x : Item) (lists_now lists_next : List (List ℕ)) (looks_now looks_next : ℕ)
      → 0 < level → x.tag ≡ 0 → i < length items → x ≡ get_or items i x
      → Found dims m level items i lists lists_now looks looks_now
      → AddsLeavesAt dims m x.reference (level - 1) lists_now lists_next looks_now looks_next
      → Found dims m level items (i + 1) lists lists_next looks looks_next
  found_more i x lists_now lists_next looks_now looks_next above untagged within is so_far added =
      let below = added.row in
      let up : suc (level - 1) ≡ level = omega arith in
      let p = passing (λ b. true) so_far.row in
      let q = passing (λ b. true) below in
      record {
        row = row_add so_far.row (child x.bounds x.reference below);
        items_are = items_add_child x below so_far.row untagged
            ∙ ap (λ (xs : List Item). xs ++ x ∷ []) so_far.items_are
            ∙ ap (λ (y : Item). take i items ++ y ∷ []) is
            ∙ sym (take-suc items i x within)
            ∙ ap (λ (n : ℕ). take n items) (let e : suc i ≡ i + 1 = omega arith in e);
        stands =
            stands_add x.bounds x.reference below dims m level so_far.row above added.stands.node
            added.stands.below so_far.stands;
        lists_are = added.lists_are
            ∙ ap (λ (xs : List (List ℕ)). xs ++ leaf_ids (level - 1) below) so_far.lists_are
            ∙ append_assoc lists (leaf_ids level so_far.row) (leaf_ids (level - 1) below)
            ∙ ap (λ (xs : List (List ℕ)). lists ++ xs)
            (subst (λ (l : ℕ). leaf_ids l so_far.row
            ++ leaf_ids (level - 1) below ≡ leaf_ids l
            (row_add so_far.row (child x.bounds x.reference below))) up
            (sym (leaves_add x.bounds x.reference below (level - 1) so_far.row)));
        looks_are = added.looks_are ∙ ap (λ (n : ℕ). counted n (1 + q)) so_far.looks_are
            ∙ counts_go_on looks (1 + p) (1 + q)
            ∙ ap (counted looks)
            (let e : 1 + p + (1 + q) ≡ 1 + passing (λ b. true)
            (row_add so_far.row (child x.bounds x.reference below)) =
            omega (arith, nodes_add x.bounds x.reference below so_far.row) in e);
      }

  pub found_all : (page i : ℕ) (c : NodeContent) (lists_now : List (List ℕ)) (looks_now : ℕ)
      → length items ≤ i → node_in dims (m page) ≡ Some c → c.level ≡ level → c.entries ≡ items
      → Found dims m level items i lists lists_now looks looks_now
      → AddsLeavesAt dims m page level lists lists_now looks looks_now
  found_all page i c lists_now looks_now past there at_level same so_far = record {
    row = so_far.row;
    stands = record {
      node = there
          ∙ ap (λ (x : NodeContent). Some x)
          (same_node c level (row_items so_far.row) at_level
          (same ∙ sym (so_far.items_are ∙ take_all i items past)));
      below = so_far.stands;
    };
    lists_are = so_far.lists_are;
    looks_are = so_far.looks_are;
  }

module _ {B A : Type 0} {m : _} where
  -- the leaves below the entries before place i are read
  pub record Progress (dims : ℕ) (old now : PageCache B A m) (level : ℕ) (entries : List (Entry dims))
      (i : ℕ) (lists lists_now : List (List ℕ)) : Type 0 where
    pub asks : AsksUntil old now None
    pub found : IsHonest old
        → Found dims (given old) level (map item_of entries) i lists lists_now (looks_of old) (looks_of now)

  module _ {dims : ℕ} {old now : PageCache B A m} {level : ℕ} {entries : List (Entry dims)} {i : ℕ}
      {lists lists_now : List (List ℕ)} (so_far : Progress dims old now level entries i lists lists_now) where
    -- the tree below the entry that the loop is at
    pub below_here : (e : Entry dims) → i < length entries → e ≡ get_or entries i e → 0 < level
        → IsHonest old → (row : Row) → row_items row ≡ map item_of entries
        → RowStands dims (given old) level row
        → (below : Row) × StandsAt dims (given now) e.reference (level - 1) below
    below_here e within is above h row same stands =
        let here =
        items_from row (map item_of entries) i (item_of e) same
        (omega (arith, within, length-map entries item_of)) (entry_item entries i e within is) in
        let b = below_first dims (given old) level (row_drop i row) (item_of e)
        (drop (i + 1) (map item_of entries)) here above
        (dropped_stands dims (given old) level i row stands) in (
          b.0,
          stands_on dims (given old) (given now) e.reference (level - 1) b.0
              (so_far.asks.map.given_stay h) b.1,
        )

    pub one_more_read : (e : Entry dims) → i < length entries → e ≡ get_or entries i e → 0 < level
        → e.tag ≡ 0 → (next : PageCache B A m) (lists_next : List (List ℕ)) → AsksUntil now next None
        → (IsHonest now
        → AddsLeavesAt dims (given now) e.reference (level - 1) lists_now lists_next (looks_of now)
        (looks_of next))
        → Progress dims old next level entries (i + 1) lists lists_next
    one_more_read e within is above untagged next lists_next asks reads = record {
      asks = asks_in_turn old now next None so_far.asks asks;
      found = λ h.
          let added = reads (so_far.asks.gate.honest.0 h) in
          let back : StandsAt dims (given old) e.reference (level - 1) added.row =
          stands_on dims (given now) (given old) e.reference (level - 1) added.row
          (λ n. sym (so_far.asks.map.given_stay h n)) added.stands in
          found_more dims (given old) level (map item_of entries) lists (looks_of old) i (item_of e)
          lists_now lists_next (looks_of now) (looks_of next) above untagged
          (omega (arith, within, length-map entries item_of)) (entry_item entries i e within is)
          (so_far.found h)
          (record {
            row = added.row;
            stands = back;
            lists_are = added.lists_are;
            looks_are = added.looks_are;
          });
    }
