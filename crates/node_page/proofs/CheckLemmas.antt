-- Trees checked one after the other.
use Rattle.std.proofs.Common.{◌≡◌, ◌∙◌, ◌⊎◌, ℕ, suc, ◌+◌, ◌-◌, ◌<◌, ◌≤◌, cond, eqb, None, Some, List, [], ◌∷◌}
use Rattle.std.proofs.Common.{◌++◌, length, drop, take, map, get_or, All, length-append, Result, IsErrAnd}
use Rattle.std.proofs.Common.{refl, sym, ap, subst, inl, inr, ⊎_elim, arith}
use Rattle.std.proofs.lemmas.List.{append_assoc, append-nil, take_all}
use Rattle.std.proofs.lemmas.List.Elements.{All-head, All-tail}
use Rattle.std.proofs.Math.Seq.{take-suc}
use Rattle.box_math.specs.Bounds.{Bounds, IsBox}
use Rattle.box_math.specs.Objects.{Object}
use Rattle.page_cache.specs.Cache.{IsHonest, IsPageMap, given, looks_of, pages}
use Rattle.page_cache.specs.Calls.{Asks, AsksUntil, ends_so}
use Rattle.page_cache.specs.declared.cache.PageCache.{PageCache}
use Rattle.page_file.specs.Fault.{IsDamage, IsOfDevice, faults_after}
use Rattle.page_file.specs.declared.fault.Fault.{Fault}
use Rattle.page_file.specs.declared.fault.Fault.TheVariants as fault
use Rattle.tree_node.specs.declared.node.Entry.{Entry}
use Rattle.tree_node.specs.Boxes.{RowHasBoxes, least_box}
use Rattle.tree_node.specs.Nodes.{Item, NodeContent, item_of}
use Rattle.tree_node.specs.Shape.{HasShape, IsLeastBox, RowHasShape, RowWithin, least_entries}
use Rattle.tree_node.specs.Trees.{Row, Tree, end, more, object, child, objects_in, occurs, occurs_in}
use Rattle.tree_node.specs.Trees.{row_items, row_length}
use Rattle.tree_node.proofs.BoxLemmas.{join_is_least_box, one_least_box}
use Rattle.tree_node.proofs.RowLemmas.{items_from, occurs_here, row_drop}
use Rattle.node_page.specs.Checked.{AddsTree, IsCheckedTree, pairs_of}
use Rattle.node_page.specs.Standing.{HasNode, PageMap, RowStands, StandsAt, node_in}
use Rattle.node_page.specs.Visits.{times_in}
use Rattle.node_page.proofs.GivenLemmas.{given_tree_is_live}
use Rattle.node_page.proofs.LeafLemmas.{dropped_stands, entries_there, items-leaf_row, leaf_row, same_node}
use Rattle.node_page.proofs.LeafLemmas.{stands-leaf_row}
use Rattle.node_page.proofs.RowEnds.{dropped_shape, items_add_child, items_taken, length_items, objects_add}
use Rattle.node_page.proofs.RowEnds.{occurs_add, occurs_split, row_add, row_take, shape_add, stands_add}
use Rattle.node_page.proofs.RowEnds.{taken_stands}
use Rattle.node_page.proofs.StandingLemmas.{one_row, row_on_level, row_stays}
use Rattle.node_page.proofs.VisitLemmas.{times_more}

-- ---- least boxes, by the entries of a node alone

leaf_boxes : (dims : ℕ) (items : List Item) → All (λ item. IsBox dims item.bounds) items
    → RowHasBoxes dims (leaf_row items)
leaf_boxes dims [] boxes = tt
leaf_boxes dims (x ∷ xs) boxes = (
  All-head (λ (item : Item). IsBox dims item.bounds) x xs boxes,
  leaf_boxes dims xs (All-tail (λ (item : Item). IsBox dims item.bounds) x xs boxes),
)

within_leaf : (dims : ℕ) (b : Bounds) (row : Row) → RowWithin dims row b
    → RowWithin dims (leaf_row (row_items row)) b
within_leaf dims b end h = tt
within_leaf dims b (more (object kept id) rest) h = (h.0, within_leaf dims b rest h.1)
within_leaf dims b (more (child bounds page below) rest) h = (h.0, within_leaf dims b rest h.1)

leaf_within : (dims : ℕ) (b : Bounds) (row : Row) → RowWithin dims (leaf_row (row_items row)) b
    → RowWithin dims row b
leaf_within dims b end h = tt
leaf_within dims b (more (object kept id) rest) h = (h.0, leaf_within dims b rest h.1)
leaf_within dims b (more (child bounds page below) rest) h = (h.0, leaf_within dims b rest h.1)

pub least_of_items : (dims : ℕ) (row : Row) → 0 < row_length row
    → All (λ item. IsBox dims item.bounds) (row_items row)
    → IsLeastBox dims (least_box dims (row_items row)) row
least_of_items dims row some boxes =
    let leaf = leaf_row (row_items row) in
    let many : 0 < row_length leaf =
    omega (
      arith,
      some,
      length_items row,
      length_items leaf,
      ap length (items-leaf_row (row_items row)),
    ) in
    let least : IsLeastBox dims (least_box dims (row_items leaf)) leaf =
    join_is_least_box dims leaf many (leaf_boxes dims (row_items row) boxes) in
    let here : IsLeastBox dims (least_box dims (row_items row)) leaf =
    subst (λ (xs : List Item). IsLeastBox dims (least_box dims xs) leaf) (items-leaf_row (row_items row))
    least in
    record {
      box = here.box;
      encloses = leaf_within dims _ row here.encloses;
      least = λ c box within. here.least c box (within_leaf dims c row within);
    }

-- ---- a leaf

leaf_shape : (dims most : ℕ) (items : List Item) → RowHasShape dims most (leaf_row items)
leaf_shape dims most [] = tt
leaf_shape dims most (x ∷ xs) = leaf_shape dims most xs

leaf_objects : (items : List Item) → objects_in (leaf_row items) ≡ pairs_of items
leaf_objects [] = refl
leaf_objects (x ∷ xs) =
    ap (λ (ps : List (ℕ × Object)). (x.reference, (x.bounds, x.tag)) ∷ ps) (leaf_objects xs)

leaf_pages : (n : ℕ) (items : List Item) → occurs n (leaf_row items) ≡ 0
leaf_pages n [] = refl
leaf_pages n (x ∷ xs) = leaf_pages n xs

pub leaf_adds : (dims most : ℕ) (m : PageMap) (c : NodeContent) (pairs pairs_now : List (ℕ × Object))
    (list : List ℕ) → c.level ≡ 0 → pairs_now ≡ pairs ++ pairs_of c.entries
    → AddsTree dims most m c pairs pairs_now list list
leaf_adds dims most m c pairs pairs_now list low added = record {
  row = leaf_row c.entries;
  items_are = items-leaf_row c.entries;
  stands =
      subst (λ (l : ℕ). RowStands dims m l (leaf_row c.entries)) (sym low) (stands-leaf_row dims m c.entries);
  shape = leaf_shape dims most c.entries;
  pairs_are = added ∙ ap (λ (ps : List (ℕ × Object)). pairs ++ ps) (sym (leaf_objects c.entries));
  pages_are = λ n. omega (arith, leaf_pages n c.entries);
}

-- ---- the trees below the first entries of a node

pub record Checked (dims most : ℕ) (m : PageMap) (level : ℕ) (items : List Item) (i : ℕ)
    (pairs pairs_now : List (ℕ × Object)) (list list_now : List ℕ) : Type 0 where
  pub row : Row
  pub items_are : row_items row ≡ take i items
  pub stands : RowStands dims m level row
  pub shape : RowHasShape dims most row
  pub pairs_are : pairs_now ≡ pairs ++ objects_in row
  pub pages_are : (n : ℕ) → times_in n list_now ≡ times_in n list + occurs n row

-- a node that was read and fits below an entry
pub record Fits (dims most : ℕ) (m : PageMap) (level : ℕ) (x : Item) (c : NodeContent) : Type 0 where
  pub there : node_in dims (m x.reference) ≡ Some c
  pub at_level : c.level ≡ level
  pub boxes : All (λ item. IsBox dims item.bounds) c.entries
  pub least : least_entries most ≤ length c.entries
  pub few : length c.entries ≤ most
  pub box : x.bounds ≡ least_box dims c.entries

module _ (dims most : ℕ) (m : PageMap) (level : ℕ) (items : List Item) (pairs : List (ℕ × Object))
    (list : List ℕ) where
  pub checked_none : Checked dims most m level items 0 pairs pairs list list
  checked_none =
      record {
        row = end;
        items_are = refl;
        stands = tt;
        shape = tt;
        pairs_are = sym (append-nil pairs);
        pages_are = λ n. omega arith;
      }

  pub checked_more : (i : ℕ) (x : Item) (c : NodeContent) (pairs_now pairs_next : List (ℕ × Object))
      (list_now list_mid list_next : List ℕ) → 0 < level → x.tag ≡ 0 → i < length items → x ≡ get_or items i x
      → Checked dims most m level items i pairs pairs_now list list_now
      → list_mid ≡ list_now ++ x.reference ∷ [] → Fits dims most m (level - 1) x c
      → AddsTree dims most m c pairs_now pairs_next list_mid list_next
      → Checked dims most m level items (i + 1) pairs pairs_next list list_next
  checked_more i x c pairs_now pairs_next list_now list_mid list_next above untagged within is so_far visited
      fits added =
      let below = added.row in
      let many : length c.entries ≡ row_length below = ap length (sym added.items_are) ∙ length_items below in
      let boxes : All (λ item. IsBox dims item.bounds) (row_items below) =
      subst (λ (xs : List Item). All (λ item. IsBox dims item.bounds) xs) (sym added.items_are)
      fits.boxes in
      let some : 0 < row_length below = omega (arith, many, fits.least) in
      let least : IsLeastBox dims x.bounds below =
      subst (λ (b : Bounds). IsLeastBox dims b below)
      (ap (least_box dims) added.items_are ∙ sym fits.box) (least_of_items dims below some boxes) in
      record {
        row = row_add so_far.row (child x.bounds x.reference below);
        items_are = items_add_child x below so_far.row untagged
            ∙ ap (λ (xs : List Item). xs ++ x ∷ []) so_far.items_are
            ∙ ap (λ (y : Item). take i items ++ y ∷ []) is
            ∙ sym (take-suc items i x within)
            ∙ ap (λ (n : ℕ). take n items) (let e : suc i ≡ i + 1 = omega arith in e);
        stands = stands_add x.bounds x.reference below dims m level so_far.row above
            (fits.there
            ∙ ap (λ (y : NodeContent). Some y)
            (same_node c (level - 1) (row_items below) fits.at_level (sym added.items_are)))
            (subst (λ (l : ℕ). RowStands dims m l below) fits.at_level added.stands) so_far.stands;
        shape = shape_add x.bounds x.reference below dims most so_far.row (omega (arith, many, fits.least))
            (omega (arith, many, fits.few)) least added.shape so_far.shape;
        pairs_are = added.pairs_are
            ∙ ap (λ (ps : List (ℕ × Object)). ps ++ objects_in below) so_far.pairs_are
            ∙ append_assoc pairs (objects_in so_far.row) (objects_in below)
            ∙ ap (λ (ps : List (ℕ × Object)). pairs ++ ps)
            (sym (objects_add x.bounds x.reference below so_far.row));
        pages_are = λ n.
            let mid = ap (times_in n) visited ∙ times_more n x.reference list_now in
            omega (
              arith,
              added.pages_are n,
              mid,
              so_far.pages_are n,
              occurs_add x.bounds x.reference below n so_far.row,
            );
      }

  pub checked_all : (i : ℕ) (c : NodeContent) (pairs_now : List (ℕ × Object)) (list_now : List ℕ)
      → length items ≤ i → c.level ≡ level → c.entries ≡ items
      → Checked dims most m level items i pairs pairs_now list list_now
      → AddsTree dims most m c pairs pairs_now list list_now
  checked_all i c pairs_now list_now past at_level same so_far = record {
    row = so_far.row;
    items_are = so_far.items_are ∙ take_all i items past ∙ sym same;
    stands = subst (λ (l : ℕ). RowStands dims m l so_far.row) (sym at_level) so_far.stands;
    shape = so_far.shape;
    pairs_are = so_far.pairs_are;
    pages_are = so_far.pages_are;
  }

-- ---- a tree that stands and has the shape, at the entry that the loop is at

pub record Next (dims most : ℕ) (m : PageMap) (level : ℕ) (x : Item) (list_now : List ℕ) : Type 0 where
  pub below : Row
  pub node : HasNode dims m x.reference level below
  pub stands : RowStands dims m level below
  pub least : least_entries most ≤ row_length below
  pub few : row_length below ≤ most
  pub box : IsLeastBox dims x.bounds below
  pub shape : RowHasShape dims most below
  pub pages : (n : ℕ) → times_in n list_now + (cond (eqb x.reference n) 1 0 + occurs n below) ≤ 1

next_first : (dims most : ℕ) (m : PageMap) (level : ℕ) (row : Row) (x : Item) (xs : List Item)
    (list_now : List ℕ) → row_items row ≡ x ∷ xs → 0 < level → RowStands dims m level row
    → RowHasShape dims most row
    → ((n : ℕ) → times_in n list_now + occurs n row ≤ 1) → Next dims most m (level - 1) x list_now
next_first dims most m level end x xs list_now same above stands shape once = absurd (cc)
next_first dims most m level (more (object kept id) rest) x xs list_now same above stands shape once =
    absurd (omega (arith, above, stands.0))
next_first dims most m level (more (child bounds page below) rest) x xs list_now same above stands shape
    once =
    let item : ◌≡◌ {A = Item} (record { bounds = bounds; reference = page; tag = 0 }) x = cc in
    subst (λ (y : Item). Next dims most m (level - 1) y list_now) item (record {
      below = below;
      node = stands.1;
      stands = stands.2;
      least = shape.0;
      few = shape.1;
      box = shape.2;
      shape = shape.3;
      pages = λ n. omega (arith, once n);
    })

pub next_here : (dims most : ℕ) (m : PageMap) (level : ℕ) (items : List Item)
    (pairs pairs_now : List (ℕ × Object)) (list list_now : List ℕ) (i : ℕ) (x : Item) (row : Row) → 0 < level
    → i < length items → x ≡ get_or items i x
    → Checked dims most m level items i pairs pairs_now list list_now → row_items row ≡ items
    → RowStands dims m level row → RowHasShape dims most row → ((n : ℕ) → times_in n list + occurs n row ≤ 1)
    → Next dims most m (level - 1) x list_now
next_here dims most m level items pairs pairs_now list list_now i x row above within is so_far same stands
    shape once =
    let first : so_far.row ≡ row_take i row =
    one_row dims m level so_far.row (row_take i row)
    (so_far.items_are ∙ ap (take i) (sym same) ∙ sym (items_taken i row)) so_far.stands
    (taken_stands dims m level i row stands) in
    next_first dims most m level (row_drop i row) x (drop (i + 1) items) list_now
    (items_from row items i x same within is) above (dropped_stands dims m level i row stands)
    (dropped_shape dims most i row shape)
    (λ n. omega (arith, once n, so_far.pages_are n, ap (occurs n) first, occurs_split n i row))

-- its node fits
pub next_fits : (dims most : ℕ) (m : PageMap) (level : ℕ) (x : Item) (list_now : List ℕ) (c : NodeContent)
    (next : Next dims most m level x list_now) → node_in dims (m x.reference) ≡ Some c
    → All (λ item. IsBox dims item.bounds) c.entries
    → (least_entries most ≤ length c.entries) × (length c.entries ≤ most)
    × (x.bounds ≡ least_box dims c.entries)
next_fits dims most m level x list_now c next there boxes =
    let same : row_items next.below ≡ c.entries =
    ap (λ (y : NodeContent). y.entries)
    (let e : ◌≡◌ {A = NodeContent} (record { level = level; entries = row_items next.below }) c = cc in
    e) in
    let many : length c.entries ≡ row_length next.below = ap length (sym same) ∙ length_items next.below in
    let some : 0 < row_length next.below = omega (arith, next.least) in
    let least =
    least_of_items dims next.below some
    (subst (λ (xs : List Item). All (λ item. IsBox dims item.bounds) xs) (sym same) boxes) in (
      omega (arith, many, next.least),
      omega (arith, many, next.few),
      one_least_box dims x.bounds (least_box dims (row_items next.below)) next.below next.box least
          ∙ ap (least_box dims) same,
    )

pub next_node : (dims most : ℕ) (m : PageMap) (level : ℕ) (x : Item) (list_now : List ℕ) (c : NodeContent)
    (next : Next dims most m level x list_now) → node_in dims (m x.reference) ≡ Some c
    → (row_items next.below ≡ c.entries) × (c.level ≡ level)
next_node dims most m level x list_now c next there =
    let e : ◌≡◌ {A = NodeContent} (record { level = level; entries = row_items next.below }) c = cc in
    (ap (λ (y : NodeContent). y.entries) e, sym (ap (λ (y : NodeContent). y.level) e))

-- its page was not visited, and after a visit those below it are not
pub next_unvisited : (dims most : ℕ) (m : PageMap) (level : ℕ) (x : Item) (list_now : List ℕ)
    (next : Next dims most m level x list_now) → times_in x.reference list_now ≡ 0
next_unvisited dims most m level x list_now next =
    omega (arith, next.pages x.reference, occurs_here x.reference)

pub next_visited : (dims most : ℕ) (m : PageMap) (level : ℕ) (x : Item) (list_now list_mid : List ℕ)
    (next : Next dims most m level x list_now) → list_mid ≡ list_now ++ x.reference ∷ [] → (n : ℕ)
    → times_in n list_mid + occurs n next.below ≤ 1
next_visited dims most m level x list_now list_mid next visited n = let mid = ap (times_in n) visited
    ∙ times_more n x.reference list_now in omega (arith, next.pages n, mid)

pub one_longer : (list list_mid : List ℕ) (page : ℕ) → list_mid ≡ list ++ page ∷ []
    → length list_mid ≡ length list + 1
one_longer list list_mid page visited = ap length visited ∙ length-append list (page ∷ [])

-- the same in pages that are equal
pub adds_on : (dims most : ℕ) (old new : PageMap) (c : NodeContent) (pairs pairs_now : List (ℕ × Object))
    (list list_now : List ℕ) → ((n : ℕ) → new n ≡ old n)
    → AddsTree dims most old c pairs pairs_now list list_now
    → AddsTree dims most new c pairs pairs_now list list_now
adds_on dims most old new c pairs pairs_now list list_now same a = record {
  row = a.row;
  items_are = a.items_are;
  stands = row_stays dims old new c.level a.row (λ n some. same n) a.stands;
  shape = a.shape;
  pairs_are = a.pairs_are;
  pages_are = a.pages_are;
}

-- ---- the whole tree

only_root : (n page : ℕ) (list : List ℕ) → list ≡ page ∷ [] → times_in n list ≡ cond (eqb page n) 1 0
only_root n page list is = ap (times_in n) is
    ∙ (let e : cond (eqb page n) 1 0 + 0 ≡ cond (eqb page n) 1 0 = omega arith in e)

pub tree_checked : (dims most : ℕ) (m : PageMap) (page level : ℕ) (c : NodeContent)
    (pairs pairs_now : List (ℕ × Object)) (list list_now : List ℕ) → node_in dims (m page) ≡ Some c
    → c.level ≡ level
    → (length c.entries ≤ most) × (0 < level → 2 ≤ length c.entries) → pairs ≡ [] → list ≡ page ∷ []
    → ((n : ℕ) → times_in n list_now ≤ 1) → AddsTree dims most m c pairs pairs_now list list_now
    → IsCheckedTree dims most m page level pairs_now list_now
tree_checked dims most m page level c pairs pairs_now list list_now there at_level count none root once a =
    let many : length c.entries ≡ row_length a.row = ap length (sym a.items_are) ∙ length_items a.row in
    let stands : RowStands dims m level a.row =
    subst (λ (l : ℕ). RowStands dims m l a.row) at_level a.stands in
    let pages : (n : ℕ)
    → times_in n list_now ≡ cond (eqb page n) 1 0 + occurs n a.row =
    λ n. omega (arith, a.pages_are n, only_root n page list root) in
    record {
      tree = record { page = page; level = level; row = a.row };
      page_is = refl;
      level_is = refl;
      stands = record {
        root = there
            ∙ ap (λ (y : NodeContent). Some y)
            (same_node c level (row_items a.row) at_level (sym a.items_are));
        below = stands;
        distinct = λ n. omega (arith, pages n, once n);
      };
      shape = record {
        levels = row_on_level dims m level a.row stands;
        few = omega (arith, many, count.0);
        some = λ above. omega (arith, many, count.1 above);
        below = a.shape;
      };
      pairs_are = a.pairs_are ∙ ap (λ (ps : List (ℕ × Object)). ps ++ objects_in a.row) none;
      pages_are = pages;
    }

-- one that stands has the count that a root may have, and none of its pages below is that of its root
pub root_count : (dims most : ℕ) (m : PageMap) (t : Tree) (page level : ℕ) (c : NodeContent)
    → t.level ≡ level → StandsAt dims m page level t.row → HasShape dims most t
    → node_in dims (m page) ≡ Some c
    → (length c.entries ≤ most) × (0 < level → 2 ≤ length c.entries)
root_count dims most m t page level c at_level stands shape there =
    let same = entries_there dims m page level t.row c stands there in
    let many : length c.entries ≡ row_length t.row = ap length (sym same) ∙ length_items t.row in (
      omega (arith, many, shape.few),
      λ above. omega (arith, many, shape.some (omega (arith, at_level, above))),
    )

pub root_visited : (t : Tree) (page : ℕ) (list : List ℕ) → t.page ≡ page → list ≡ page ∷ []
    → ((n : ℕ) → occurs_in n t ≤ 1) → (n : ℕ) → times_in n list + occurs n t.row ≤ 1
root_visited t page list at_page root once n =
    let moved : ◌≡◌ {A = ℕ} (cond (eqb t.page n) 1 0) (cond (eqb page n) 1 0) =
    ap (λ (p : ℕ). cond (eqb p n) 1 0) at_page in
    omega (arith, once n, only_root n page list root, moved)

-- ---- what a loop over the entries of a node has checked

module _ {B A : Type 0} {m : _} where
  pub record Walk (dims most : ℕ) (old now : PageCache B A m) (level : ℕ) (entries : List (Entry dims))
      (i : ℕ) (pairs pairs_now : List (ℕ × Object)) (list list_now : List ℕ) (marks marks_now : ℕ) : Type
      0 where
    pub asks : AsksUntil old now None
    pub checked : IsHonest old
        → Checked dims most (given old) level (map item_of entries) i pairs pairs_now list list_now
    pub numbers : marks_now ≡ marks
    pub looks : looks_of now + length list ≤ looks_of old + length list_now

  -- in a sound map what was checked in the pages given out stands in the live pages
  pub checked_live : (dims most : ℕ) (cache : PageCache B A m) (page level : ℕ) (pairs : List (ℕ × Object))
      (list : List ℕ) → IsPageMap cache → IsCheckedTree dims most (given cache) page level pairs list
      → IsCheckedTree dims most (pages cache) page level pairs list
  checked_live dims most cache page level pairs list sound is =
      let t = is.tree in
      let live =
      given_tree_is_live dims cache t.page t.level t.row sound
      (record { node = is.stands.root; below = is.stands.below }) in
      record {
        tree = t;
        page_is = is.page_is;
        level_is = is.level_is;
        stands = record { root = live.node; below = live.below; distinct = is.stands.distinct };
        shape = is.shape;
        pairs_are = is.pairs_are;
        pages_are = is.pages_are;
      }

  -- a refusal that no device had a part in
  pub refuses_quietly : {T : Type 0} (old now : PageCache B A m) (f : Fault) (result : Result T Fault)
      → IsErrAnd result (λ e. e ≡ f) → AsksUntil old now None → ((n : ℕ) → faults_after f n ≡ n)
      → Asks old now result
  refuses_quietly old now f result is a quiet =
      subst (λ end. AsksUntil old now end) (sym (ends_so result f is))
      (record {
        gate = a.gate;
        map = a.map;
        capacity = a.capacity;
        looks = a.looks;
        touched = a.touched;
        faults = a.faults ∙ sym (quiet _);
      })

pub quiet_visit : (f : Fault) (page : ℕ) → (f ≡ fault.Memory) ⊎ (f ≡ fault.Damaged page) → (n : ℕ)
    → faults_after f n ≡ n
quiet_visit f page either n =
    ⊎_elim (λ (is : f ≡ fault.Memory). ap (λ (e : Fault). faults_after e n) is)
    (λ (is : f ≡ fault.Damaged page). ap (λ (e : Fault). faults_after e n) is) either

pub visit_faults : (f : Fault) (page : ℕ) → (f ≡ fault.Memory) ⊎ (f ≡ fault.Damaged page)
    → IsOfDevice f ⊎ IsDamage f
visit_faults f page either =
    ⊎_elim (λ (is : f ≡ fault.Memory). inl (inl is)) (λ (is : f ≡ fault.Damaged page). inr (page, is)) either
