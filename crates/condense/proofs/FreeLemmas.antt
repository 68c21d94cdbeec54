-- The pages of a tree freed, child by child, and then the root's.
use Rattle.std.proofs.Common.{Result, Ok, Err, OnOk}
use Rattle.std.proofs.Common.{◌≡◌, ◌∙◌, ℕ, zero, suc, ◌+◌, ◌-◌, ◌^◌, ◌<◌, ◌≤◌, All, IsSome, Some}
use Rattle.std.proofs.Common.{None, cond, eqb, List, [], ◌∷◌, length, map, take, get_or, refl, sym, ap, subst}
use Rattle.std.proofs.Common.{⊎_elim, arith}
use Rattle.std.proofs.lemmas.Bool.{cases_eq}
use Rattle.std.proofs.lemmas.List.{take_all, length-map}
use Rattle.std.proofs.lemmas.List.Elements.{All-get_or}
use Rattle.page_file.specs.Pages.{SameBut}
use Rattle.tree_node.specs.declared.node.Entry.{Entry}
use Rattle.tree_node.specs.declared.node.Root.{Root}
use Rattle.tree_node.specs.Boxes.{no_item}
use Rattle.tree_node.specs.Nodes.{Item, item_of}
use Rattle.tree_node.specs.Positions.{total}
use Rattle.tree_node.specs.Rows.{branches_of, item_in, occurs_on}
use Rattle.tree_node.specs.Trees.{Tree, Row, end, more, object, child, row_items, occurs, occurs_in}
use Rattle.tree_node.proofs.RowLemmas.{items-branches_of, occurs-branches_of, occurs_here, same_tree}
use Rattle.node_bytes.specs.Layout.{IsOfLevel}
use Rattle.node_page.specs.Parts.{Moves, no_page}
use Rattle.node_page.specs.Standing.{PageMap, HasNode, node_in, RowStands, Stands}
use Rattle.node_page.proofs.PartLemmas.{moves_in_turn, moves_same, none_or_some, one_page_moves}
use Rattle.node_page.proofs.PartLemmas.{staying_moves}
use Rattle.node_page.proofs.StandingLemmas.{below_there, node_stays, page_of_node, row_stays}
use Rattle.condense.specs.Taken.{tree_at}
use Rattle.reinsert.specs.Children.{Child, child_at, occurs_at}
use Rattle.reinsert.specs.Inserted.{IsRootOf}
use Rattle.reinsert.proofs.ChildLemmas.{HasChild, has_child}
use Rattle.reinsert.proofs.PlaceLemmas.{items_read}
use Rattle.reinsert.proofs.StandLemmas.{moves_with, rest_same, zero_there}

-- ---- the tree at a root

pub stands_there : (dims : ℕ) (m : PageMap) (root : Root) (t : Tree) → IsRootOf root t → Stands dims m t
    → Stands dims m (tree_at root t.row)
stands_there dims m root t at stands =
    subst (Stands dims m) (same_tree t.page root.page t.level root.level t.row t.row at.page at.level refl)
    stands

pub is_root : (root : Root) (row : Row) → IsRootOf root (tree_at root row)
is_root root row = record { page = refl; level = refl }

pub moves_at : (root : Root) (t : Tree) → IsRootOf root t → (m m' : PageMap)
    → Moves m m' (λ n. occurs_at root.page n t.row) no_page → Moves m m' (λ n. occurs_in n t) no_page
moves_at root t at m m' moves =
    subst (λ page. Moves m m' (λ n. occurs_at page n t.row) no_page) (sym at.page) moves

-- ---- the children, one by one

item_at : {dims : ℕ} (es : List (Entry dims)) (i : ℕ) (d : Entry dims)
    → item_of (get_or es i d) ≡ get_or (map item_of es) i (item_of d)
item_at [] i d = refl
item_at (e ∷ es) zero d = refl
item_at (e ∷ es) (suc i) d = item_at es i d

-- the entries of a node above the leaves refer to pages of children
pub child_pages : {dims : ℕ} (level : ℕ) (all entries : List (Entry dims)) (i : ℕ) (d : Entry dims)
    → All (λ item. IsOfLevel level item.reference item.tag) (map item_of all) → entries ≡ all
    → i < length entries → 0 < level
    → (3 ≤ (get_or entries i d).reference) × ((get_or entries i d).reference < 2 ^ 31)
child_pages level all entries i d refers same within above =
    let here : All (λ (item : Item). IsOfLevel level item.reference item.tag) (map item_of entries) =
    subst (λ es. All (λ (item : Item). IsOfLevel level item.reference item.tag) (map item_of es))
    (sym same) refers in
    let at =
    All-get_or (λ (item : Item). IsOfLevel level item.reference item.tag) (map item_of entries) i
    (item_of d) (omega (arith, within, length-map entries item_of)) here in
    let found =
    subst (λ (item : Item). IsOfLevel level item.reference item.tag) (sym (item_at entries i d)) at
    above in
    (found.0, found.1)

-- how often a page occurs in the first entries
abbrev pub occurs_before : ℕ → Row → ℕ → ℕ
occurs_before n row i = total (occurs_on n) (take i (branches_of row))

before_more : (n : ℕ) (row : Row) (at : ℕ) (c : Child) → child_at row at ≡ Some c
    → occurs_before n row (suc at) ≡ occurs_before n row at + occurs_at c.page n c.row
before_more n end at c is = absurd (cc)
before_more n (more (object kept id) rest) zero c is = absurd (cc)
before_more n (more (object kept id) rest) (suc at) c is = omega (arith, before_more n rest at c is)
before_more n (more (child bounds page below) rest) zero c is =
    let this : record { page = page; row = below } ≡ c = cc in
    omega (arith, ap (λ (x : Child). occurs_at x.page n x.row) this)
before_more n (more (child bounds page below) rest) (suc at) c is = omega (arith, before_more n rest at c is)

total-take : {A : Type 0} (f : A → ℕ) (i : ℕ) (xs : List A) → total f (take i xs) ≤ total f xs
total-take f zero [] = omega arith
total-take f zero (x ∷ xs) = omega arith
total-take f (suc i) [] = omega arith
total-take f (suc i) (x ∷ xs) = omega (arith, total-take f i xs)

before_fewer : (n : ℕ) (row : Row) (i : ℕ) → occurs_before n row i ≤ occurs n row
before_fewer n row i = omega (arith, total-take (occurs_on n) i (branches_of row), occurs-branches_of n row)

before_all : (n : ℕ) (row : Row) (i : ℕ) → length (row_items row) ≤ i → occurs_before n row i ≡ occurs n row
before_all n row i all =
    let few : length (branches_of row) ≤ i =
    omega (arith, all, ap length (items-branches_of row), length-map (branches_of row) item_in) in
    ap (total (occurs_on n)) (take_all i (branches_of row) few) ∙ occurs-branches_of n row

-- a leaf has no pages below
occurs_in_leaf : (dims : ℕ) (m : PageMap) (row : Row) (n : ℕ) → RowStands dims m 0 row → occurs n row ≡ 0
occurs_in_leaf dims m end n h = refl
occurs_in_leaf dims m (more (object kept id) rest) n h = occurs_in_leaf dims m rest n h.1
occurs_in_leaf dims m (more (child bounds page below) rest) n h = absurd (omega (arith, h.0))

-- nothing is freed yet
pub freed_none : (m m' : PageMap) (row : Row) → ((n : ℕ) → m' n ≡ m n)
    → Moves m m' (λ n. occurs_before n row 0) no_page
freed_none m m' row same =
    moves_same m m' no_page _ no_page _ (λ n. omega arith) (λ n. refl)
    (staying_moves m m' no_page same (λ n. omega arith) (λ n there. absurd (omega (arith, there))))

module _ (dims : ℕ) (m m1 : PageMap) (page level : ℕ) (row : Row) (at : ℕ)
    (stands : Stands dims m (record { page = page; level = level; row = row }))
    (before : Moves m m1 (λ n. occurs_before n row at) no_page) (h : HasChild dims m level row at)
    (reference : ℕ) (is : reference ≡ h.from.page) where
  abbrev below : ℕ → ℕ
  below n = occurs_at reference n h.from.row

  adds : (n : ℕ) → occurs_before n row (suc at) ≡ occurs_before n row at + below n
  adds n =
      subst (λ k. occurs_before n row (suc at) ≡ occurs_before n row at + occurs_at k n h.from.row) (sym is)
      (before_more n row at h.from h.there)

  apart : (n : ℕ) → occurs_before n row at + below n ≤ 1
  apart n = omega (arith, adds n, before_fewer n row (suc at), stands.distinct n)

  live : (n : ℕ) → 0 < below n → IsSome (m n)
  live n there =
      below_there dims m level row n stands.below (omega (arith, there, adds n, before_fewer n row (suc at)))

  stays : (n : ℕ) → 0 < below n → m1 n ≡ m n
  stays = rest_same m m1 (λ n. occurs_before n row at) no_page below before apart live

  -- the next child stands as it did
  next_stands : Stands dims m1 (record { page = reference; level = level - 1; row = h.from.row })
  next_stands = record {
    root = node_stays dims m m1 reference (level - 1) h.from.row
        (stays reference (omega (arith, occurs_here reference)))
        (subst (λ k. HasNode dims m k (level - 1) h.from.row) (sym is) h.node);
    below = row_stays dims m m1 (level - 1) h.from.row (λ n p. stays n (omega (arith, p))) h.stands;
    distinct = λ n. omega (arith, apart n);
  }

  -- and its pages go too
  freed_more : (m2 : PageMap) → Moves m1 m2 below no_page
      → Moves m m2 (λ n. occurs_before n row (suc at)) no_page
  freed_more m2 next = moves_same m m2 _ _ _ _ (λ n. sym (adds n)) (λ n. refl)
      (moves_in_turn m m1 m2 _ _ _
      (moves_with m m1 (λ n. occurs_before n row at) no_page below before apart live)
      (moves_same m1 m2 _ _ _ _ (λ n. omega arith) (λ n. refl) next))

-- the child in a place, which stands while those before it are freed
pub record NextChild (dims : ℕ) (m m1 : PageMap) (all : Row) (at reference lower : ℕ) : Type 0 where
  pub row : Row
  pub stands : Stands dims m1 (record { page = reference; level = lower; row = row })
  pub goes : (m2 : PageMap) → Moves m1 m2 (λ n. occurs_at reference n row) no_page
      → Moves m m2 (λ n. occurs_before n all (at + 1)) no_page

-- the node of a tree was read, so many of its entries name children, and the trees of the first ones are
-- freed
module _ (dims : ℕ) (m m1 : PageMap) (root : Root) (row : Row) (level count at : ℕ)
    (entries : List (Entry dims)) (stands : Stands dims m (tree_at root row))
    (read : IsSome (m root.page)
    → node_in dims (m root.page) ≡ Some (record { level = level; entries = map item_of entries }))
    (same : level ≡ root.level)
    (leaf : level ≡ 0 → count ≡ 0) (above : 0 < level → count ≡ length entries)
    (before : Moves m m1 (λ n. occurs_before n row at) no_page) where
  are : row_items row ≡ map item_of entries
  are = items_read dims m root.page root.level level row (map item_of entries) stands.root
      (read (page_of_node dims (m root.page) _ stands.root))

  many : 0 < root.level → count ≡ length (row_items row)
  many high = above (omega (arith, high, same)) ∙ sym (length-map entries item_of) ∙ ap length (sym are)

  -- the next child stands, and its pages go too
  pub next_child : at < count → (below : Root)
      → ((d : Item) → below.page ≡ (get_or (map item_of entries) at d).reference) → below.level ≡ level - 1
      → NextChild dims m m1 row at below.page below.level
  next_child within below refers low =
      let high : 0 < root.level =
      ⊎_elim (λ none. absurd (omega (arith, leaf (same ∙ none), within))) (λ some. some)
      (none_or_some root.level) in
      let child = has_child dims m root.level row at high (omega (arith, within, many high)) stands.below in
      let d = no_item in
      let is : below.page ≡ child.from.page = refers d
      ∙ ap (λ (xs : List Item). (get_or xs at d).reference) (sym are) ∙ child.reference d in
      let there = next_stands dims m m1 root.page root.level row at stands before child below.page is in
      let down : root.level - 1 ≡ below.level = omega (arith, low, same) in
      let step : suc at ≡ at + 1 = omega arith in
      record {
        row = child.from.row;
        stands =
            subst (λ l. Stands dims m1 (record { page = below.page; level = l; row = child.from.row })) down
            there;
        goes = λ m2 went. subst (λ k. Moves m m2 (λ n. occurs_before n row k) no_page) step
            (freed_more dims m m1 root.page root.level row at stands before child below.page is m2 went);
      }

  -- all children are freed: of a leaf none
  pub children_freed : count ≤ at → Moves m m1 (λ n. occurs n row) no_page
  children_freed over = ⊎_elim
      (λ none. moves_same m m1 _ _ _ _
      (λ n. let no =
      occurs_in_leaf dims m row n (subst (λ l. RowStands dims m l row) none stands.below) in
      omega (arith, no, before_fewer n row at)) (λ n. refl) before)
      (λ some. moves_same m m1 _ _ _ _ (λ n. before_all n row at (omega (arith, many some, over)))
      (λ n. refl) before)
      (none_or_some root.level)

-- ---- the root's page

module _ (dims : ℕ) (m m1 : PageMap) (page level : ℕ) (row : Row)
    (stands : Stands dims m (record { page = page; level = level; row = row }))
    (before : Moves m m1 (λ n. occurs n row) no_page) where
  abbrev own : ℕ → ℕ
  own n = cond (eqb page n) 1 0

  own_apart : (n : ℕ) → occurs n row + own n ≤ 1
  own_apart n = omega (arith, stands.distinct n)

  own_live : (n : ℕ) → 0 < own n → IsSome (m n)
  own_live n there = ⊎_elim
      (λ same. subst (λ k. IsSome (m k)) same (page_of_node dims (m page) _ stands.root))
      (λ differs. absurd (omega (arith, there, zero_there page n differs)))
      (cases_eq page n)

  -- it is as it was
  pub root_live : IsSome (m1 page)
  root_live =
      subst IsSome
      (sym (rest_same m m1 (λ n. occurs n row) no_page own before own_apart own_live page
      (omega (arith, occurs_here page)))) (page_of_node dims (m page) _ stands.root)

  -- and goes last
  pub freed_root : (m2 : PageMap) → m2 page ≡ None → SameBut page m1 m2
      → Moves m m2 (λ n. occurs_at page n row) no_page
  freed_root m2 gone others =
      moves_same m m2 _ _ _ _ (λ n. omega arith) (λ n. refl)
      (moves_in_turn m m1 m2 _ _ _ (moves_with m m1 (λ n. occurs n row) no_page own before own_apart own_live)
      (moves_same m1 m2 _ _ _ _ (λ n. omega arith) (λ n. refl) ((one_page_moves m1 m2 page others).2 gone)))

-- ---- a refusal

-- the last call is answered as it is
pub on_ok : {T E : Type 0} (r : Result T E) (X Y : Type 0) → OnOk r X → (X → Y) → OnOk r Y
on_ok (Ok x) X Y h f = f h
on_ok (Err e) X Y h f = tt
