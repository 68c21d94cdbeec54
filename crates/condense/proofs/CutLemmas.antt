-- Lists, rows and nodes without the entry at a position.
use Rattle.std.proofs.Common.{◌≡◌, ◌∙◌, ℕ, ℤ, zero, suc, ◌+◌, ◌<◌, ◌≤◌, Some, All, List, [], ◌∷◌, ◌++◌}
use Rattle.std.proofs.Common.{length, map, take, drop, refl, sym, ap, subst, arith}
use Rattle.std.specs.Prelude.{remove}
use Rattle.std.proofs.lemmas.List.{length-map}
use Rattle.std.proofs.lemmas.List.Elements.{All-append, All-take, All-drop}
use Rattle.box_math.specs.Bounds.{Bounds}
use Rattle.tree_node.specs.declared.node.Entry.{Entry}
use Rattle.tree_node.specs.Nodes.{Item, item_of}
use Rattle.tree_node.specs.Positions.{total}
use Rattle.tree_node.specs.Rows.{branches_of, occurs_on, row_of}
use Rattle.tree_node.specs.Shape.{least_entries}
use Rattle.tree_node.specs.Trees.{Row, end, more, Branch, object, child, occurs, row_items, row_length}
use Rattle.tree_node.proofs.RowLemmas.{occurs-branches_of}
use Rattle.node_bytes.specs.Layout.{IsOfLevel, IsSpellable}
use Rattle.node_page.specs.Standing.{PageMap, RowStands}
use Rattle.reinsert.specs.Children.{Child, child_at, occurs_at}
use Rattle.condense.specs.Taken.{IsCut, items_without}

abbrev pub cut : {A : Type 0} → List A → ℕ → List A
cut xs at = take at xs ++ drop (suc at) xs

pub cut-is : {A : Type 0} (xs : List A) (at : ℕ) → take at xs ++ drop (at + 1) xs ≡ cut xs at
cut-is xs at = let e : at + 1 ≡ suc at = omega arith in ap (λ n. take at xs ++ drop n xs) e

pub map-cut : {A B : Type 0} (f : A → B) (xs : List A) (at : ℕ) → map f (cut xs at) ≡ cut (map f xs) at
map-cut f [] zero = refl
map-cut f [] (suc at) = refl
map-cut f (x ∷ xs) zero = refl
map-cut f (x ∷ xs) (suc at) = ap (λ ys. f x ∷ ys) (map-cut f xs at)

pub length-cut : {A : Type 0} (xs : List A) (at : ℕ) → at < length xs → length (cut xs at) + 1 ≡ length xs
length-cut [] at within = absurd (omega (arith, within))
length-cut (x ∷ xs) zero within = omega arith
length-cut (x ∷ xs) (suc at) within = omega (arith, length-cut xs at (omega (arith, within)))

-- ---- rows

stands_first : (dims : ℕ) (m : PageMap) (level : ℕ) (x : Branch) (rest : Row)
    → RowStands dims m level (more x rest) → RowStands dims m level (more x end) × RowStands dims m level rest
stands_first dims m level (object kept id) rest h = ((h.0, tt), h.1)
stands_first dims m level (child bounds page below) rest h = ((h.0, h.1, h.2, tt), h.3)

stands_more : (dims : ℕ) (m : PageMap) (level : ℕ) (x : Branch) (rest : Row)
    → RowStands dims m level (more x end) → RowStands dims m level rest → RowStands dims m level (more x rest)
stands_more dims m level (object kept id) rest h k = (h.0, k)
stands_more dims m level (child bounds page below) rest h k = (h.0, h.1, h.2, k)

pub RowStands-cut : (dims : ℕ) (m : PageMap) (level : ℕ) (xs : List Branch) (at : ℕ)
    → RowStands dims m level (row_of xs) → RowStands dims m level (row_of (cut xs at))
RowStands-cut dims m level [] zero h = h
RowStands-cut dims m level [] (suc at) h = h
RowStands-cut dims m level (x ∷ xs) zero h = (stands_first dims m level x (row_of xs) h).1
RowStands-cut dims m level (x ∷ xs) (suc at) h =
    let parts = stands_first dims m level x (row_of xs) h in
    stands_more dims m level x (row_of (cut xs at)) parts.0 (RowStands-cut dims m level xs at parts.1)

-- the row without its child at a position has the other pages
pub occurs-cut : (n : ℕ) (row : Row) (at : ℕ) (c : Child) → child_at row at ≡ Some c
    → total (occurs_on n) (cut (branches_of row) at) + occurs_at c.page n c.row ≡ occurs n row
occurs-cut n end at c is = absurd (cc)
occurs-cut n (more (object kept id) rest) zero c is = absurd (cc)
occurs-cut n (more (object kept id) rest) (suc at) c is = omega (arith, occurs-cut n rest at c is)
occurs-cut n (more (child bounds page below) rest) zero c is =
    let this : record { page = page; row = below } ≡ c = cc in
    omega (arith, occurs-branches_of n rest, ap (λ (x : Child). occurs_at x.page n x.row) this)
occurs-cut n (more (child bounds page below) rest) (suc at) c is = omega (arith, occurs-cut n rest at c is)

-- a leaf without an entry has no pages below either
pub occurs_leaf : (dims : ℕ) (m : PageMap) (row : Row) (n : ℕ) → RowStands dims m 0 row → occurs n row ≡ 0
occurs_leaf dims m end n h = refl
occurs_leaf dims m (more (object kept id) rest) n h = occurs_leaf dims m rest n h.1
occurs_leaf dims m (more (child bounds page below) rest) n h = absurd (omega (arith, h.0))

pub length-items : (row : Row) → length (row_items row) ≡ row_length row
length-items end = refl
length-items (more (object kept id) rest) = omega (arith, length-items rest)
length-items (more (child bounds page below) rest) = omega (arith, length-items rest)

-- ---- entries of the code

pub items-removed : {D : ℕ} (new entries : List (Entry D)) (at : ℕ) → new ≡ remove entries at
    → map item_of new ≡ items_without (map item_of entries) at
items-removed new entries at is = ap (map item_of) is ∙ map-removed entries at
    ∙ sym (cut-is (map item_of entries) at)
  where
    map-removed : {D : ℕ} (entries : List (Entry D)) (at : ℕ)
        → map item_of (remove entries at) ≡ cut (map item_of entries) at
    map-removed [] zero = refl
    map-removed [] (suc at) = refl
    map-removed (e ∷ es) zero = refl
    map-removed (e ∷ es) (suc at) = ap (λ (xs : List Item). item_of e ∷ xs) (map-removed es at)

-- what holds of each item holds of all but one
pub All-without : (P : Item → Type 0) (xs : List Item) (at : ℕ) → All P xs → All P (items_without xs at)
All-without P xs at h =
    All-append P (take at xs) (drop (at + 1) xs) (All-take P at xs h) (All-drop P (at + 1) xs h)

pub length-without : (xs : List Item) (at : ℕ) → at < length xs → length (items_without xs at) + 1 ≡ length xs
length-without xs at within = ap (λ ys. length ys + 1) (cut-is xs at) ∙ length-cut xs at within

-- two boxes of the same corners
pub same_box : (a b : Bounds) → a.low ≡ b.low → a.high ≡ b.high → a ≡ b
same_box a b low high = ap (λ (xs : List ℤ). record { low = xs; high = a.high }) low
    ∙ ap (λ (xs : List ℤ). record { low = b.low; high = xs }) high

-- ---- nodes in hand

pub cut_removed : {D : ℕ} (level : ℕ) (entries new : List (Entry D)) (at : ℕ)
    → IsSpellable (record { level = level; entries = map item_of entries }) → at < length entries
    → new ≡ remove entries at
    → IsCut level (record { level = level; entries = map item_of new })
cut_removed level entries new at spells within is =
    let are = items-removed new entries at is in
    let P : Item → Type 0 = λ item. IsOfLevel level item.reference item.tag in
    record {
      level_is = refl;
      few = omega (
        arith,
        ap length are,
        length-without (map item_of entries) at (omega (arith, within, length-map entries item_of)),
        spells.few,
      );
      refers =
          subst (λ (xs : List Item). All P xs) (sym are)
          (All-without P (map item_of entries) at spells.refers);
    }

-- the least count is 40 at most
pub fewest_is_low : (most : ℕ) → most ≤ 100 → least_entries most ≤ 40
fewest_is_low most few = omega arith
