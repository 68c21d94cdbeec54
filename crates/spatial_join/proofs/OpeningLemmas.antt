-- What is opened of two nodes has the objects that they have, and no more pairs of nodes that meet.
use Rattle.std.proofs.Common.{◌≡◌, ◌∙◌, ℕ, zero, suc, ◌+◌, ◌-◌, ◌<◌, ◌≤◌, ◌^◌, All, slice_index_or, nat_le}
use Rattle.std.proofs.Common.{Bool, true, false, cond, Option, Some, None, List, [], ◌∷◌, ◌++◌, refl, sym, ap}
use Rattle.std.proofs.Common.{subst, arith}
use Rattle.std.specs.Prelude.{◌↔◌}
use Rattle.std.proofs.lemmas.Bool.Decides.{nat_tests}
use Rattle.std.proofs.lemmas.List.{append-nil}
use Rattle.box_math.specs.Bounds.{Bounds}
use Rattle.box_math.specs.Measures.{near_test}
use Rattle.tree_node.specs.Joins.{boxes_below, count_passing, near_pairs}
use Rattle.tree_node.specs.Nodes.{Item, NodeContent}
use Rattle.tree_node.specs.Trees.{Row, end, more, child, objects_in, row_items}
use Rattle.node_bytes.specs.Layout.{IsSpellable}
use Rattle.node_page.specs.Standing.{PageMap, HasNode, RowStands, StandsAt}
use Rattle.spatial_join.specs.Opening.{Encloses, HasPages, alone, lone, node_box, opened, opened_level}
use Rattle.spatial_join.specs.Opening.{opened_root}
use Rattle.spatial_join.proofs.PairLemmas.{pairs-right, pairs_below}

-- a node as the only entry of one above it
abbrev pub only : Bounds → ℕ → Row → Row
only bounds page row = more (child bounds page row) end

pub objects_opened : (level other : ℕ) (b : Bounds) (page : ℕ) (row : Row)
    → objects_in (only b page row) ≡ objects_in (opened level other b page row)
objects_opened level other b page row =
    elim (nat_le other level) as
    (λ (t : Bool). objects_in row ++ [] ≡ objects_in (cond t row (only b page row))) [
      | true ↦ append-nil (objects_in row)
      | false ↦ refl
    ]

pub only_stands : (dims : ℕ) (m : PageMap) (b : Bounds) (page level : ℕ) (row : Row)
    → StandsAt dims m page level row → RowStands dims m (level + 1) (only b page row)
only_stands dims m b page level row at =
    let down : level ≡ level + 1 - 1 = omega arith in (
      omega arith,
      subst (λ (l : ℕ). HasNode dims m page l row) down at.node,
      subst (λ (l : ℕ). RowStands dims m l row) down at.below,
      tt,
    )

pub opened_stands : (dims : ℕ) (m : PageMap) (other : ℕ) (b : Bounds) (page level : ℕ) (row : Row)
    → StandsAt dims m page level row
    → RowStands dims m (opened_level level other) (opened level other b page row)
opened_stands dims m other b page level row at =
    elim (nat_le other level) as
    (λ (t : Bool). RowStands dims m (cond t level (level + 1)) (cond t row (only b page row))) [
      | true ↦ at.below
      | false ↦ only_stands dims m b page level row at
    ]

pub opened_encloses : (dims level other : ℕ) (b : Bounds) (page : ℕ) (row : Row)
    → Encloses dims (only b page row) → Encloses dims (opened level other b page row)
opened_encloses dims level other b page row encloses =
    elim (nat_le other level) as (λ (t : Bool). Encloses dims (cond t row (only b page row))) [
      | true ↦ encloses.1
      | false ↦ encloses
    ]

-- of two nodes whose boxes meet, fewer pairs are left than the nodes had
pub fewer_pairs : (dims limit l o : ℕ) (b : Bounds) (p : ℕ) (s : Row) (c : Bounds) (q : ℕ) (t : Row)
    → near_test dims limit b c ≡ true
    → 1 + pairs_below dims limit (opened l o b p s) (opened o l c q t) ≤ pairs_below dims limit (only b p s)
    (only c q t)
fewer_pairs dims limit l o b p s c q t meets = at (nat_le o l) (nat_le l o) refl refl
  where
    A : List Bounds
    A = boxes_below s

    B : List Bounds
    B = boxes_below t

    one_beside : (ys : List Bounds)
        → near_pairs dims limit (b ∷ (A ++ [])) ys ≡ count_passing (near_test dims limit b) ys + near_pairs
        dims limit A ys
    one_beside ys = ap (λ (l : List Bounds). near_pairs dims limit (b ∷ l) ys) (append-nil A)

    beside_one : near_pairs dims limit A (c ∷ (B ++ [])) ≡ near_pairs dims limit A (c ∷ []) + near_pairs dims
        limit A B
    beside_one = ap (λ (l : List Bounds). near_pairs dims limit A (c ∷ l)) (append-nil B)
        ∙ pairs-right dims limit A (c ∷ []) B

    met : count_passing (near_test dims limit b) (c ∷ (B ++ [])) ≡ 1 + count_passing (near_test dims limit b) B
    met = ap (λ (l : List Bounds). count_passing (near_test dims limit b) (c ∷ l)) (append-nil B)
        ∙ ap (λ (t : Bool). cond t 1 0 + count_passing (near_test dims limit b) B) meets

    both : near_pairs dims limit (b ∷ (A ++ [])) (c ∷ (B ++ [])) ≡ 1 + count_passing (near_test dims limit b)
        B + (near_pairs dims limit A (c ∷ []) + near_pairs dims limit A B)
    both = one_beside (c ∷ (B ++ [])) ∙ ap (λ (n : ℕ). n + near_pairs dims limit A (c ∷ (B ++ []))) met
        ∙ ap (λ (n : ℕ). 1 + count_passing (near_test dims limit b) B + n) beside_one

    fewer : (n x y z all : ℕ) → all ≡ 1 + x + (y + z) → (n ≡ z) → 1 + n ≤ all
    fewer n x y z all is rest = omega arith

    fewer_right : (n x y z all : ℕ) → all ≡ 1 + x + (y + z) → (n ≡ y + z) → 1 + n ≤ all
    fewer_right n x y z all is rest = omega arith

    fewer_left : (n x y z all : ℕ) → all ≡ 1 + x + (y + z) → (n ≡ x + z) → 1 + n ≤ all
    fewer_left n x y z all is rest = omega arith

    at : (d e : Bool) → nat_le o l ≡ d → nat_le l o ≡ e
        → 1 + pairs_below dims limit (cond d s (only b p s)) (cond e t (only c q t)) ≤ pairs_below dims limit
        (only b p s) (only c q t)
    at false false f g = absurd (grind (arith, nat_tests))
    at true true f g = fewer _ _ _ _ _ both refl
    at true false f g = fewer_right _ _ _ _ _ both beside_one
    at false true f g = fewer_left _ _ _ _ _ both (one_beside B)

-- ---- what the code opens

pub no_higher : (a b : ℕ) → a ≤ b → nat_le a b ≡ true
no_higher a b h = grind (arith, nat_tests)

pub higher : (a b : ℕ) → b < a → nat_le a b ≡ false
higher a b h = grind (arith, nat_tests)

pub level_here : (level other : ℕ) → other ≤ level → level ≡ opened_level level other
level_here level other h = ap (λ (t : Bool). cond t level (level + 1)) (sym (no_higher other level h))

pub level_above : (level other : ℕ) → level < other → level + 1 ≡ opened_level level other
level_above level other h = ap (λ (t : Bool). cond t level (level + 1)) (sym (higher other level h))

-- of two nodes above the leaves a lower level is opened, and both are leaves or none is
pub levels_fall : (l r : ℕ) → 0 < l → 0 < r
    → opened_level (l - 1) (r - 1) + opened_level (r - 1) (l - 1) < l + r
levels_fall l r above above' = at (nat_le (r - 1) (l - 1)) (nat_le (l - 1) (r - 1)) refl refl
  where
    at : (d e : Bool) → nat_le (r - 1) (l - 1) ≡ d → nat_le (l - 1) (r - 1) ≡ e
        → cond d (l - 1) (l - 1 + 1) + cond e (r - 1) (r - 1 + 1) < l + r
    at false false f g = absurd (grind (arith, nat_tests))
    at true true f g = omega arith
    at true false f g = omega arith
    at false true f g = omega arith

pub leaves_together : (a b : ℕ) → (opened_level a b ≡ 0) ↔ (opened_level b a ≡ 0)
leaves_together a b = at (nat_le b a) (nat_le a b) refl refl
  where
    at : (d e : Bool) → nat_le b a ≡ d → nat_le a b ≡ e → (cond d a (a + 1) ≡ 0) ↔ (cond e b (b + 1) ≡ 0)
    at false false f g = absurd (grind (arith, nat_tests))
    at true true f g = (λ h. grind (arith, nat_tests), λ h. grind (arith, nat_tests))
    at true false f g = (λ h. absurd (grind (arith, nat_tests)), λ h. absurd (omega (arith, h)))
    at false true f g = (λ h. absurd (omega (arith, h)), λ h. absurd (grind (arith, nat_tests)))

-- two nodes of which a leaf is opened are leaves
pub leaves_alone : (a b : ℕ) → opened_level a b ≡ 0 → (a ≡ 0) × (b ≡ 0)
leaves_alone a b leaf = at (nat_le b a) refl leaf
  where
    at : (d : Bool) → nat_le b a ≡ d → cond d a (a + 1) ≡ 0 → (a ≡ 0) × (b ≡ 0)
    at true f h = let below : b ≤ a = grind (arith, nat_tests) in (h, omega (arith, h, below))
    at false f h = absurd (omega (arith, h))

pub opened_here : (level other : ℕ) (b : Bounds) (page : ℕ) (row : Row) → other ≤ level
    → opened level other b page row ≡ row
opened_here level other b page row h =
    ap (λ (t : Bool). cond t row (only b page row)) (no_higher other level h)

pub root_here : (dims level other page : ℕ) (row : Row) → other ≤ level
    → opened_root dims level other page row ≡ row
root_here dims level other page row h =
    ap (λ (t : Bool). cond t row (alone (node_box dims (row_items row)) page row)) (no_higher other level h)

lone_items : (o : Option Bounds) (page : ℕ) (row : Row) → row_items (alone o page row) ≡ lone o page
lone_items None page row = refl
lone_items (Some b) page row = refl

pub root_above : (dims level other page : ℕ) (row : Row) (items : List Item) → level < other
    → row_items row ≡ items
    → row_items (opened_root dims level other page row) ≡ lone (node_box dims items) page
root_above dims level other page row items h same =
    ap (λ (t : Bool). row_items (cond t row (alone (node_box dims (row_items row)) page row)))
    (higher other level h)
    ∙ lone_items (node_box dims (row_items row)) page row
    ∙ ap (λ (xs : List Item). lone (node_box dims xs) page) same

pub has_pages : (c : NodeContent) → IsSpellable c → HasPages c
has_pages c s above = λ k d lt. let r = s.refers k d lt above in omega (arith, r.1)

-- so has one with a single entry, or none
pub lone_has_pages : (c : NodeContent) (o : Option Bounds) (page : ℕ) → c.entries ≡ lone o page
    → page < 2 ^ 32 → HasPages c
lone_has_pages c o page is below above =
    subst (All (λ (item : Item). item.reference < 2 ^ 32)) (sym is) (each o)
  where
    only_one : (b : Bounds) (k : ℕ) (d : Item) → k < 1
        → (slice_index_or (lone (Some b) page) k d).reference < 2 ^ 32
    only_one b zero d lt = below
    only_one b (suc k) d lt = absurd (omega (arith, lt))

    each : (o : Option Bounds) → All (λ (item : Item). item.reference < 2 ^ 32) (lone o page)
    each None = λ k d lt. absurd (omega (arith, lt))
    each (Some b) = only_one b
