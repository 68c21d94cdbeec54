-- What a descent from two roots has found and looked at.
use Rattle.std.proofs.Common.{◌≡◌, ℕ, ◌+◌, ◌≤◌, nat_le, Bool, true, false, cond, Option, Some, None, List, []}
use Rattle.std.proofs.Common.{◌∷◌, ◌++◌, ◌∙◌, IsPermutation, refl, sym, ap, subst, arith}
use Rattle.std.specs.List.Sorted.{IsSorted}
use Rattle.std.proofs.lemmas.Bool.Decides.{nat_tests}
use Rattle.std.proofs.lemmas.List.{append-nil}
use Rattle.std.proofs.lemmas.List.Sorted.{IsPermutation-trans}
use Rattle.box_math.specs.Bounds.{Bounds}
use Rattle.box_math.specs.Objects.{Object, bounds_of}
use Rattle.page_cache.specs.Cache.{IsHonest, pages}
use Rattle.page_cache.specs.Calls.{AsksUntil, asks_in_turn}
use Rattle.page_cache.specs.declared.cache.PageCache.{PageCache}
use Rattle.tree_node.specs.Boxes.{box_round, least_box}
use Rattle.tree_node.specs.Joins.{admitted_pairs, boxes_below, near_pairs, root_box}
use Rattle.tree_node.specs.Nodes.{NodeContent}
use Rattle.tree_node.specs.Positions.{total}
use Rattle.tree_node.specs.Shape.{RowHasShape, RowWithin}
use Rattle.tree_node.specs.Trees.{Row, Tree, end, more, object, child, objects_in, row_items}
use Rattle.tree_node.specs.declared.node.Root.{Root}
use Rattle.tree_node.proofs.BoxLemmas.{all_within, begins_within}
use Rattle.tree_node.proofs.JoinLemmas.{pairs_append}
use Rattle.tree_node.proofs.PositionLemmas.{total-none}
use Rattle.node_page.specs.Rooted.{IsTreeAt}
use Rattle.node_page.specs.Standing.{PageMap, RowStands, StandsAt}
use Rattle.spatial_join.specs.Pairs.{GainsPairs, IsJoinAnswer, near_objects, near_below, pair_cmp}
use Rattle.spatial_join.specs.Opening.{Encloses, HasRow, alone, node_box, opened_level, opened_root}
use Rattle.spatial_join.proofs.DescentLemmas.{still_stands}
use Rattle.spatial_join.proofs.OpeningLemmas.{only_stands}
use Rattle.spatial_join.proofs.PairLemmas.{equal_sums_permute, objects_within, pairs-right, pairs_below}
use Rattle.spatial_join.proofs.PairLemmas.{shape_encloses}

-- a tree at a page and level stands there
pub tree_at : (dims most : ℕ) (m : PageMap) (root : Root) (t : Tree) → IsTreeAt dims most m root t
    → StandsAt dims m root.page root.level t.row
tree_at dims most m root t is =
    let there : StandsAt dims m t.page t.level t.row =
    record { node = is.stands.root; below = is.stands.below } in
    subst (λ (l : ℕ). StandsAt dims m root.page l t.row) is.level_is
    (subst (λ (n : ℕ). StandsAt dims m n t.level t.row) is.page_is there)

-- ---- what is opened of a root

root_stands : (dims : ℕ) (m : PageMap) (other page level : ℕ) (row : Row) → StandsAt dims m page level row
    → RowStands dims m (opened_level level other) (opened_root dims level other page row)
root_stands dims m other page level row at =
    elim (nat_le other level) as
    (λ (t : Bool). RowStands dims m (cond t level (level + 1))
    (cond t row (alone (node_box dims (row_items row)) page row))) [
      | true ↦ at.below
      | false ↦ by_box (node_box dims (row_items row))
    ]
  where
    by_box : (o : Option Bounds) → RowStands dims m (level + 1) (alone o page row)
    by_box None = tt
    by_box (Some b) = only_stands dims m b page level row at

pub root_row : (dims : ℕ) (m : PageMap) (other page level : ℕ) (row : Row) (c : NodeContent)
    → StandsAt dims m page level row → c.level ≡ opened_level level other
    → row_items (opened_root dims level other page row) ≡ c.entries
    → HasRow dims m c (opened_root dims level other page row)
root_row dims m other page level row c at level_is same = record {
  items = same;
  below = subst (λ (l : ℕ). RowStands dims m l (opened_root dims level other page row)) (sym level_is)
      (root_stands dims m other page level row at);
}

some_same : (a b : Bounds) → ◌≡◌ {A = Option Bounds} (Some a) (Some b) → a ≡ b
some_same a b e = cc

pub box_encloses : (dims : ℕ) (row : Row) (b : Bounds) → node_box dims (row_items row) ≡ Some b
    → RowWithin dims row b
unfolding least_box
box_encloses dims end b is = tt
box_encloses dims (more (object kept id) rest) b is =
    subst (λ (c : Bounds). RowWithin dims (more (object kept id) rest) c)
    (some_same (box_round dims (bounds_of kept) (row_items rest)) b is)
    (begins_within dims (bounds_of kept) rest, all_within dims (bounds_of kept) rest)
box_encloses dims (more (child bounds page below) rest) b is =
    subst (λ (c : Bounds). RowWithin dims (more (child bounds page below) rest) c)
    (some_same (box_round dims bounds (row_items rest)) b is)
    (begins_within dims bounds rest, all_within dims bounds rest)

pub root_encloses : (dims most other page level : ℕ) (row : Row) → RowHasShape dims most row
    → Encloses dims (opened_root dims level other page row)
root_encloses dims most other page level row shape =
    elim (nat_le other level) as
    (λ (t : Bool). Encloses dims (cond t row (alone (node_box dims (row_items row)) page row))) [
      | true ↦ shape_encloses dims most row shape
      | false ↦ by_box (node_box dims (row_items row)) refl
    ]
  where
    by_box : (o : Option Bounds) → node_box dims (row_items row) ≡ o → Encloses dims (alone o page row)
    by_box None e = tt
    by_box (Some b) e = (
      objects_within dims most b row (box_encloses dims row b e) shape,
      shape_encloses dims most row shape,
      tt,
    )

no_objects : (dims : ℕ) (row : Row) → node_box dims (row_items row) ≡ None → objects_in row ≡ []
no_objects dims end none = refl
no_objects dims (more (object kept id) rest) none = absurd (cc)
no_objects dims (more (child bounds page below) rest) none = absurd (cc)

root_objects : (dims other page level : ℕ) (row : Row)
    → objects_in (opened_root dims level other page row) ≡ objects_in row
root_objects dims other page level row =
    elim (nat_le other level) as
    (λ (t : Bool). objects_in (cond t row (alone (node_box dims (row_items row)) page row)) ≡ objects_in
    row) [
      | true ↦ refl
      | false ↦ by_box (node_box dims (row_items row)) refl
    ]
  where
    by_box : (o : Option Bounds) → node_box dims (row_items row) ≡ o
        → objects_in (alone o page row) ≡ objects_in row
    by_box None e = sym (no_objects dims row e)
    by_box (Some b) e = append-nil (objects_in row)

-- ---- the answer

pub answers : (dims limit : ℕ) (s t : Tree) (l o p q : ℕ) (old added sorted : List (ℕ × ℕ)) → old ≡ []
    → GainsPairs dims limit (opened_root dims l o p s.row) (opened_root dims o l q t.row) old added
    → IsPermutation added sorted → IsSorted pair_cmp sorted → IsJoinAnswer dims limit s t sorted
answers dims limit s t l o p q old added sorted empty adds moved ordered =
    let same : (f : ℕ × ℕ → ℕ) → total f (near_below dims limit s.row t.row) ≡ total f added =
    λ f.
    let none : total f old ≡ 0 = ap (total f) empty in
    let left =
    ap (λ (xs : List (ℕ × Object)). total f
    (near_objects dims limit xs (objects_in (opened_root dims o l q t.row))))
    (root_objects dims o p l s.row) in
    let right =
    ap (λ (ys : List (ℕ × Object)). total f (near_objects dims limit (objects_in s.row) ys))
    (root_objects dims l q o t.row) in
    omega (arith, adds f, none, left, right) in
    record {
      all = IsPermutation-trans (near_below dims limit s.row t.row) added sorted
          (equal_sums_permute (near_below dims limit s.row t.row) added same) moved;
      order = ordered;
    }

-- a box, if there is one
abbrev if_any : Option Bounds → List Bounds
if_any None = []
if_any (Some b) = b ∷ []

root_box_is : (dims : ℕ) (row : Row) → root_box dims row ≡ if_any (node_box dims (row_items row))
root_box_is dims end = refl
root_box_is dims (more (object kept id) rest) = refl
root_box_is dims (more (child bounds page below) rest) = refl

-- below two roots no more pairs of nodes meet than are admitted beside the roots
pub roots_admitted : (dims limit l o p q : ℕ) (s t : Tree)
    → 1 + pairs_below dims limit (opened_root dims l o p s.row)
    (opened_root dims o l q t.row) ≤ admitted_pairs dims limit s t
roots_admitted dims limit l o p q s t =
    rw (root_box_is dims s.row, root_box_is dims t.row)
    (by_level (nat_le o l) (nat_le l o) (node_box dims (row_items s.row)) (node_box dims (row_items t.row))
    refl refl)
  where
    A : List Bounds
    A = boxes_below s.row

    B : List Bounds
    B = boxes_below t.row

    beside_root : (c : Bounds)
        → near_pairs dims limit A (c ∷ (B ++ [])) ≡ near_pairs dims limit A (c ∷ []) + near_pairs dims limit
        A B
    beside_root c = ap (λ (l : List Bounds). near_pairs dims limit A (c ∷ l)) (append-nil B)
        ∙ pairs-right dims limit A (c ∷ []) B

    root_beside : (b : Bounds)
        → near_pairs dims limit (b ∷ (A ++ [])) B ≡ near_pairs dims limit (b ∷ []) B + near_pairs dims limit
        A B
    root_beside b = ap (λ (l : List Bounds). near_pairs dims limit (b ∷ l) B) (append-nil A)
        ∙ pairs_append dims limit (b ∷ []) A B

    no_pair : near_pairs dims limit A [] ≡ 0
    no_pair = total-none A

    few : (n x y z : ℕ) → n ≤ z → 1 + n ≤ 1 + x + y + z
    few n x y z h = omega arith

    few_left : (n x y z : ℕ) → n ≡ x + z → 1 + n ≤ 1 + x + y + z
    few_left n x y z h = omega arith

    few_right : (n x y z : ℕ) → n ≡ y + z → 1 + n ≤ 1 + x + y + z
    few_right n x y z h = omega arith

    by_level : (d e : Bool) (b c : Option Bounds) → nat_le o l ≡ d → nat_le l o ≡ e
        → 1 + pairs_below dims limit (cond d s.row (alone b p s.row))
        (cond e t.row (alone c q t.row)) ≤ 1 + near_pairs dims limit (if_any b) B + near_pairs dims limit A
        (if_any c) + near_pairs dims limit A B
    by_level false false b c f g = absurd (grind (arith, nat_tests))
    by_level true true b c f g =
        few (near_pairs dims limit A B) (near_pairs dims limit (if_any b) B)
        (near_pairs dims limit A (if_any c)) (near_pairs dims limit A B) (omega arith)
    by_level true false b None f g =
        few (near_pairs dims limit A []) (near_pairs dims limit (if_any b) B) (near_pairs dims limit A [])
        (near_pairs dims limit A B) (omega (arith, no_pair))
    by_level true false b (Some c) f g =
        few_right (near_pairs dims limit A (c ∷ (B ++ []))) (near_pairs dims limit (if_any b) B)
        (near_pairs dims limit A (c ∷ [])) (near_pairs dims limit A B) (beside_root c)
    by_level false true None c f g =
        few 0 (near_pairs dims limit [] B) (near_pairs dims limit A (if_any c)) (near_pairs dims limit A B)
        (omega arith)
    by_level false true (Some b) c f g =
        few_left (near_pairs dims limit (b ∷ (A ++ [])) B) (near_pairs dims limit (b ∷ []) B)
        (near_pairs dims limit A (if_any c)) (near_pairs dims limit A B) (root_beside b)

-- ---- two roots opened in turn

module _ {B A : Type 0} {m : _} where
  -- what was opened of two roots stands in the pages, and its boxes enclose what is below them
  pub record AreOpened (dims : ℕ) (now : PageCache B A m) (a b : Root) (s t : Tree)
      (left right : NodeContent) : Type 0 where
    pub honest : IsHonest now
    pub left_row : HasRow dims (pages now) left (opened_root dims a.level b.level a.page s.row)
    pub right_row : HasRow dims (pages now) right (opened_root dims b.level a.level b.page t.row)
    pub left_encloses : Encloses dims (opened_root dims a.level b.level a.page s.row)
    pub right_encloses : Encloses dims (opened_root dims b.level a.level b.page t.row)

  pub roots_opened : (dims most other_most : ℕ) (old mid now : PageCache B A m) (a b : Root) (s t : Tree)
      (left right : NodeContent) → IsHonest old → AsksUntil old mid None → AsksUntil mid now None
      → IsTreeAt dims most (pages old) a s → IsTreeAt dims other_most (pages old) b t
      → left.level ≡ opened_level a.level b.level
      → (IsHonest old → (row : Row) → StandsAt dims (pages old) a.page a.level row
      → row_items (opened_root dims a.level b.level a.page row) ≡ left.entries)
      → right.level ≡ opened_level b.level a.level
      → (IsHonest mid → (row : Row) → StandsAt dims (pages mid) b.page b.level row
      → row_items (opened_root dims b.level a.level b.page row) ≡ right.entries)
      → AreOpened dims now a b s t left right
  roots_opened dims most other_most old mid now a b s t left right h asks asks' is is' level entries level'
      entries' =
      let both : AsksUntil old now None = asks_in_turn old mid now None asks asks' in
      let first = tree_at dims most (pages old) a s is in
      let second = tree_at dims other_most (pages old) b t is' in
      let honest = asks.gate.honest.0 h in
      record {
        honest = both.gate.honest.0 h;
        left_row =
            root_row dims (pages now) b.level a.page a.level s.row left
            (still_stands old now a.page a.level s.row both h first) level (entries h s.row first);
        right_row =
            root_row dims (pages now) a.level b.page b.level t.row right
            (still_stands old now b.page b.level t.row both h second) level'
            (entries' honest t.row (still_stands old mid b.page b.level t.row asks h second));
        left_encloses = root_encloses dims most b.level a.page a.level s.row is.shape.below;
        right_encloses = root_encloses dims other_most a.level b.page b.level t.row is'.shape.below;
      }
