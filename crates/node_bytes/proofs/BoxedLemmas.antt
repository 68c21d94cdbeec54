-- A node page on which one entry gets another box.
use Rattle.std.proofs.Common.{◌≡◌, ◌∙◌, ℕ, zero, suc, ◌+◌, ◌<◌, ◌≤◌, false, List, [], ◌∷◌, length, Some}
use Rattle.std.proofs.Common.{ap, arith, get_or, inl, inr, refl, subst, sym}
use Rattle.std.proofs.lemmas.Bool.{cases_eq}
use Rattle.std.proofs.lemmas.List.{get_or_default}
use Rattle.block_bytes.specs.Numbers.{number_at}
use Rattle.block_bytes.specs.PlaceLaws.{first_places-are}
use Rattle.box_bytes.specs.Corners.{IsClearOfBox, Keeps}
use Rattle.box_bytes.specs.Corners as corners
use Rattle.box_math.specs.Bounds.{Bounds, IsBox, Within, join_of}
use Rattle.box_math.proofs.BoxLaws.{join_of-associates, join_of-commutes, join_of-enclosing}
use Rattle.tree_node.proofs.LeastBoxes.{least_box-cons, least_box-one}
use Rattle.tree_node.specs.Boxes.{box_at, least_box, no_item}
use Rattle.tree_node.specs.Nodes.{Item, NodeContent}
use Rattle.node_bytes.specs.Enlarged.{set_box, with_box_at}
use Rattle.node_bytes.specs.Layout.{HasNodeHead, IsEntry, IsNamed, IsNodeKind, IsTidy, has_tags, high_place}
use Rattle.node_bytes.specs.Layout.{item_at, low_place, node_at}
use Rattle.node_bytes.proofs.Places.{head_clear, item_beside, item_boxed, keeps_boxed, tags_stay}
use Rattle.node_bytes.proofs.Reading.{all_places, item_of_node, size_of, spells}
use Rattle.node_bytes.proofs.TidyLemmas.{named_as}
use Rattle.node_bytes.proofs.Writing.{nothing, unnamed_outside}

-- ---- the entries

pub length-set_box : (xs : List Item) (at : ℕ) (b : Bounds) → length (set_box xs at b) ≡ length xs
length-set_box [] at b = refl
length-set_box (x ∷ xs) zero b = refl
length-set_box (x ∷ xs) (suc at) b = ap suc (length-set_box xs at b)

get_or-set_box : (xs : List Item) (at : ℕ) (b : Bounds) (d : Item) → at < length xs
    → get_or (set_box xs at b) at d
    ≡ record { bounds = b; reference = (get_or xs at d).reference; tag = (get_or xs at d).tag }
get_or-set_box [] at b d within = absurd (omega (arith, within))
get_or-set_box (x ∷ xs) zero b d within = refl
get_or-set_box (x ∷ xs) (suc at) b d within = get_or-set_box xs at b d (omega (arith, within))

get_or-set_box_other : (xs : List Item) (at k : ℕ) (b : Bounds) (d : Item) → ¬ (k ≡ at)
    → get_or (set_box xs at b) k d ≡ get_or xs k d
get_or-set_box_other [] at k b d differs = refl
get_or-set_box_other (x ∷ xs) zero zero b d differs = absurd (differs refl)
get_or-set_box_other (x ∷ xs) zero (suc k) b d differs = refl
get_or-set_box_other (x ∷ xs) (suc at) zero b d differs = refl
get_or-set_box_other (x ∷ xs) (suc at) (suc k) b d differs =
    get_or-set_box_other xs at k b d (λ same. differs (ap suc same))

-- the box of an entry that was read
pub box_read : (xs : List Item) (at : ℕ) (x : Item) → at < length xs → x ≡ get_or xs at x
    → box_at xs at ≡ x.bounds
box_read xs at x within is = ap (λ (y : Item). y.bounds) (get_or_default xs at no_item x within ∙ sym is)

-- where a box grows, the least one round all entries is joined with it
pub least_box-set_box : (dims : ℕ) (xs : List Item) (at : ℕ) (b : Bounds) → at < length xs → IsBox dims b
    → Within dims (box_at xs at) b → least_box dims (set_box xs at b) ≡ join_of dims (least_box dims xs) b
least_box-set_box dims [] at b within box grows = absurd (omega (arith, within))
least_box-set_box dims (x ∷ []) (suc at) b within box grows = absurd (omega (arith, within))
least_box-set_box dims (x ∷ []) zero b within box grows =
    least_box-one dims (record { bounds = b; reference = x.reference; tag = x.tag })
    ∙ sym (ap (λ c. join_of dims c b) (least_box-one dims x) ∙ join_of-enclosing dims x.bounds b box grows)
least_box-set_box dims (x ∷ y ∷ ys) zero b within box grows =
    let rest : Bounds = least_box dims (y ∷ ys) in
    least_box-cons dims (record { bounds = b; reference = x.reference; tag = x.tag }) (y ∷ ys) (omega arith)
    ∙ join_of-commutes dims b rest
    ∙ sym (ap (λ c. join_of dims c b)
    (least_box-cons dims x (y ∷ ys) (omega arith) ∙ join_of-commutes dims x.bounds rest)
    ∙ join_of-associates dims rest x.bounds b
    ∙ ap (join_of dims rest) (join_of-enclosing dims x.bounds b box grows))
least_box-set_box dims (x ∷ y ∷ ys) (suc at) b within box grows =
    let rest : Bounds = least_box dims (y ∷ ys) in
    least_box-cons dims x (set_box (y ∷ ys) at b) (omega (arith, length-set_box (y ∷ ys) at b))
    ∙ ap (join_of dims x.bounds) (least_box-set_box dims (y ∷ ys) at b (omega (arith, within)) box grows)
    ∙ sym (join_of-associates dims x.bounds rest b)
    ∙ ap (λ c. join_of dims c b) (sym (least_box-cons dims x (y ∷ ys) (omega arith)))

-- ---- the page

module _ (dims place : ℕ) (old new : List ℕ) (b : Bounds)
    (keeps : Keeps (IsClearOfBox dims (low_place place) (high_place place) 800) old new) where
  head_stays : (n at : ℕ) → at + n ≤ 5 → number_at n at new ≡ number_at n at old
  head_stays n at h = keeps n at (head_clear dims false place n at h).bounds

  -- it names what it named, so it stays tidy
  pub tidy_boxed : place < number_at 2 2 old → IsTidy dims old → IsTidy dims new
  tidy_boxed within tidy k unnamed =
      let tags = tags_stay dims false place old new (keeps_boxed dims false place old new keeps) in
      let before : IsNamed dims (has_tags old) (number_at 2 2 old) k → ⊥ =
      λ named. unnamed
      (named_as dims (has_tags old) (has_tags new) (number_at 2 2 old) (number_at 2 2 new) k (sym tags)
      (sym (head_stays 2 2 (omega arith))) named) in
      keeps 1 k (unnamed_outside dims (has_tags old) (number_at 2 2 old) place k within before).bounds
      ∙ tidy k before

  module _ (c : NodeContent) (is : node_at dims old ≡ Some c) (within : place < length c.entries)
      (there : corners.box_at dims new (low_place place) (high_place place) 800 ≡ b) (box : IsBox dims b) where
    count_is : number_at 2 2 old ≡ length c.entries
    count_is = size_of dims old c (spells dims old c is)

    few : length c.entries ≤ 100
    few = omega (arith, count_is, (spells dims old c is).head.few)

    new_item : ◌≡◌ {A = Item} (item_at dims new place)
        (record {
          bounds = b;
          reference = (item_at dims old place).reference;
          tag = (item_at dims old place).tag;
        })
    new_item = item_boxed dims place old new b (omega (arith, within, few)) keeps there

    other_item : (k : ℕ) → k < length c.entries → ¬ (k ≡ place) → item_at dims new k ≡ item_at dims old k
    other_item k lt differs =
        item_beside dims false place k old new differs (omega (arith, lt, few)) (omega (arith, within, few))
        (keeps_boxed dims false place old new keeps)

    item_there : (k : ℕ) → k < length c.entries
        → get_or (set_box c.entries place b) k nothing ≡ item_at dims new k
    item_there k lt = elim (cases_eq k place) [
      | inl e ↦ subst (λ k. get_or (set_box c.entries place b) k nothing ≡ item_at dims new k) (sym e)
          (get_or-set_box c.entries place b nothing within
          ∙ ap (λ (x : Item). record { bounds = b; reference = x.reference; tag = x.tag })
          (item_of_node dims old c place nothing (spells dims old c is) within)
          ∙ sym new_item)
      | inr o ↦ get_or-set_box_other c.entries place k b nothing o
          ∙ item_of_node dims old c k nothing (spells dims old c is) lt ∙ sym (other_item k lt o)
    ]

    entry_there : (k : ℕ) → k < length c.entries → IsEntry dims c.level (item_at dims new k)
    entry_there k lt = let was = (spells dims old c is).each in elim (cases_eq k place) [
      | inl e ↦ subst (λ k. IsEntry dims c.level (item_at dims new k)) (sym e)
          (subst (IsEntry dims c.level) (sym new_item) (record {
            ordered = λ axis lt. (box.spans axis lt).ordered;
            refers = (was place (omega (arith, within, count_is))).refers;
          }))
      | inr o ↦ subst (IsEntry dims c.level) (sym (other_item k lt o)) (was k (omega (arith, lt, count_is)))
    ]

    -- the page spells the node with the box in that place
    pub spells_boxed : node_at dims new ≡ Some (with_box_at c place b)
    spells_boxed =
        let was = (spells dims old c is).head in
        let counted : number_at 2 2 new ≡ length c.entries = head_stays 2 2 (omega arith) ∙ count_is in
        let head : HasNodeHead dims c.level new = record {
          axes = was.axes;
          kind = subst IsNodeKind (sym (head_stays 1 0 (omega arith))) was.kind;
          dims_is = head_stays 1 1 (omega arith) ∙ was.dims_is;
          level_is = head_stays 1 4 (omega arith) ∙ was.level_is;
          few = omega (arith, counted, few);
          some = λ above. let some = was.some above in omega (arith, counted, count_is, some);
        } in
        all_places dims c.level (length c.entries) new (set_box c.entries place b) head (sym counted)
        (first_places-are (item_at dims new) (length c.entries) (set_box c.entries place b) nothing
        (length-set_box c.entries place b) item_there)
        entry_there
