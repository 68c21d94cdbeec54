-- Entries of a viewed node, passed over by the mask of an object's box or looked at.
use Rattle.std.proofs.Common.{◌≡◌, ◌∙◌, ℕ, ◌+◌, ◌^◌, ◌<◌, ◌≤◌, Some, false, List, length, get_or, sym, ap, subst}
use Rattle.std.proofs.Common.{inl, inr, arith}
use Rattle.std.specs.Prelude.{slice_get}
use Rattle.std.proofs.lemmas.Bool.{cases_eq, cases_lt}
use Rattle.std.proofs.lemmas.List.{get_or_default}
use Rattle.std.proofs.lemmas.List.Elements.{All-get_or}
use Rattle.box_math.specs.Bounds.{Bounds, IsBox, Within, meets_test}
use Rattle.box_math.specs.Masks.{has_bit}
use Rattle.box_math.proofs.BoxLaws.{Within-refl}
use Rattle.tree_node.specs.Boxes.{no_item}
use Rattle.tree_node.specs.Nodes.{Item, NodeContent}
use Rattle.node_bytes.specs.Layout.{IsOfLevel, IsSpellable}
use Rattle.choose_subtree.proofs.MaskLaws.{unset_holds_not}

-- an entry whose bit is not set is not the object's
pub unset_is_not : (dims : ℕ) (items : List Item) (bounds : Bounds) (id tag mask k : ℕ) (d : Item)
    → IsBox dims bounds
    → ((place : ℕ) (item : Item) → slice_get items place ≡ Some item
    → has_bit mask place ≡ meets_test dims item.bounds bounds) → has_bit mask k ≡ false → k < length items
    → ¬ (get_or items k d ≡ record { bounds = bounds; reference = id; tag = tag })
unset_is_not dims items bounds id tag mask k d box met unset lt is =
    let same : bounds ≡ (get_or items k no_item).bounds = sym (ap (λ (x : Item). x.bounds) is)
    ∙ ap (λ (x : Item). x.bounds) (get_or_default items k d no_item lt) in
    unset_holds_not dims items bounds mask k box met unset lt
    (subst (Within dims bounds) same (Within-refl dims bounds))

-- one that is looked at is the object's where it has its identifier, its tag and its box, and only there
pub found_at : (items : List Item) (at : ℕ) (x : Item) (bounds : Bounds) (id tag : ℕ) (d : Item)
    → at < length items → x ≡ get_or items at x → x.reference ≡ id → x.tag ≡ tag → x.bounds ≡ bounds
    → get_or items at d ≡ record { bounds = bounds; reference = id; tag = tag }
found_at items at x bounds id tag d within is same tags box =
    let this : x ≡ record { bounds = bounds; reference = id; tag = tag } =
    ap (λ (b : Bounds). record { bounds = b; reference = x.reference; tag = x.tag }) box
    ∙ ap (λ (r : ℕ). record { bounds = bounds; reference = r; tag = x.tag }) same
    ∙ ap (λ (t : ℕ). record { bounds = bounds; reference = id; tag = t }) tags in
    get_or_default items at d x within ∙ sym is ∙ this

pub is_at : (items : List Item) (at : ℕ) (x : Item) (bounds : Bounds) (id tag : ℕ) (d : Item)
    → at < length items → x ≡ get_or items at x
    → get_or items at d ≡ record { bounds = bounds; reference = id; tag = tag }
    → (x.reference ≡ id) × (x.tag ≡ tag) × (x.bounds ≡ bounds)
is_at items at x bounds id tag d within is found =
    let item : x ≡ record { bounds = bounds; reference = id; tag = tag } = is
    ∙ get_or_default items at x d within ∙ found in
    (ap (λ (y : Item). y.reference) item, ap (λ (y : Item). y.tag) item, ap (λ (y : Item). y.bounds) item)

-- what holds of the places before one, of it, and of those up to the next, holds of all before the next
pub up_to : (P : ℕ → Type 0) (place next : ℕ) → ((k : ℕ) → k < place → P k) → P place
    → ((k : ℕ) → place + 1 ≤ k → k < next → P k) → (k : ℕ) → k < next → P k
up_to P place next before here after k below = elim (cases_lt k place) [
  | inl early ↦ before k early
  | inr late ↦ elim (cases_eq k place) [
    | inl same ↦ subst P (sym same) here
    | inr differs ↦ after k (omega (arith, late, differs)) below
  ]
]

-- the page of a child is one that a node can refer to
pub refers_down : (c : NodeContent) (place : ℕ) (x : Item) → IsSpellable c → place < length c.entries
    → 0 < c.level → x ≡ get_or c.entries place x → (3 ≤ x.reference) × (x.reference < 2 ^ 31)
refers_down c place x spells within above is =
    let at =
    All-get_or (λ (item : Item). IsOfLevel c.level item.reference item.tag) c.entries place x within
    spells.refers in
    let here =
    subst (λ (item : Item). IsOfLevel c.level item.reference item.tag) (sym is) at in
    let found = here above in
    (found.0, found.1)
