-- The first least of the entries of a node that hold a new box, found one after the other.
use Rattle.std.proofs.Common.{◌≡◌, ℕ, ◌+◌, ◌<◌, ◌≤◌, ◌⊎◌, List, [], ◌∷◌, All, IfNone, IfSome}
use Rattle.std.proofs.Common.{Option, None, Some, length, sym, subst, inl, inr, arith}
use Rattle.std.proofs.lemmas.Bool.{cases_eq, cases_lt}
use Rattle.box_math.specs.Bounds.{Bounds, IsBox, Within}
use Rattle.box_math.specs.Measures.{volume_of}
use Rattle.tree_node.specs.Boxes.{box_at, no_item}
use Rattle.tree_node.specs.Keys.{AtMost}
use Rattle.tree_node.specs.Nodes.{Item}
use Rattle.choose_subtree.specs.Choice.{IsChosenChild, growth_of}
use Rattle.choose_subtree.proofs.HolderLaws.{holder_is_chosen}
use Rattle.choose_subtree.specs.declared.holder.Holder.{Holder}

-- of the first n entries this one holds the new box, and none of those that do comes before it
pub record IsLeast (dims : ℕ) (items : List Item) (new : Bounds) (n : ℕ) (h : Holder) : Type 0 where
  pub within : h.place < length items
  pub before : h.place < n
  pub holds : Within dims new (box_at items h.place)
  pub area : h.area ≡ volume_of dims (box_at items h.place)
  pub least : (j : ℕ) → j < n → j < length items → Within dims new (box_at items j)
      → AtMost (volume_of dims (box_at items h.place) ∷ h.place ∷ [])
      (volume_of dims (box_at items j) ∷ j ∷ [])

-- or none of them holds it
abbrev pub IsLeastHolder : ℕ → List Item → Bounds → ℕ → Option Holder → Type 0
IsLeastHolder dims items new n None = (j : ℕ) → j < n → j < length items → Within dims new (box_at items j)
    → ⊥
IsLeastHolder dims items new n (Some h) = IsLeast dims items new n h

-- entries that do not hold it are passed over
pub holder_passes : (dims : ℕ) (items : List Item) (new : Bounds) (n next : ℕ) (least : Option Holder)
    → n ≤ next → ((j : ℕ) → n ≤ j → j < next → j < length items → Within dims new (box_at items j) → ⊥)
    → IsLeastHolder dims items new n least → IsLeastHolder dims items new next least
holder_passes dims items new n next None up none h = λ j below lt inside. elim (cases_lt j n) [
  | inl early ↦ h j early lt inside
  | inr late ↦ none j late below lt inside
]
holder_passes dims items new n next (Some holder) up none h = record {
  within = h.within;
  before = omega (arith, h.before, up);
  holds = h.holds;
  area = h.area;
  least = λ j below lt inside. elim (cases_lt j n) [
    | inl early ↦ h.least j early lt inside
    | inr late ↦ absurd (none j late below lt inside)
  ];
}

-- one that holds it is taken, if it is less
pub holder_takes : (dims : ℕ) (items : List Item) (new : Bounds) (n : ℕ) (least : Option Holder) (area : ℕ)
    (lesser : Holder) → n < length items → Within dims new (box_at items n)
    → area ≡ volume_of dims (box_at items n)
    → IfNone least (lesser ≡ record { area = area; place = n })
    → IfSome least
    (λ h. ((lesser ≡ h) × (h.area ≤ area)) ⊎ ((lesser ≡ record { area = area; place = n }) × (area < h.area)))
    → IsLeastHolder dims items new n least → IsLeastHolder dims items new (n + 1) (Some lesser)
holder_takes dims items new n least area lesser within holds is alone both so_far = go least alone both so_far
  where
    here : Holder
    here = record { area = area; place = n }

    go : (least : Option Holder) → IfNone least (lesser ≡ here)
        → IfSome least (λ h. ((lesser ≡ h) × (h.area ≤ area)) ⊎ ((lesser ≡ here) × (area < h.area)))
        → IsLeastHolder dims items new n least → IsLeast dims items new (n + 1) lesser
    go None alone both h = subst (IsLeast dims items new (n + 1)) (sym alone) (record {
      within = within;
      before = omega arith;
      holds = holds;
      area = is;
      least = λ j below lt inside. elim (cases_eq j n) [
        | inl e ↦ subst
            (λ k. AtMost (volume_of dims (box_at items n) ∷ n ∷ [])
            (volume_of dims (box_at items k) ∷ k ∷ [])) (sym e) (omega arith, λ _. (omega arith, λ _. tt))
        | inr o ↦ absurd (h j (omega arith) lt inside)
      ];
    })
    go (Some holder) alone both h = elim both [
      | inl kept ↦ subst (IsLeast dims items new (n + 1)) (sym kept.0) (record {
        within = h.within;
        before = omega (arith, h.before);
        holds = h.holds;
        area = h.area;
        least = λ j below lt inside. elim (cases_eq j n) [
          | inl e ↦ subst
              (λ k. AtMost (volume_of dims (box_at items holder.place) ∷ holder.place ∷ [])
              (volume_of dims (box_at items k) ∷ k ∷ [])) (sym e)
              (omega (arith, kept.1, h.area, is), λ _. (omega (arith, h.before), λ _. tt))
          | inr o ↦ h.least j (omega arith) lt inside
        ];
      })
      | inr less ↦ subst (IsLeast dims items new (n + 1)) (sym less.0) (record {
        within = within;
        before = omega arith;
        holds = holds;
        area = is;
        least = λ j below lt inside. elim (cases_eq j n) [
          | inl e ↦ subst
              (λ k. AtMost (volume_of dims (box_at items n) ∷ n ∷ [])
              (volume_of dims (box_at items k) ∷ k ∷ [])) (sym e) (omega arith, λ _. (omega arith, λ _. tt))
          | inr o ↦ let other = (h.least j (omega arith) lt inside).0 in (
            omega (arith, less.1, h.area, is, other),
            λ same. absurd (omega (arith, less.1, h.area, is, other, same)),
          )
        ];
      })
    ]

-- the least of all is chosen, where each other one grows
pub least_is_chosen : (dims level : ℕ) (items : List Item) (new : Bounds) (n : ℕ) (h : Holder)
    → length items ≤ n → All (λ (item : Item). IsBox dims item.bounds) items
    → ((j : ℕ) → j < length items → (Within dims new (box_at items j) → ⊥)
    → 0 < growth_of dims (box_at items j) new)
    → IsLeast dims items new n h → IsChosenChild dims level items new h.place
least_is_chosen dims level items new n h past boxes grow least =
    holder_is_chosen dims level items new h.place least.within (λ j lt. boxes j no_item lt) grow least.holds
    (λ j lt inside. least.least j (omega (arith, past, lt)) lt inside)
