-- The entries but the one in a place, and the least box round them.
use Rattle.std.proofs.Common.{◌≡◌, ◌∙◌, ℕ, zero, suc, ◌+◌, ◌<◌, List, [], ◌∷◌, ◌++◌, ap, arith, drop}
use Rattle.std.proofs.Common.{length, length-drop, remove, sym, take}
use Rattle.std.proofs.lemmas.List.{append-nil, drop_all, get_or-drop, get_or-take, length-take-le}
use Rattle.std.proofs.lemmas.List.Edits.{length-remove}
use Rattle.block_bytes.specs.Places.{first_places}
use Rattle.block_bytes.specs.PlaceLaws.{first_places-are, first_places-same, get_or-first_places}
use Rattle.block_bytes.specs.PlaceLaws.{length-first_places}
use Rattle.box_math.specs.Bounds.{Bounds, join_of}
use Rattle.box_math.proofs.BoxLaws.{join_of-associates, join_of-commutes}
use Rattle.tree_node.proofs.LeastBoxes.{least_box-cons, least_box-one}
use Rattle.tree_node.specs.Boxes.{least_box}
use Rattle.tree_node.specs.Nodes.{Item}
use Rattle.node_bytes.specs.Enlarged.{set_box}
use Rattle.node_bytes.proofs.BoxedLemmas.{length-set_box}
use Rattle.node_bytes.proofs.TakenLemmas.{others_are}
use Rattle.node_bytes.proofs.Writing.{nothing}

-- ---- the least box round two lists

pub least_box-append : (dims : ℕ) (xs ys : List Item) → 0 < length xs → 0 < length ys
    → least_box dims (xs ++ ys) ≡ join_of dims (least_box dims xs) (least_box dims ys)
least_box-append dims [] ys some more = absurd (omega (arith, some))
least_box-append dims (x ∷ []) ys some more =
    least_box-cons dims x ys more
    ∙ ap (λ (b : Bounds). join_of dims b (least_box dims ys)) (sym (least_box-one dims x))
least_box-append dims (x ∷ y ∷ xs) ys some more =
    let rest : Bounds = least_box dims (y ∷ xs) in
    least_box-cons dims x (y ∷ (xs ++ ys)) (omega arith)
    ∙ ap (join_of dims x.bounds) (least_box-append dims (y ∷ xs) ys (omega arith) more)
    ∙ sym (join_of-associates dims x.bounds rest (least_box dims ys))
    ∙ ap (λ (b : Bounds). join_of dims b (least_box dims ys)) (sym (least_box-cons dims x (y ∷ xs) (omega arith)))

-- ---- the entries before a place, and those behind it

module _ (dims : ℕ) (at : ℕ → Item) (n place behind : ℕ) (is : place + 1 + behind ≡ n) where
  abbrev all : List Item
  all = first_places at n

  abbrev others : List Item
  others = take place all ++ drop (place + 1) all

  before_are : take place all ≡ first_places (λ k. at (0 + k)) place
  before_are = first_places-are (λ k. at (0 + k)) place (take place all) nothing
      (length-take-le place all (omega (arith, is, length-first_places at n)))
      (λ k lt. let same : k ≡ 0 + k = omega arith in
      get_or-take place all k nothing lt ∙ get_or-first_places at n k nothing (omega (arith, is, lt)) ∙ ap at same)

  behind_are : drop (place + 1) all ≡ first_places (λ k. at (place + 1 + k)) behind
  behind_are = first_places-are (λ k. at (place + 1 + k)) behind (drop (place + 1) all) nothing
      (omega (arith, is, length-first_places at n, length-drop (place + 1) all))
      (λ k lt. get_or-drop (place + 1) all k nothing
      ∙ get_or-first_places at n (place + 1 + k) nothing (omega (arith, is, lt)))

  pub only_behind : place ≡ 0 → first_places (λ k. at (1 + k)) behind ≡ others
  only_behind first =
      let none : take place all ≡ [] = ap (λ (m : ℕ). take m all) first in
      first_places-same (λ k. at (1 + k)) (λ k. at (place + 1 + k)) behind nothing
      (λ k lt. let same : 1 + k ≡ place + 1 + k = omega (arith, first) in ap at same)
      ∙ sym behind_are ∙ ap (λ (xs : List Item). xs ++ drop (place + 1) all) (sym none)

  pub only_before : behind ≡ 0 → first_places (λ k. at (0 + k)) place ≡ others
  only_before last =
      let none : drop (place + 1) all ≡ [] =
      drop_all (place + 1) all (omega (arith, is, last, length-first_places at n)) in
      sym before_are ∙ sym (append-nil (take place all)) ∙ ap (λ (xs : List Item). take place all ++ xs) (sym none)

  pub both_parts : 0 < place → 0 < behind
      → join_of dims (least_box dims (first_places (λ k. at (0 + k)) place))
      (least_box dims (first_places (λ k. at (place + 1 + k)) behind)) ≡ least_box dims others
  both_parts some more =
      let before : List Item = first_places (λ k. at (0 + k)) place in
      let rest : List Item = first_places (λ k. at (place + 1 + k)) behind in
      sym (ap (λ (xs : List Item). least_box dims (xs ++ drop (place + 1) all)) before_are
      ∙ ap (λ (xs : List Item). least_box dims (before ++ xs)) behind_are
      ∙ least_box-append dims before rest
      (omega (arith, some, length-first_places (λ k. at (0 + k)) place))
      (omega (arith, more, length-first_places (λ k. at (place + 1 + k)) behind)))

-- ---- another box in a place

least_box-set_removed : (dims : ℕ) (xs : List Item) (at : ℕ) (b : Bounds) → at < length xs → 1 < length xs
    → least_box dims (set_box xs at b) ≡ join_of dims (least_box dims (remove xs at)) b
least_box-set_removed dims [] at b within more = absurd (omega (arith, within))
least_box-set_removed dims (x ∷ []) at b within more = absurd (omega (arith, more))
least_box-set_removed dims (x ∷ y ∷ ys) zero b within more =
    least_box-cons dims (record { bounds = b; reference = x.reference; tag = x.tag }) (y ∷ ys) (omega arith)
    ∙ join_of-commutes dims b (least_box dims (y ∷ ys))
least_box-set_removed dims (x ∷ y ∷ []) (suc zero) b within more =
    let changed : Item = record { bounds = b; reference = y.reference; tag = y.tag } in
    least_box-cons dims x (changed ∷ []) (omega arith)
    ∙ ap (join_of dims x.bounds) (least_box-one dims changed)
    ∙ ap (λ (a : Bounds). join_of dims a b) (sym (least_box-one dims x))
least_box-set_removed dims (x ∷ y ∷ []) (suc (suc at)) b within more = absurd (omega (arith, within))
least_box-set_removed dims (x ∷ y ∷ z ∷ zs) (suc at) b within more =
    let rest : List Item = y ∷ z ∷ zs in
    let within_rest : at < length rest = omega (arith, within) in
    least_box-cons dims x (set_box rest at b) (omega (arith, length-set_box rest at b))
    ∙ ap (join_of dims x.bounds) (least_box-set_removed dims rest at b within_rest (omega arith))
    ∙ sym (join_of-associates dims x.bounds (least_box dims (remove rest at)) b)
    ∙ ap (λ (a : Bounds). join_of dims a b)
    (sym (least_box-cons dims x (remove rest at) (omega (arith, length-remove rest at within_rest))))

-- the least box is then that round the others, joined with it
pub least_box-set_beside : (dims : ℕ) (xs : List Item) (at : ℕ) (b : Bounds) → at < length xs → 1 < length xs
    → least_box dims (set_box xs at b) ≡ join_of dims (least_box dims (take at xs ++ drop (at + 1) xs)) b
least_box-set_beside dims xs at b within more =
    least_box-set_removed dims xs at b within more
    ∙ ap (λ (ys : List Item). join_of dims (least_box dims ys) b) (sym (others_are xs at))

-- or it alone, where there is no other
pub least_box-set_alone : (dims : ℕ) (xs : List Item) (at : ℕ) (b : Bounds) → at < length xs → length xs ≡ 1
    → least_box dims (set_box xs at b) ≡ b
least_box-set_alone dims [] at b within one = absurd (omega (arith, within))
least_box-set_alone dims (x ∷ []) zero b within one =
    least_box-one dims (record { bounds = b; reference = x.reference; tag = x.tag })
least_box-set_alone dims (x ∷ []) (suc at) b within one = absurd (omega (arith, within))
least_box-set_alone dims (x ∷ y ∷ ys) at b within one = absurd (omega (arith, one))
