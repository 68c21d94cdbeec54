-- How many entries the parts of a divided node have.
use Rattle.std.proofs.Common.{◌≡◌, ℕ, zero, suc, ◌+◌, ◌≤◌, List, [], ◌∷◌, length, take, drop, ap, ◌∙◌, arith}
use Rattle.std.proofs.lemmas.List.{length-reverse, length-take-le, length-append}
use Rattle.tree_node.specs.Nodes.{Item}
use Rattle.tree_node.specs.Orders.{in_order}
use Rattle.tree_node.specs.Positions.{pick, AreParts}
use Rattle.tree_node.proofs.OrderLemmas.{length-in_order}
use Rattle.tree_node.proofs.OrderSums.{sum_over-ones}
use Rattle.tree_node.proofs.PositionLemmas.{parts_have_all, total-ones}
use Rattle.rstar_split.specs.Cuts.{Splits, before, order_of}
use Rattle.reinsert.specs.Far.{far_order, far_places, farther}

one_taken : {A : Type 0} (i : ℕ) (xs : List A) → length (take 1 (drop i xs)) ≤ 1
one_taken zero [] = omega arith
one_taken zero (x ∷ xs) = omega arith
one_taken (suc i) [] = omega arith
one_taken (suc i) (x ∷ xs) = one_taken i xs

pub length-pick-le : {A : Type 0} (xs : List A) (places : List ℕ) → length (pick xs places) ≤ length places
length-pick-le xs [] = omega arith
length-pick-le xs (at ∷ places) =
    omega (
      arith,
      length-append (take 1 (drop at xs)) (pick xs places),
      one_taken at xs,
      length-pick-le xs places,
    )

-- positions that have each below the count once pick as many elements as they are
pub length-parts : {A : Type 0} (xs : List A) (a b : List ℕ) → AreParts a b (length xs)
    → (length (pick xs a) ≡ length a) × (length (pick xs b) ≡ length b) × (length a + length b ≡ length xs)
length-parts xs a b parts =
    let picked : length (pick xs a) + length (pick xs b) ≡ length xs =
    omega (
      arith,
      parts_have_all (λ x. 1) xs a b parts,
      total-ones (pick xs a),
      total-ones (pick xs b),
      total-ones xs,
    ) in
    let all : length a + length b ≡ length xs =
    omega (arith, parts (λ i. 1), total-ones a, total-ones b, sum_over-ones (length xs)) in (
      omega (arith, picked, all, length-pick-le xs a, length-pick-le xs b),
      omega (arith, picked, all, length-pick-le xs a, length-pick-le xs b),
      all,
    )

-- the groups of a split have as many entries as it says
pub length-split : (dims most : ℕ) (items : List Item) (first second : List ℕ)
    (h : Splits dims most items first second) → length first ≡ h.size
unfolding order_of
length-split dims most items first second h =
    let order = in_order (before items h.axis h.bound) (length items) in
    ap length h.first_is
    ∙ length-take-le h.size order
    (omega (arith, h.second_full, length-in_order (before items h.axis h.bound) (length items)))

-- and the far set as many as there are to be
pub length-far : (dims p : ℕ) (items : List Item) → p ≤ length items → length (far_places dims p items) ≡ p
unfolding far_places far_order
length-far dims p items enough =
    let order = in_order (farther dims items) (length items) in
    length-reverse (take p order)
    ∙ length-take-le p order (omega (arith, enough, length-in_order (farther dims items) (length items)))
