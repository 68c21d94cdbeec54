-- Candidates: the least of them, and the boxes of an order one entry on.
use Rattle.std.proofs.Common.{◌≡◌, ℕ, suc, ◌+◌, ◌*◌, ◌<◌, ◌≤◌, List, [], ◌∷◌, ◌++◌, length, get_or, set, take}
use Rattle.std.proofs.Common.{drop, ap, arith, subst, sym, ◌∙◌, add-one, inl, inr, drop-cons}
use Rattle.std.proofs.Common.{length-take-le, append-nil}
use Rattle.std.proofs.lemmas.Bool.{cases_eq}
use Rattle.std.proofs.lemmas.List.{length-drop, drop_all, get_or_default, get_or-set_same, get_or-set_other}
use Rattle.std.proofs.lemmas.Grind.{take_at_read}
use Rattle.std.specs.List.{All}
use Rattle.std.proofs.lemmas.List.Elements.{All-take, All-drop}
use Rattle.box_math.specs.Bounds.{Bounds, join_of}
use Rattle.box_math.specs.Measures.{volume_of, overlap_of}
use Rattle.tree_node.specs.Nodes.{Item}
use Rattle.tree_node.specs.Boxes.{no_item, box_at, least_box}
use Rattle.tree_node.specs.Positions.{pick}
use Rattle.tree_node.specs.Keys.{AtMost, IsFirstLeast}
use Rattle.tree_node.proofs.KeyLemmas.{AtMost-itself, AtMost-trans, AtMost-other, first_least_keeps}
use Rattle.tree_node.proofs.KeyLemmas.{first_least_takes}
use Rattle.tree_node.proofs.PickLemmas.{one_at, pick-append, length-pick}
use Rattle.tree_node.proofs.LeastBoxes.{least_box-more, least_box-cons, least_box-one}
use Rattle.rstar_split.specs.declared.sorting.Bound.{Bound}
use Rattle.rstar_split.specs.Cuts.{front_box, back_box, rank_of, order_key, AreBacks}
use Rattle.rstar_split.specs.Cuts.{IsLeastCut}

-- ---- boxes of the first and the last entries

-- the positions are those of entries
abbrev pub Below : List Item → List ℕ → Type 0
Below items order = All (λ p. p < length items) order

pub front_box-one : (dims : ℕ) (items : List Item) (order : List ℕ) → 0 < length order → Below items order
    → front_box dims items order 1 ≡ box_at items (get_or order 0 0)
unfolding front_box
front_box-one dims items [] some below = absurd (omega arith)
front_box-one dims items (p ∷ ps) some below =
    ap (least_box dims)
    (append-nil (take 1 (drop p items)) ∙ one_at items p no_item (below 0 0 (omega arith)))
    ∙ least_box-one dims (get_or items p no_item)

some_picked : (items : List Item) (ps : List ℕ) → Below items ps → 0 < length ps → 0 < length (pick items ps)
some_picked items ps below some = omega (arith, length-pick items no_item ps below)

pub front_box-more : (dims : ℕ) (items : List Item) (order : List ℕ) (i : ℕ) → 0 < i → i < length order
    → Below items order
    → front_box dims items order (i + 1) ≡ join_of dims (front_box dims items order i)
    (box_at items (get_or order i 0))
unfolding front_box
front_box-more dims items order i some within below =
    let p = get_or order i 0 in
    let long = length-take-le i order in
    let one : pick items (p ∷ []) ≡ get_or items p no_item ∷ [] = append-nil (take 1 (drop p items))
    ∙ one_at items p no_item (below i 0 within) in
    ap (λ ps. least_box dims (pick items ps)) (take_at_read order i 0 within).1
    ∙ ap (least_box dims)
    (pick-append items (take i order) (p ∷ []) ∙ ap (λ ys. pick items (take i order) ++ ys) one)
    ∙ least_box-more dims (pick items (take i order)) (get_or items p no_item)
    (some_picked items (take i order) (All-take (λ p. p < length items) i order below) (omega arith))

-- the last entry is alone after the others
pub back_box-last : (dims : ℕ) (items : List Item) (order : List ℕ) (i : ℕ) → i + 1 ≡ length order
    → Below items order → back_box dims items order i ≡ box_at items (get_or order i 0)
unfolding back_box
back_box-last dims items order i last below =
    let p = get_or order i 0 in
    let rest : drop i order ≡ p ∷ drop (suc i) order = drop-cons order i 0 (omega arith) in
    let none : drop (suc i) order ≡ [] = drop_all (suc i) order (omega arith) in
    ap (λ ps. least_box dims (pick items ps)) (rest ∙ ap (λ ps. p ∷ ps) none)
    ∙ ap (least_box dims)
    (append-nil (take 1 (drop p items)) ∙ one_at items p no_item (below i 0 (omega arith)))
    ∙ least_box-one dims (get_or items p no_item)

pub back_box-more : (dims : ℕ) (items : List Item) (order : List ℕ) (i : ℕ) → i + 1 < length order
    → Below items order
    → back_box dims items order i ≡ join_of dims (box_at items (get_or order i 0))
    (back_box dims items order (i + 1))
unfolding back_box
back_box-more dims items order i within below =
    let p = get_or order i 0 in
    let long = length-drop (i + 1) order in
    let next : drop i order ≡ p ∷ drop (i + 1) order = rw add-one (drop-cons order i 0 (omega arith)) in
    ap (λ ps. least_box dims (pick items ps)) next
    ∙ ap (λ xs. least_box dims (xs ++ pick items (drop (i + 1) order)))
    (one_at items p no_item (below i 0 (omega arith)))
    ∙ least_box-cons dims (get_or items p no_item) (pick items (drop (i + 1) order))
    (some_picked items (drop (i + 1) order) (All-drop (λ p. p < length items) (i + 1) order below)
    (omega arith))

pub all_below : (items : List Item) (order : List ℕ) (n : ℕ) → length items ≡ n
    → ((k : ℕ) → k < length order → get_or order k 0 < n) → Below items order
all_below items order n e h = λ k d l. let same = get_or_default order k d 0 l in
    omega (arith, same, e, h k l)

pub backs_none : (dims : ℕ) (items : List Item) (order : List ℕ) (n : ℕ) (boxes : List Bounds)
    → AreBacks dims items order n n boxes
backs_none dims items order n boxes = λ size d l u. absurd (omega arith)

pub backs_set : (dims : ℕ) (items : List Item) (order : List ℕ) (k n : ℕ) (boxes : List Bounds) (b : Bounds)
    → k < length boxes → AreBacks dims items order (k + 1) n boxes → b ≡ back_box dims items order k
    → AreBacks dims items order k n (set boxes k b)
backs_set dims items order k n boxes b within all is =
    λ size d low high.
    elim (cases_eq size k) [
      | inl z ↦ subst (λ s. get_or (set boxes k b) s d ≡ back_box dims items order s) (sym z)
          (get_or-set_same boxes k b d within ∙ is)
      | inr o ↦ get_or-set_other boxes k size b d o ∙ all size d (omega arith) high
    ]

-- ---- the least candidate

-- the key of a cut between two boxes
pub order_key-is : (dims : ℕ) (items : List Item) (order : List ℕ) (bound : Bound) (size : ℕ)
    (front back : Bounds) (o v w : ℕ) → front ≡ front_box dims items order size
    → back ≡ back_box dims items order size
    → o ≡ overlap_of dims front back → v ≡ volume_of dims front → w ≡ volume_of dims back
    → ◌≡◌ {A = List ℕ} (o ∷ (v + w) ∷ rank_of bound ∷ size ∷ []) (order_key dims items order bound size)
unfolding order_key
order_key-is dims items order bound size front back o v w a b c d e = rw (c, d, e, a, b)

pub least_cut_of_one : (dims : ℕ) (items : List Item) (order : List ℕ) (n m : ℕ) (bound : Bound) (size : ℕ)
    (key : List ℕ) → 2 * m ≤ n → size ≡ m → key ≡ order_key dims items order bound m
    → IsLeastCut dims items order n m bound (m + 1) size key
least_cut_of_one dims items order n m bound size key enough e h = record {
  first_full = omega arith;
  second_full = omega arith;
  is = subst (λ s. key ≡ order_key dims items order bound s) (sym e) h;
  least = λ s l u. let z : m ≡ s = omega arith in
      subst (λ s. AtMost key (order_key dims items order bound s)) z
      (subst (AtMost key) h (AtMost-itself key));
}

pub least_cut_keeps : (dims : ℕ) (items : List Item) (order : List ℕ) (n m : ℕ) (bound : Bound)
    (limit size : ℕ) (key : List ℕ) → IsLeastCut dims items order n m bound limit size key
    → AtMost key (order_key dims items order bound limit)
    → IsLeastCut dims items order n m bound (limit + 1) size key
least_cut_keeps dims items order n m bound limit size key b h = record {
  first_full = b.first_full;
  second_full = b.second_full;
  is = b.is;
  least = λ s l u.
      elim (cases_eq limit s) [
        | inl z ↦ subst (λ s. AtMost key (order_key dims items order bound s)) z h
        | inr o ↦ b.least s l (omega arith)
      ];
}

pub least_cut_takes : (dims : ℕ) (items : List Item) (order : List ℕ) (n m : ℕ) (bound : Bound)
    (limit size : ℕ) (key other : List ℕ) → IsLeastCut dims items order n m bound limit size key → m ≤ limit
    → limit + m ≤ n
    → other ≡ order_key dims items order bound limit → length key ≡ length other → (AtMost key other → ⊥)
    → IsLeastCut dims items order n m bound (limit + 1) limit other
least_cut_takes dims items order n m bound limit size key other b low high is same fails =
    let less = AtMost-other key other same fails in record {
      first_full = low;
      second_full = high;
      is = is;
      least = λ s l u.
          elim (cases_eq limit s) [
            | inl z ↦ subst (λ s. AtMost other (order_key dims items order bound s)) z
                (subst (AtMost other) is (AtMost-itself other))
            | inr o ↦ AtMost-trans other key _ less (b.least s l (omega arith))
          ];
    }

-- ---- the axis

-- one more axis, of a lesser sum
pub axis_takes : (f : ℕ → ℕ) (n i least margin : ℕ) → IsFirstLeast n (λ a. f a ∷ []) i → least ≡ f i
    → margin ≡ f n → margin < least → IsFirstLeast (n + 1) (λ a. f a ∷ []) n
axis_takes f n i least margin h e d l =
    first_least_takes n (λ a. f a ∷ []) i h (omega arith, λ _. tt) (λ m. absurd (omega (arith, m.0)))

-- one more axis, of a sum that is no less
pub axis_keeps : (f : ℕ → ℕ) (n i least margin : ℕ) → IsFirstLeast n (λ a. f a ∷ []) i → least ≡ f i
    → margin ≡ f n → least ≤ margin → IsFirstLeast (n + 1) (λ a. f a ∷ []) i
axis_keeps f n i least margin h e d l = first_least_keeps n (λ a. f a ∷ []) i h (omega arith, λ _. tt)
