-- Sums of margins: over one more size, and of both groups together.
use Rattle.std.proofs.Common.{◌≡◌, ℕ, zero, suc, ◌+◌, List, refl, ap, sym, ◌∙◌, arith, add-one}
use Rattle.box_math.specs.Measures.{margin_of}
use Rattle.tree_node.specs.Nodes.{Item}
use Rattle.rstar_split.specs.Cuts.{front_box, back_box, margins_of}
use Rattle.rstar_split.specs.Margins.{front_margins_of, back_margins_of}

pub front_margins-one : (dims : ℕ) (items : List Item) (order : List ℕ) (m t : ℕ)
    → t ≡ margin_of dims (front_box dims items order m) → t ≡ front_margins_of dims items order m 1
unfolding front_margins_of
front_margins-one dims items order m t h =
    let same : m ≡ m + 0 = omega arith in
    let here = h ∙ ap (λ s. margin_of dims (front_box dims items order s)) same in
    omega (arith, here)

pub front_margins-more : (dims : ℕ) (items : List Item) (order : List ℕ) (m k s t : ℕ)
    → s ≡ front_margins_of dims items order m k → t ≡ margin_of dims (front_box dims items order (m + k))
    → s + t ≡ front_margins_of dims items order m (k + 1)
unfolding front_margins_of
front_margins-more dims items order m k s t a b = rw add-one (omega (arith, a, b))

-- what a sum has that goes on with the lesser sizes
pub back_margins-less : (dims : ℕ) (items : List Item) (order : List ℕ) (m left more size t : ℕ)
    → left + 1 ≡ more → m + left ≡ size → t ≡ margin_of dims (back_box dims items order size)
    → t + back_margins_of dims items order m left ≡ back_margins_of dims items order m more
unfolding back_margins_of
back_margins-less dims items order m left more size t e f h =
    let here = h ∙ ap (λ s. margin_of dims (back_box dims items order s)) (sym f) in
    rw (← e, add-one) (omega (arith, here))

pub back_margins-none : (dims : ℕ) (items : List Item) (order : List ℕ) (m : ℕ)
    → back_margins_of dims items order m 0 ≡ 0
unfolding back_margins_of
back_margins-none dims items order m = refl

pub margins-parts : (dims : ℕ) (items : List Item) (order : List ℕ) (m count : ℕ)
    → front_margins_of dims items order m count + back_margins_of dims items order m count
    ≡ margins_of dims items order m count
unfolding front_margins_of back_margins_of margins_of
margins-parts dims items order m zero = refl
margins-parts dims items order m (suc k) = omega (arith, margins-parts dims items order m k)
