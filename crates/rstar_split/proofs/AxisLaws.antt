-- The least candidate of the two sorts of an axis.
use Rattle.std.proofs.Common.{◌≡◌, ℕ, ◌+◌, ◌-◌, ◌<◌, ◌≤◌, List, length, refl, ap, sym, subst, ◌∙◌, arith}
use Rattle.std.proofs.Common.{slice_index}
use Rattle.tree_node.specs.Nodes.{Item}
use Rattle.tree_node.specs.Keys.{AtMost}
use Rattle.tree_node.proofs.KeyLemmas.{AtMost-trans, AtMost-other}
use Rattle.rstar_split.specs.declared.cuts.Cut.{Cut}
use Rattle.rstar_split.specs.declared.sorting.Bound.{Bound}
use Rattle.rstar_split.specs.declared.sorting.Bound.TheVariants.{Lower, Upper}
use Rattle.rstar_split.specs.Cuts.{order_of, order_key, cut_key, numbers_of, IsLeastCut}
use Rattle.rstar_split.specs.Sorts.{AreSorts, CutsAxis}
use Rattle.rstar_split.proofs.SortLaws.{length-order_of, below-order_of}

-- what is known of the least candidate of one sort
abbrev pub CutsSort : ℕ → List Item → ℕ → Bound → List ℕ → Cut → Type 0
CutsSort dims items m bound places cut =
    IsLeastCut dims items places (length places) m bound (length places + 1 - m) cut.size (numbers_of cut)

pub sort_whole : (items : List Item) (axis : ℕ) (bound : Bound) (places : List ℕ)
    → places ≡ order_of items axis bound → length places ≡ length items
sort_whole items axis bound places e = ap length e ∙ length-order_of items axis bound

pub sort_below : (items : List Item) (axis : ℕ) (bound : Bound) (places : List ℕ) (n : ℕ)
    → places ≡ order_of items axis bound → length items ≡ n
    → (k : ℕ) → k < length places → slice_index places k < n
sort_below items axis bound places n e h k within =
    let below =
    subst (λ ps. (i : ℕ) (d : ℕ) → i < length ps → slice_index ps i < length items) (sym e)
    (λ i d l. below-order_of items axis bound i 0 l) in
    omega (arith, below k 0 within, h)

-- none of a sort comes before it
none_before : (dims : ℕ) (items : List Item) (m axis : ℕ) (bound : Bound) (places : List ℕ) (cut : Cut)
    → places ≡ order_of items axis bound → CutsSort dims items m bound places cut
    → (s : ℕ) → m ≤ s → s + m ≤ length items
    → AtMost (numbers_of cut) (cut_key dims items axis bound s)
none_before dims items m axis bound places cut e h s low high =
    let whole = sort_whole items axis bound places e in
    subst (λ o. AtMost (numbers_of cut) (order_key dims items o bound s)) e
    (h.least s low (omega (arith, whole, high)))

of_both : (P : Bound → Type 0) → P Lower → P Upper → (b : Bound) → P b
of_both P l u Lower = l
of_both P l u Upper = u

-- what is at most each candidate of both sorts is the least of the axis
cuts_axis : (dims : ℕ) (items : List Item) (m axis : ℕ) (bound : Bound) (places : List ℕ) (cut : Cut)
    → places ≡ order_of items axis bound → cut.bound ≡ bound → CutsSort dims items m bound places cut
    → ((b : Bound) (s : ℕ) → m ≤ s → s + m ≤ length items
    → AtMost (numbers_of cut) (cut_key dims items axis b s))
    → CutsAxis dims items m axis places cut
cuts_axis dims items m axis bound places cut e by h all =
    let whole = sort_whole items axis bound places e in
    let key : numbers_of cut ≡ cut_key dims items axis cut.bound cut.size = h.is
    ∙ ap (λ o. order_key dims items o bound cut.size) e
    ∙ ap (λ b. cut_key dims items axis b cut.size) (sym by) in
    record {
      order = e ∙ ap (order_of items axis) (sym by);
      first_full = h.first_full;
      second_full = omega (arith, h.second_full, whole);
      least = λ b s low high. subst (λ k. AtMost k (cut_key dims items axis b s)) key (all b s low high);
    }

pub lower_is_least : (dims : ℕ) (items : List Item) (m axis : ℕ) (lower upper : List ℕ) (low high : Cut)
    → AreSorts items axis lower upper → low.bound ≡ Lower → CutsSort dims items m Lower lower low
    → CutsSort dims items m Upper upper high → AtMost (numbers_of low) (numbers_of high)
    → CutsAxis dims items m axis lower low
lower_is_least dims items m axis lower upper low high sorts by l h less =
    cuts_axis dims items m axis Lower lower low sorts.by_lower by l
    (of_both
    (λ b. (s : ℕ) → m ≤ s → s + m ≤ length items → AtMost (numbers_of low) (cut_key dims items axis b s))
    (none_before dims items m axis Lower lower low sorts.by_lower l)
    (λ s p q. AtMost-trans (numbers_of low) (numbers_of high) _ less
    (none_before dims items m axis Upper upper high sorts.by_upper h s p q)))

pub upper_is_least : (dims : ℕ) (items : List Item) (m axis : ℕ) (lower upper : List ℕ) (low high : Cut)
    → AreSorts items axis lower upper → high.bound ≡ Upper → CutsSort dims items m Lower lower low
    → CutsSort dims items m Upper upper high → (AtMost (numbers_of low) (numbers_of high) → ⊥)
    → CutsAxis dims items m axis upper high
upper_is_least dims items m axis lower upper low high sorts by l h fails =
    let less = AtMost-other (numbers_of low) (numbers_of high) refl fails in
    cuts_axis dims items m axis Upper upper high sorts.by_upper by h
    (of_both
    (λ b. (s : ℕ) → m ≤ s → s + m ≤ length items → AtMost (numbers_of high) (cut_key dims items axis b s))
    (λ s p q. AtMost-trans (numbers_of high) (numbers_of low) _ less
    (none_before dims items m axis Lower lower low sorts.by_lower l s p q))
    (none_before dims items m axis Upper upper high sorts.by_upper h))
