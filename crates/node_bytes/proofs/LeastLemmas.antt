-- The least box round the entries of a page, by the least and the greatest numbers of its columns.
use Rattle.std.proofs.Common.{◌≡◌, ◌∙◌, ℕ, zero, suc, ◌+◌, ◌*◌, ◌<◌, ℤ, ◌≤ℤ◌, List, [], ◌∷◌, length, get_or, ◌≤◌}
use Rattle.std.proofs.Common.{FitsSigned, w32, refl, sym, ap, subst, inl, inr, arith, int_lt}
use Rattle.std.proofs.lemmas.Bool.{cases_cond, cases_eq}
use Rattle.std.proofs.lemmas.Int.{ints, clamps}
use Rattle.std.specs.Int.{int_min, int_max}
use Rattle.block_bytes.specs.Numbers.{AreBytes, signed_at}
use Rattle.block_bytes.specs.Places.{first_places}
use Rattle.block_bytes.specs.PlaceLaws.{get_or-first_places, length-first_places}
use Rattle.box_bytes.specs.Laws.{box_at-is_box}
use Rattle.box_math.specs.Bounds.{Bounds, IsBox, IsOrdered, Within, join_of, on_axis}
use Rattle.box_math.proofs.BoxLaws.{IsBox-join_of, Within-antisym, Within-refl, Within-trans}
use Rattle.box_math.proofs.BoxLaws.{join_of-encloses, join_of-least}
use Rattle.tree_node.specs.Boxes.{box_round, least_box, no_item}
use Rattle.tree_node.specs.Nodes.{Item}
use Rattle.node_bytes.specs.Columns.{IsGreatestOf, IsLeastOf}
use Rattle.node_bytes.specs.Layout.{item_at}
use Rattle.node_bytes.proofs.ColumnLemmas.{high_read, low_read}
use Rattle.node_bytes.proofs.MaskLemmas.{signed_fits}

-- ---- the least and the greatest of some numbers, one number on

pub least_first : (f : ℕ → ℤ) (x : ℤ) → x ≡ f 0 → IsLeastOf f 1 x
least_first f x is =
    record {
      at = 0;
      within = omega arith;
      is = is;
      each = λ k h. let z : k ≡ 0 = omega arith in
          subst (λ j. x ≤ℤ f j) (sym z) (omega (arith, ints, is));
    }

pub greatest_first : (f : ℕ → ℤ) (x : ℤ) → x ≡ f 0 → IsGreatestOf f 1 x
greatest_first f x is =
    record {
      at = 0;
      within = omega arith;
      is = is;
      each = λ k h. let z : k ≡ 0 = omega arith in
          subst (λ j. f j ≤ℤ x) (sym z) (omega (arith, ints, is));
    }

pub least_more : (f : ℕ → ℤ) (n : ℕ) (least x next : ℤ) → IsLeastOf f n least → x ≡ f n
    → next ≡ int_min least x → IsLeastOf f (n + 1) next
least_more f n least x next so_far is next_is =
    let each : (k : ℕ) → k < n + 1 → int_min least x ≤ℤ f k = λ k h. elim (cases_eq k n) [
      | inl e ↦ subst (λ j. int_min least x ≤ℤ f j) (sym e)
          (subst (λ y. int_min least x ≤ℤ y) is (omega (arith, ints, clamps)))
      | inr o ↦ let below = so_far.each k (omega arith) in omega (arith, ints, clamps, below)
    ] in
    subst (IsLeastOf f (n + 1)) (sym next_is)
    (elim (cases_cond (int_lt x least) x least (int_min least x) refl) [
      | inl e ↦ record { at = n; within = omega arith; is = e ∙ is; each = each }
      | inr e ↦
          record { at = so_far.at; within = omega (arith, so_far.within); is = e ∙ so_far.is; each = each }
    ])

pub greatest_more : (f : ℕ → ℤ) (n : ℕ) (greatest x next : ℤ) → IsGreatestOf f n greatest → x ≡ f n
    → next ≡ int_max greatest x → IsGreatestOf f (n + 1) next
greatest_more f n greatest x next so_far is next_is =
    let each : (k : ℕ) → k < n + 1 → f k ≤ℤ int_max greatest x = λ k h. elim (cases_eq k n) [
      | inl e ↦ subst (λ j. f j ≤ℤ int_max greatest x) (sym e)
          (subst (λ y. y ≤ℤ int_max greatest x) is (omega (arith, ints, clamps)))
      | inr o ↦ let above = so_far.each k (omega arith) in omega (arith, ints, clamps, above)
    ] in
    subst (IsGreatestOf f (n + 1)) (sym next_is)
    (elim (cases_cond (int_lt x greatest) greatest x (int_max greatest x) refl) [
      | inl e ↦
          record { at = so_far.at; within = omega (arith, so_far.within); is = e ∙ so_far.is; each = each }
      | inr e ↦ record { at = n; within = omega arith; is = e ∙ is; each = each }
    ])

-- ---- the box round some entries encloses each, and is within each box that does

begins_within : (dims : ℕ) (b : Bounds) (xs : List Item) → Within dims b (box_round dims b xs)
begins_within dims b [] = Within-refl dims b
begins_within dims b (x ∷ xs) =
    Within-trans dims b (join_of dims b x.bounds) _ (join_of-encloses dims b x.bounds).0
    (begins_within dims (join_of dims b x.bounds) xs)

each_within : (dims : ℕ) (b : Bounds) (xs : List Item) (k : ℕ) → k < length xs
    → Within dims (get_or xs k no_item).bounds (box_round dims b xs)
each_within dims b [] k h = absurd (omega (arith, h))
each_within dims b (x ∷ xs) zero h =
    Within-trans dims x.bounds (join_of dims b x.bounds) _ (join_of-encloses dims b x.bounds).1
    (begins_within dims (join_of dims b x.bounds) xs)
each_within dims b (x ∷ xs) (suc k) h = each_within dims (join_of dims b x.bounds) xs k (omega (arith, h))

round_within : (dims : ℕ) (b c : Bounds) (xs : List Item) → Within dims b c
    → ((k : ℕ) → k < length xs → Within dims (get_or xs k no_item).bounds c)
    → Within dims (box_round dims b xs) c
round_within dims b c [] first each = first
round_within dims b c (x ∷ xs) first each =
    round_within dims (join_of dims b x.bounds) c xs
    (join_of-least dims b x.bounds c first (each 0 (omega arith))) (λ k h. each (suc k) (omega (arith, h)))

round_is_box : (dims : ℕ) (b : Bounds) (xs : List Item) → IsBox dims b
    → ((k : ℕ) → k < length xs → IsBox dims (get_or xs k no_item).bounds) → IsBox dims (box_round dims b xs)
round_is_box dims b [] first each = first
round_is_box dims b (x ∷ xs) first each =
    round_is_box dims (join_of dims b x.bounds) xs
    (IsBox-join_of dims b x.bounds first (each 0 (omega arith))) (λ k h. each (suc k) (omega (arith, h)))

-- the box that begins on each axis with the least low and ends with the greatest high is the least one
is_least_box : (dims : ℕ) (xs : List Item) (b : Bounds) → 0 < length xs → IsBox dims b
    → ((k : ℕ) → k < length xs → IsBox dims (get_or xs k no_item).bounds)
    → ((axis : ℕ) → axis < dims
    → IsLeastOf (λ k. on_axis (get_or xs k no_item).bounds.low axis) (length xs) (on_axis b.low axis))
    → ((axis : ℕ) → axis < dims
    → IsGreatestOf (λ k. on_axis (get_or xs k no_item).bounds.high axis) (length xs) (on_axis b.high axis))
    → b ≡ least_box dims xs
unfolding least_box
is_least_box dims [] b some box boxes lows highs = absurd (omega (arith, some))
is_least_box dims (x ∷ xs) b some box boxes lows highs =
    let all = box_round dims x.bounds xs in
    let encloses : (k : ℕ) → k < length (x ∷ xs)
    → Within dims (get_or (x ∷ xs) k no_item).bounds all = first_or_later in
    let inside : Within dims all b =
    round_within dims x.bounds b xs
    (λ axis h. ((lows axis h).each 0 (omega arith), (highs axis h).each 0 (omega arith)))
    (λ k lt axis h.
    ((lows axis h).each (suc k) (omega (arith, lt)), (highs axis h).each (suc k) (omega (arith, lt)))) in
    let outside : Within dims b all = λ axis h.
    let low = lows axis h in
    let high = highs axis h in (
      subst (λ z. on_axis all.low axis ≤ℤ z) (sym low.is) (encloses low.at low.within axis h).0,
      subst (λ z. z ≤ℤ on_axis all.high axis) (sym high.is) (encloses high.at high.within axis h).1,
    ) in
    Within-antisym dims b all box
    (round_is_box dims x.bounds xs (boxes 0 (omega arith)) (λ k lt. boxes (suc k) (omega (arith, lt))))
    outside inside
  where
    first_or_later : (k : ℕ) → k < length (x ∷ xs)
        → Within dims (get_or (x ∷ xs) k no_item).bounds (box_round dims x.bounds xs)
    first_or_later zero h = begins_within dims x.bounds xs
    first_or_later (suc k) h = each_within dims x.bounds xs k (omega (arith, h))

-- ---- in the columns of a page

item_is_box : (dims place : ℕ) (page : List ℕ) → AreBytes page
    → IsOrdered dims (item_at dims page place).bounds.low (item_at dims page place).bounds.high
    → IsBox dims (item_at dims page place).bounds
unfolding item_at
item_is_box dims place page bytes ordered =
    box_at-is_box dims page (16 + 4 * place) (416 + 4 * place) 800 bytes ordered

module _ (dims from count : ℕ) (page : List ℕ) (low high : List ℤ) (some : 0 < count) (bytes : AreBytes page)
    (low_size : length low ≡ dims) (high_size : length high ≡ dims)
    (ordered : (place : ℕ) → from ≤ place → place < from + count
    → IsOrdered dims (item_at dims page place).bounds.low (item_at dims page place).bounds.high)
    (lows : (axis : ℕ) → axis < dims
    → IsLeastOf (λ k. signed_at (16 + 800 * axis + 4 * from + 4 * k) page) count (on_axis low axis))
    (highs : (axis : ℕ) → axis < dims
    → IsGreatestOf (λ k. signed_at (16 + 800 * axis + 400 + 4 * from + 4 * k) page) count (on_axis high axis)) where
  abbrev there : ℕ → Item
  there k = item_at dims page (from + k)

  low_there : (axis k : ℕ) → axis < dims
      → on_axis (there k).bounds.low axis ≡ signed_at (16 + 800 * axis + 4 * from + 4 * k) page
  low_there axis k h =
      let at : 16 + 800 * axis + 4 * (from + k) ≡ 16 + 800 * axis + 4 * from + 4 * k = omega arith in
      low_read dims (from + k) page axis h ∙ ap (λ (p : ℕ). signed_at p page) at

  high_there : (axis k : ℕ) → axis < dims
      → on_axis (there k).bounds.high axis ≡ signed_at (16 + 800 * axis + 400 + 4 * from + 4 * k) page
  high_there axis k h =
      let at : 16 + 800 * axis + 400 + 4 * (from + k) ≡ 16 + 800 * axis + 400 + 4 * from + 4 * k = omega arith in
      high_read dims (from + k) page axis h ∙ ap (λ (p : ℕ). signed_at p page) at

  abbrev made : Bounds
  made = record { low = low; high = high }

  pub made_is_box : IsBox dims made
  made_is_box = record {
    lows = low_size;
    highs = high_size;
    spans = λ axis h.
        let l = lows axis h in
        let g = highs axis h in
        let first = ordered (from + 0) (omega arith) (omega (arith, some)) axis h in
        let below = l.each 0 some in
        let above = g.each 0 some in
        let low_is = low_there axis 0 h in
        let high_is = high_there axis 0 h in
        record {
          low_fits = subst (FitsSigned w32) (sym l.is) (signed_fits _ page bytes);
          high_fits = subst (FitsSigned w32) (sym g.is) (signed_fits _ page bytes);
          ordered = omega (arith, ints, first, below, above, low_is, high_is);
        };
  }

  many : length (first_places there count) ≡ count
  many = length-first_places there count

  item_is : (k : ℕ) → k < count → get_or (first_places there count) k no_item ≡ there k
  item_is k lt = get_or-first_places there count k no_item lt

  pub made_is_least : made ≡ least_box dims (first_places there count)
  made_is_least =
      is_least_box dims (first_places there count) made (omega (arith, many, some)) made_is_box
      (λ k lt. let within : k < count = omega (arith, many, lt) in
      subst (λ (x : Item). IsBox dims x.bounds) (sym (item_is k within))
      (item_is_box dims (from + k) page bytes (ordered (from + k) (omega arith) (omega (arith, within)))))
      (λ axis h. let l = lows axis h in
      let read : (k : ℕ) → k < count
      → signed_at (16 + 800 * axis + 4 * from + 4 * k) page ≡ on_axis
      (get_or (first_places there count) k no_item).bounds.low axis =
      λ k lt. sym (low_there axis k h)
      ∙ ap (λ (x : Item). on_axis x.bounds.low axis) (sym (item_is k lt)) in
      record {
        at = l.at;
        within = omega (arith, many, l.within);
        is = l.is ∙ read l.at l.within;
        each = λ k lt. let within : k < count = omega (arith, many, lt) in
            subst (λ z. on_axis low axis ≤ℤ z) (read k within) (l.each k within);
      })
      (λ axis h. let g = highs axis h in
      let read : (k : ℕ) → k < count
      → signed_at (16 + 800 * axis + 400 + 4 * from + 4 * k) page ≡ on_axis
      (get_or (first_places there count) k no_item).bounds.high axis =
      λ k lt. sym (high_there axis k h)
      ∙ ap (λ (x : Item). on_axis x.bounds.high axis) (sym (item_is k lt)) in
      record {
        at = g.at;
        within = omega (arith, many, g.within);
        is = g.is ∙ read g.at g.within;
        each = λ k lt. let within : k < count = omega (arith, many, lt) in
            subst (λ z. z ≤ℤ on_axis high axis) (read k within) (g.each k within);
      })
