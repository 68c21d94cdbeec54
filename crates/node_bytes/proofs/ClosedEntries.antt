-- The entries of a page on which the places are closed up behind one that is taken.
use Rattle.std.proofs.Common.{◌≡◌, ◌∙◌, ◌⊎◌, ℕ, ◌+◌, ◌-◌, ◌*◌, ◌/◌, ◌<◌, ◌≤◌, Bool, true, false, List, ap, arith}
use Rattle.std.proofs.Common.{inl, inr, sym, ⊎_elim}
use Rattle.std.proofs.lemmas.Bool.{cases_Bool, cases_lt}
use Rattle.std.specs.Int.{w32, cast_signed}
use Rattle.block_bytes.specs.Numbers.{number_at, signed_at}
use Rattle.box_bytes.specs.Corners.{IsOfCorner, corner_at}
use Rattle.box_bytes.specs.Laws.{corner_is, length-corner_at, on_axis-corner_at}
use Rattle.node_bytes.specs.Layout.{IsNamed, IsOfEntry, has_tags, high_place, item_at, low_place, reference_place}
use Rattle.node_bytes.specs.Layout.{tag_at, tag_place}
use Rattle.node_bytes.specs.Taken.{AreClosed, IsClosed, IsTakenOut}
use Rattle.node_bytes.proofs.Places.{same_item, tag_none, tag_there, tags_same}

-- ---- an entry that is that of another place before

signed_at-moved : (at to : ℕ) (a b : List ℕ) → number_at 4 at a ≡ number_at 4 to b
    → signed_at at a ≡ signed_at to b
unfolding signed_at
signed_at-moved at to a b same = ap (cast_signed w32) same

corner_moved : (dims at to : ℕ) (new old : List ℕ)
    → ((axis : ℕ) → axis < dims → number_at 4 (at + 800 * axis) new ≡ number_at 4 (to + 800 * axis) old)
    → corner_at dims new at 800 ≡ corner_at dims old to 800
corner_moved dims at to new old same =
    corner_is dims old to 800 (corner_at dims new at 800) (length-corner_at dims new at 800)
    (λ axis lt. on_axis-corner_at dims new at 800 axis lt
    ∙ signed_at-moved (at + 800 * axis) (to + 800 * axis) new old (same axis lt))

tag_moved : (dims k j : ℕ) (new old : List ℕ) → has_tags new ≡ has_tags old
    → (has_tags old ≡ true → number_at 4 (tag_place dims k) new ≡ number_at 4 (tag_place dims j) old)
    → tag_at dims new k ≡ tag_at dims old j
tag_moved dims k j new old tags same = elim (cases_Bool (has_tags old)) [
  | inl has ↦ tag_there dims k new (tags ∙ has) ∙ same has ∙ sym (tag_there dims j old has)
  | inr none ↦ tag_none dims k new (tags ∙ none) ∙ sym (tag_none dims j old none)
]

item_moved : (dims k j : ℕ) (new old : List ℕ) → has_tags new ≡ has_tags old
    → ((axis : ℕ) → axis < dims
    → number_at 4 (low_place k + 800 * axis) new ≡ number_at 4 (low_place j + 800 * axis) old)
    → ((axis : ℕ) → axis < dims
    → number_at 4 (high_place k + 800 * axis) new ≡ number_at 4 (high_place j + 800 * axis) old)
    → number_at 8 (reference_place dims k) new ≡ number_at 8 (reference_place dims j) old
    → (has_tags old ≡ true → number_at 4 (tag_place dims k) new ≡ number_at 4 (tag_place dims j) old)
    → item_at dims new k ≡ item_at dims old j
unfolding item_at
item_moved dims k j new old tags lows highs reference tag =
    same_item (corner_at dims new (low_place k) 800) (corner_at dims old (low_place j) 800)
    (corner_at dims new (high_place k) 800) (corner_at dims old (high_place j) 800)
    (number_at 8 (reference_place dims k) new) (number_at 8 (reference_place dims j) old)
    (tag_at dims new k) (tag_at dims old j)
    (corner_moved dims (low_place k) (low_place j) new old lows)
    (corner_moved dims (high_place k) (high_place j) new old highs)
    reference (tag_moved dims k j new old tags tag)

-- ---- a byte of no entry lies outside each row

outside_four : (first place count k : ℕ)
    → ((p : ℕ) → p < count → first + 4 * p ≤ k → k < first + 4 * p + 4 → ⊥)
    → (k + 1 ≤ first + 4 * place) ⊎ (first + 4 * count ≤ k)
outside_four first place count k none =
    ⊎_elim (λ (before : k < first + 4 * place). inl (omega (arith, before)))
    (λ (from : first + 4 * place ≤ k). ⊎_elim
    (λ (upto : k < first + 4 * count). let p : ℕ = (k - first) / 4 in
    absurd (none p (omega (arith, from, upto)) (omega (arith, from, upto)) (omega (arith, from, upto))))
    (λ (behind : first + 4 * count ≤ k). inr behind) (cases_lt k (first + 4 * count)))
    (cases_lt k (first + 4 * place))

outside_eight : (first place count k : ℕ)
    → ((p : ℕ) → p < count → first + 8 * p ≤ k → k < first + 8 * p + 8 → ⊥)
    → (k + 1 ≤ first + 8 * place) ⊎ (first + 8 * count ≤ k)
outside_eight first place count k none =
    ⊎_elim (λ (before : k < first + 8 * place). inl (omega (arith, before)))
    (λ (from : first + 8 * place ≤ k). ⊎_elim
    (λ (upto : k < first + 8 * count). let p : ℕ = (k - first) / 8 in
    absurd (none p (omega (arith, from, upto)) (omega (arith, from, upto)) (omega (arith, from, upto))))
    (λ (behind : first + 8 * count ≤ k). inr behind) (cases_lt k (first + 8 * count)))
    (cases_lt k (first + 8 * place))

-- each column has the lows or the highs of an axis
axis_of : (column : ℕ) → (axis : ℕ) × ((column ≡ 2 * axis) ⊎ (column ≡ 2 * axis + 1))
axis_of column = (column / 2, grind arith)

-- ---- the rows closed one after the other

module _ (dims : ℕ) (tagged : Bool) (place count : ℕ) (old mid next new : List ℕ) (within : place < count)
    (few : count ≤ 100) (axes : AreClosed (2 * dims) place count old mid)
    (references : IsClosed (16 + 800 * dims + 8 * place) (16 + 800 * dims + 8 * count) 8 mid next)
    (with_tags : tagged ≡ true
    → IsClosed (816 + 800 * dims + 4 * place) (816 + 800 * dims + 4 * count) 4 next new)
    (without : tagged ≡ false → new ≡ next) where
  -- what lies in front of the tags, in front of the references, and in front of all columns
  front : (n at : ℕ) → at + n ≤ 816 + 800 * dims → number_at n at new ≡ number_at n at next
  front n at before = elim (cases_Bool tagged) [
    | inl has ↦ (with_tags has).others n at (inl (omega (arith, before)))
    | inr none ↦ ap (number_at n at) (without none)
  ]

  in_columns : (n at : ℕ) → at + n ≤ 16 + 800 * dims → number_at n at new ≡ number_at n at mid
  in_columns n at before =
      front n at (omega (arith, before)) ∙ references.others n at (inl (omega (arith, before)))

  head_kept : (n at : ℕ) → at + n ≤ 16 → number_at n at new ≡ number_at n at old
  head_kept n at before =
      in_columns n at (omega (arith, before)) ∙ axes.others n at (λ column lt. inl (omega (arith, before)))

  tags_kept : has_tags new ≡ has_tags old
  tags_kept = tags_same new old (head_kept 1 0 (omega arith)) (head_kept 1 4 (omega arith))

  -- behind all columns of axes
  behind_columns : (n at : ℕ) → 16 + 800 * dims ≤ at → number_at n at mid ≡ number_at n at old
  behind_columns n at behind = axes.others n at (λ column lt. inr (omega (arith, lt, few, behind)))

  -- a number in a column: before the place, and behind it
  number_before : (column k at : ℕ) → at ≡ 16 + 400 * column + 4 * k → column < 2 * dims → k < place
      → number_at 4 at new ≡ number_at 4 at old
  number_before column k at there lt before =
      in_columns 4 at (omega (arith, there, lt, before, within, few))
      ∙ axes.others 4 at (λ other below. ⊎_elim
      (λ (less : other < column). inr (omega (arith, there, less, within, few)))
      (λ (more : column ≤ other). inl (omega (arith, there, more, before))) (cases_lt other column))

  number_moved : (column k at to : ℕ) → at ≡ 16 + 400 * column + 4 * k → to ≡ 16 + 400 * column + 4 * (k + 1)
      → column < 2 * dims → place ≤ k → k + 1 < count → number_at 4 at new ≡ number_at 4 to old
  number_moved column k at to there beside lt le upto =
      in_columns 4 at (omega (arith, there, lt, upto, few)) ∙ ap (λ (p : ℕ). number_at 4 p mid) there
      ∙ axes.moved column k lt le upto ∙ ap (λ (p : ℕ). number_at 4 p old) (sym beside)

  item_before : (k : ℕ) → tagged ≡ has_tags old → k < place → item_at dims new k ≡ item_at dims old k
  item_before k tags before = item_moved dims k k new old tags_kept
      (λ axis lt. number_before (2 * axis) k (low_place k + 800 * axis) (omega arith) (omega (arith, lt)) before)
      (λ axis lt. number_before (2 * axis + 1) k (high_place k + 800 * axis) (omega arith) (omega (arith, lt)) before)
      (front 8 (reference_place dims k) (omega (arith, before, within, few))
      ∙ references.others 8 (reference_place dims k) (inl (omega (arith, before)))
      ∙ behind_columns 8 (reference_place dims k) (omega arith))
      (λ has. (with_tags (tags ∙ has)).others 4 (tag_place dims k) (inl (omega (arith, before)))
      ∙ references.others 4 (tag_place dims k) (inr (omega (arith, few)))
      ∙ behind_columns 4 (tag_place dims k) (omega arith))

  item_behind : (k : ℕ) → tagged ≡ has_tags old → place ≤ k → k + 1 < count
      → item_at dims new k ≡ item_at dims old (k + 1)
  item_behind k tags le upto = item_moved dims k (k + 1) new old tags_kept
      (λ axis lt. number_moved (2 * axis) k (low_place k + 800 * axis) (low_place (k + 1) + 800 * axis)
      (omega arith) (omega arith) (omega (arith, lt)) le upto)
      (λ axis lt. number_moved (2 * axis + 1) k (high_place k + 800 * axis) (high_place (k + 1) + 800 * axis)
      (omega arith) (omega arith) (omega (arith, lt)) le upto)
      (let there : reference_place dims k + 8 ≡ reference_place dims (k + 1) = omega arith in
      front 8 (reference_place dims k) (omega (arith, upto, few))
      ∙ references.moved 8 (reference_place dims k) (omega (arith, le)) (omega (arith, upto))
      ∙ ap (λ (p : ℕ). number_at 8 p mid) there
      ∙ behind_columns 8 (reference_place dims (k + 1)) (omega arith))
      (λ has. let there : tag_place dims k + 4 ≡ tag_place dims (k + 1) = omega arith in
      (with_tags (tags ∙ has)).moved 4 (tag_place dims k) (omega (arith, le)) (omega (arith, upto))
      ∙ ap (λ (p : ℕ). number_at 4 p next) there
      ∙ references.others 4 (tag_place dims (k + 1)) (inr (omega (arith, few)))
      ∙ behind_columns 4 (tag_place dims (k + 1)) (omega arith))

  -- the bytes of the last place become zeros
  last_cleared : (last k : ℕ) → last + 1 ≡ count → IsOfEntry dims tagged last k → number_at 1 k new ≡ 0
  last_cleared last k is (inl of) = let axis = of.0 in let lt = of.1 in let from = of.2 in let upto = of.3 in
      in_columns 1 k (omega (arith, is, few, lt, upto))
      ∙ axes.cleared (2 * axis) k (omega (arith, lt)) (omega (arith, is, from)) (omega (arith, is, upto))
  last_cleared last k is (inr (inl of)) = let axis = of.0 in let lt = of.1 in let from = of.2 in let upto = of.3 in
      in_columns 1 k (omega (arith, is, few, lt, upto))
      ∙ axes.cleared (2 * axis + 1) k (omega (arith, lt)) (omega (arith, is, from)) (omega (arith, is, upto))
  last_cleared last k is (inr (inr (inl of))) = let from = of.0 in let upto = of.1 in
      front 1 k (omega (arith, is, few, upto))
      ∙ references.cleared k (omega (arith, is, from)) (omega (arith, is, upto))
  last_cleared last k is (inr (inr (inr of))) = let from = of.1 in let upto = of.2 in
      (with_tags of.0).cleared k (omega (arith, is, from)) (omega (arith, is, upto))

  -- a byte of no entry is in no column
  in_no_column : (column k p : ℕ) → column < 2 * dims → (IsNamed dims tagged count k → ⊥) → p < count
      → 16 + 400 * column + 4 * p ≤ k → k < 16 + 400 * column + 4 * p + 4 → ⊥
  in_no_column column k p lt unnamed there from upto =
      let axis = axis_of column in
      let a : ℕ = axis.0 in
      ⊎_elim (λ (low : column ≡ 2 * a).
      let of : IsOfCorner dims (low_place p) 800 k =
      (a, omega (arith, lt, low), omega (arith, low, from), omega (arith, low, upto)) in
      unnamed (inr (p, there, inl of)))
      (λ (high : column ≡ 2 * a + 1).
      let of : IsOfCorner dims (high_place p) 800 k =
      (a, omega (arith, lt, high), omega (arith, high, from), omega (arith, high, upto)) in
      unnamed (inr (p, there, inr (inl of)))) axis.1

  -- and it stays
  rest_kept : (k : ℕ) → (IsNamed dims tagged count k → ⊥) → number_at 1 k new ≡ number_at 1 k old
  rest_kept k unnamed = tags_stay
      ∙ references.others 1 k (outside_eight (16 + 800 * dims) place count k
      (λ p lt from upto. unnamed (inr (p, lt, inr (inr (inl (from, upto)))))))
      ∙ axes.others 1 k (λ column lt. outside_four (16 + 400 * column) place count k
      (λ p there from upto. in_no_column column k p lt unnamed there from upto))
    where
      tags_stay : number_at 1 k new ≡ number_at 1 k next
      tags_stay = elim (cases_Bool tagged) [
        | inl has ↦ (with_tags has).others 1 k (outside_four (816 + 800 * dims) place count k
            (λ p lt from upto. unnamed (inr (p, lt, inr (inr (inr (has, from, upto)))))))
        | inr none ↦ ap (number_at 1 k) (without none)
      ]

  -- the entry is taken out
  pub taken_out : tagged ≡ has_tags old → IsTakenOut dims tagged place count old new
  taken_out tags = record {
    before = λ k lt. item_before k tags lt;
    moved = λ k le upto. item_behind k tags le upto;
    cleared = λ k of. last_cleared (count - 1) k (omega (arith, within)) of;
    head = head_kept;
    rest = rest_kept;
  }
