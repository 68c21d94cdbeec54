-- Rows of bytes closed up behind those that are taken: one row, and the columns one after the other.
use Rattle.std.proofs.Common.{◌≡◌, ◌∙◌, ◌⊎◌, ℕ, ◌+◌, ◌-◌, ◌*◌, ◌<◌, ◌≤◌, List, ◌++◌, length}
use Rattle.std.proofs.Common.{take, drop, replicate, get_or, ap, arith, below_more, inl, inr, refl, sym, ⊎_elim}
use Rattle.std.proofs.Common.{length-drop}
use Rattle.std.proofs.lemmas.List.{get_or_append_left, get_or-append-add, get_or-drop, get_or-replicate, get_or-take}
use Rattle.std.proofs.lemmas.List.{length-replicate, length-take-le}
use borrow.Rule.Slice.PartMut.{mid_of, put_mid}
use Rattle.block_bytes.specs.Laws.{byte_at, number_at-same}
use Rattle.block_bytes.specs.Numbers.{number_at}
use Rattle.node_bytes.specs.Taken.{AreClosed, IsClosed}

-- ---- one row

-- a number is read from its own bytes alone, wherever they lie
pub number_at-moved : (n at to : ℕ) (a b : List ℕ)
    → ((k : ℕ) → k < n → number_at 1 (at + k) a ≡ number_at 1 (to + k) b) → number_at n at a ≡ number_at n to b
unfolding number_at
number_at-moved n at to a b same = number_at-same n 0 (drop at a) (drop to b)
    (λ k le lt. sym (byte_at k (drop at a)) ∙ get_or-drop at a k 0 ∙ byte_at (at + k) a ∙ same k (omega (arith, lt))
    ∙ sym (byte_at (to + k) b) ∙ sym (get_or-drop to b k 0) ∙ byte_at k (drop to b))

module _ (a n : ℕ) (mid ys : List ℕ) (fits : a + n ≤ length mid) (size : length ys ≡ n) where
  front : length (take a mid) ≡ a
  front = length-take-le a mid (omega (arith, fits))

  -- a part that was written
  put_inside : (k : ℕ) → k < n → get_or (put_mid a n mid ys) (a + k) 0 ≡ get_or ys k 0
  put_inside k lt =
      let there : a + k ≡ length (take a mid) + k = omega (arith, front) in
      ap (λ (i : ℕ). get_or (put_mid a n mid ys) i 0) there
      ∙ get_or-append-add (take a mid) (ys ++ drop n (drop a mid)) k 0
      ∙ get_or_append_left ys (drop n (drop a mid)) 0 k (omega (arith, lt, size))

  -- and what lies outside it
  put_before : (k : ℕ) → k < a → get_or (put_mid a n mid ys) k 0 ≡ get_or mid k 0
  put_before k lt =
      get_or_append_left (take a mid) (ys ++ drop n (drop a mid)) 0 k (omega (arith, lt, front))
      ∙ get_or-take a mid k 0 lt

  put_behind : (k : ℕ) → a + n ≤ k → get_or (put_mid a n mid ys) k 0 ≡ get_or mid k 0
  put_behind k le =
      let j : ℕ = k - (a + n) in
      let there : k ≡ length (take a mid) + (length ys + j) = omega (arith, front, size, le) in
      let back : a + (n + j) ≡ k = omega (arith, le) in
      ap (λ (i : ℕ). get_or (put_mid a n mid ys) i 0) there
      ∙ get_or-append-add (take a mid) (ys ++ drop n (drop a mid)) (length ys + j) 0
      ∙ get_or-append-add ys (drop n (drop a mid)) j 0
      ∙ get_or-drop n (drop a mid) j 0 ∙ get_or-drop a mid (n + j) 0
      ∙ ap (λ (i : ℕ). get_or mid i 0) back

-- a part that was filled with zeros
pub zeros_filled : (a n : ℕ) (mid ys : List ℕ) → a + n ≤ length mid
    → ys ≡ replicate (length (mid_of a n mid)) 0 → ys ≡ replicate n 0
zeros_filled a n mid ys fits is =
    let size : length (mid_of a n mid) ≡ n =
    length-take-le n (drop a mid) (omega (arith, fits, length-drop a mid)) in
    is ∙ ap (λ (m : ℕ). replicate m 0) size

pub zeros_there : (a n : ℕ) (mid ys : List ℕ) → a + n ≤ length mid → ys ≡ replicate n 0
    → (k : ℕ) → a ≤ k → k < a + n → number_at 1 k (put_mid a n mid ys) ≡ 0
zeros_there a n mid ys fits is k le lt =
    let size : length ys ≡ n = ap length is ∙ length-replicate {A = ℕ} n 0 in
    let j : ℕ = k - a in
    let there : k ≡ a + j = omega (arith, le) in
    sym (byte_at k (put_mid a n mid ys)) ∙ ap (λ (i : ℕ). get_or (put_mid a n mid ys) i 0) there
    ∙ put_inside a n mid ys fits size j (omega (arith, le, lt))
    ∙ ap (λ (l : List ℕ). get_or l j 0) is ∙ get_or-replicate n j 0 0 (omega (arith, le, lt))

pub zeros_beside : (a n : ℕ) (mid ys : List ℕ) → a + n ≤ length mid → ys ≡ replicate n 0
    → (k : ℕ) → (k < a) ⊎ (a + n ≤ k) → number_at 1 k (put_mid a n mid ys) ≡ number_at 1 k mid
zeros_beside a n mid ys fits is k apart =
    let size : length ys ≡ n = ap length is ∙ length-replicate {A = ℕ} n 0 in
    sym (byte_at k (put_mid a n mid ys))
    ∙ ⊎_elim (put_before a n mid ys fits size k) (put_behind a n mid ys fits size k) apart ∙ byte_at k mid

-- the bytes behind those taken are copied over them, and the last ones become zeros
pub row_closed : (from to width : ℕ) (old mid new : List ℕ) → from + width ≤ to
    → ((k d : ℕ) → from ≤ k → k < from + (to - (from + width))
    → get_or mid k d ≡ get_or old (from + width + (k - from)) d)
    → ((k d : ℕ) → k < from → get_or mid k d ≡ get_or old k d)
    → ((k d : ℕ) → from + (to - (from + width)) ≤ k → get_or mid k d ≡ get_or old k d)
    → ((k : ℕ) → to ≤ k + width → k < to → number_at 1 k new ≡ 0)
    → ((k : ℕ) → (k + width < to) ⊎ (to ≤ k) → number_at 1 k new ≡ number_at 1 k mid)
    → IsClosed from to width old new
row_closed from to width old mid new fits copied below behind cleared stays = record {
  moved = λ n at le upto. number_at-moved n at (at + width) new old (λ k lt.
      let there : from + width + (at + k - from) ≡ at + width + k = omega (arith, le) in
      stays (at + k) (inl (omega (arith, upto, lt))) ∙ sym (byte_at (at + k) mid)
      ∙ copied (at + k) 0 (omega (arith, le)) (omega (arith, le, upto, lt))
      ∙ ap (λ (i : ℕ). get_or old i 0) there ∙ byte_at (at + width + k) old);
  cleared = cleared;
  others = λ n at apart. number_at-same n at new old (λ k le lt. ⊎_elim
      (λ (before : at + n ≤ from). stays k (inl (omega (arith, before, lt, fits))) ∙ sym (byte_at k mid)
      ∙ below k 0 (omega (arith, before, lt)) ∙ byte_at k old)
      (λ (after : to ≤ at). stays k (inr (omega (arith, after, le))) ∙ sym (byte_at k mid)
      ∙ behind k 0 (omega (arith, after, le, fits)) ∙ byte_at k old) apart);
}

-- ---- the columns, one after the other

pub columns_none : (place count : ℕ) (page : List ℕ) → AreClosed 0 place count page page
columns_none place count page = record {
  moved = λ column k lt. absurd (omega (arith, lt));
  cleared = λ column k lt. absurd (omega (arith, lt));
  others = λ n at apart. refl;
}

pub columns_more : (columns place count : ℕ) (old mid new : List ℕ) → place < count → count ≤ 100
    → AreClosed columns place count old mid
    → IsClosed (16 + 400 * columns + 4 * place) (16 + 400 * columns + 4 * count) 4 mid new
    → AreClosed (columns + 1) place count old new
columns_more columns place count old mid new within few before row = record {
  moved = λ column k lt. below_more (λ column. place ≤ k → k + 1 < count
      → number_at 4 (16 + 400 * column + 4 * k) new ≡ number_at 4 (16 + 400 * column + 4 * (k + 1)) old) columns
      (λ column lt le upto. row.others 4 (16 + 400 * column + 4 * k) (inl (omega (arith, lt, upto, few)))
      ∙ before.moved column k lt le upto)
      (λ le upto.
      let there : 16 + 400 * columns + 4 * k + 4 ≡ 16 + 400 * columns + 4 * (k + 1) = omega arith in
      row.moved 4 (16 + 400 * columns + 4 * k) (omega (arith, le)) (omega (arith, upto))
      ∙ ap (λ (p : ℕ). number_at 4 p mid) there
      ∙ before.others 4 (16 + 400 * columns + 4 * (k + 1)) (λ column lt. inr (omega (arith, lt, few))))
      column lt;
  cleared = λ column k lt. below_more (λ column. 16 + 400 * column + 4 * count ≤ k + 4
      → k < 16 + 400 * column + 4 * count → number_at 1 k new ≡ 0) columns
      (λ column lt le upto. row.others 1 k (inl (omega (arith, lt, upto, few)))
      ∙ before.cleared column k lt le upto)
      (λ le upto. row.cleared k (omega (arith, le)) (omega (arith, upto)))
      column lt;
  others = λ n at apart. row.others n at (apart columns (omega arith))
      ∙ before.others n at (λ column lt. apart column (omega (arith, lt)));
}
