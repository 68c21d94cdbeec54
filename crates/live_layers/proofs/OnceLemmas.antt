-- Lists that have each number of a range once.
use Rattle.std.proofs.Common.{◌≡◌, ℕ, zero, suc, ◌+◌, ◌<◌, ◌≤◌, cond, eqb, List, [], ◌∷◌, length, get_or}
use Rattle.std.proofs.Common.{arith, ⊎_elim, inl, inr, refl, sym, subst, Bool, true, false, nat_lt}
use Rattle.std.specs.Prelude.{IsPermutation, ◌⊎◌, ◌-◌, min}
use Rattle.std.proofs.Math.Nat.{min-eq_left, min-eq_right}
use Rattle.std.specs.List.Sorted.{IsNonDecreasing}
use Rattle.std.proofs.lemmas.Bool.{cases_eq}
use Rattle.std.proofs.lemmas.Bool.Decides.{nat_tests}
use Rattle.bulk_load.proofs.RowWords.{total-permutation}
use Rattle.node_page.specs.Checked.{named_pages}
use Rattle.node_page.proofs.PartLemmas.{none_or_some}
use Rattle.live_layers.specs.Checked.{IsOdd, NamesEach}

pub here_once : (a b : ℕ) → a ≡ b → ◌≡◌ {A = ℕ} (cond (eqb a b) 1 0) 1
here_once a b e = grind (arith, nat_tests)

lt_or_le : (a b : ℕ) → (a < b) ⊎ (b ≤ a)
lt_or_le a b = by_test (nat_lt a b) refl
  where
    by_test : (t : Bool) → nat_lt a b ≡ t → (a < b) ⊎ (b ≤ a)
    by_test true is = inl (grind (arith, nat_tests))
    by_test false is = inr (grind (arith, nat_tests))

pub not_here : (a b : ℕ) → ¬ (a ≡ b) → ◌≡◌ {A = ℕ} (cond (eqb a b) 1 0) 0
not_here a b differs = grind (arith, nat_tests)

-- the numbers rise by one from the first
abbrev pub Counts : ℕ → List ℕ → Type 0
Counts from list = (k : ℕ) → k < length list → get_or list k 0 ≡ k + from

-- each number from one up to another is in the list once, and no other
record HasEach (from next : ℕ) (list : List ℕ) : Type 0 where
  once : (n : ℕ) → from ≤ n → n < next → named_pages list n ≡ 1
  given : (n : ℕ) → 0 < named_pages list n → (from ≤ n) × (n < next)

-- ---- numbers that rise by one are so

counts_each : (from next : ℕ) (list : List ℕ) → Counts from list → length list + from ≡ next
    → HasEach from next list
counts_each from next [] counts many =
    record {
      once = λ n low below. absurd (omega (arith, low, below, many));
      given = λ n p. absurd (omega (arith, p));
    }
counts_each from next (x ∷ xs) counts many =
    let first : x ≡ from = omega (arith, counts 0 (omega arith)) in
    let rest =
    counts_each (from + 1) next xs (λ k lt. omega (arith, counts (suc k) (omega (arith, lt))))
    (omega (arith, many)) in
    record {
      once = λ n low below. ⊎_elim
          (λ (is : x ≡ n).
          ⊎_elim
          (λ (none : named_pages xs n ≡ 0). omega (arith, here_once x n is, none))
          (λ (some : 0 < named_pages xs n). absurd (omega (arith, (rest.given n some).0, is, first)))
          (none_or_some (named_pages xs n)))
          (λ (other : ¬ (x ≡ n)). omega
          (arith, not_here x n other, rest.once n (omega (arith, low, other, first)) below))
          (cases_eq x n);
      given = λ n p. ⊎_elim
          (λ (is : x ≡ n). (omega (arith, is, first), omega (arith, is, first, many)))
          (λ (other : ¬ (x ≡ n)).
          let later = rest.given n (omega (arith, p, not_here x n other)) in
          (omega (arith, later.0), later.1))
          (cases_eq x n);
    }

-- ---- and in order no others are

-- what is below all of them is not in the list
below_all : (n : ℕ) (list : List ℕ) → ((k : ℕ) → k < length list → n < get_or list k 0)
    → named_pages list n ≡ 0
below_all n [] below = omega arith
below_all n (x ∷ xs) below =
    let here = below 0 (omega arith) in
    omega (
      arith,
      not_here x n (λ (is : x ≡ n). omega (arith, is, here)),
      below_all n xs (λ k lt. below (suc k) (omega (arith, lt))),
    )

each_counts : (from next : ℕ) (list : List ℕ) → IsNonDecreasing list → from ≤ next → HasEach from next list
    → Counts from list × (length list + from ≡ next)
each_counts from next [] order le each = (
  λ k lt. absurd (omega (arith, lt)),
  ⊎_elim
      (λ (none : next ≡ from). omega (arith, none))
      (λ (other : ¬ (next ≡ from)). let one : named_pages [] from ≡ 1 =
      each.once from (omega arith) (omega (arith, le, other)) in absurd (omega (arith, one)))
      (cases_eq next from),
)
each_counts from next (x ∷ xs) order le each =
    let here = each.given x (omega (arith, here_once x x (λ i. x))) in
    let first : x ≡ from = ⊎_elim
    (λ (is : x ≡ from). is)
    (λ (other : ¬ (x ≡ from)).
    let none = below_all from (x ∷ xs) (λ k lt. omega (arith, order 0 k 0 (omega arith) lt, here.0, other)) in
    absurd (omega (arith, none, each.once from (omega arith) (omega (arith, here)))))
    (cases_eq x from) in
    let later : HasEach (from + 1) next xs = record {
      once = λ n low below. omega (
        arith,
        each.once n (omega (arith, low)) below,
        not_here x n (λ (is : x ≡ n). omega (arith, is, first, low)),
      );
      given = λ n p.
          let whole = each.given n (omega (arith, p)) in
          let other : ¬ (x ≡ n) =
          λ (is : x ≡ n). omega (arith, each.once n whole.0 whole.1, here_once x n is, p) in
          (omega (arith, whole.0, other, first), whole.1);
    } in
    let rest =
    each_counts (from + 1) next xs
    (λ i j d le' lt. order (suc i) (suc j) d (omega (arith, le')) (omega (arith, lt)))
    (omega (arith, here, first)) later in (
      counted first rest.0,
      omega (arith, rest.1),
    )
  where
    counted : x ≡ from → Counts (from + 1) xs → Counts from (x ∷ xs)
    counted first rest zero lt = omega (arith, first)
    counted first rest (suc k) lt = omega (arith, rest k (omega (arith, lt)))

-- ---- how often a number is in a list

named_none : (n : ℕ) (list : List ℕ) → ((k : ℕ) → k < length list → ¬ (get_or list k 0 ≡ n))
    → named_pages list n ≡ 0
named_none n [] none = omega arith
named_none n (x ∷ xs) none =
    omega (
      arith,
      not_here x n (none 0 (omega arith)),
      named_none n xs (λ k lt. none (suc k) (omega (arith, lt))),
    )

named_some : (n : ℕ) (list : List ℕ) (k : ℕ) → k < length list → get_or list k 0 ≡ n
    → 1 ≤ named_pages list n
named_some n [] k lt is = absurd (omega (arith, lt))
named_some n (x ∷ xs) zero lt is = omega (arith, here_once x n is)
named_some n (x ∷ xs) (suc k) lt is = let rest = named_some n xs k (omega (arith, lt)) is in
    omega (arith, rest)

named_twice : (n : ℕ) (list : List ℕ) (i j : ℕ) → i < j → j < length list → get_or list i 0 ≡ n
    → get_or list j 0 ≡ n → 2 ≤ named_pages list n
named_twice n [] i j less lt is also = absurd (omega (arith, lt))
named_twice n (x ∷ xs) i zero less lt is also = absurd (omega (arith, less))
named_twice n (x ∷ xs) zero (suc j) less lt is also =
    let rest = named_some n xs j (omega (arith, lt)) also in omega (arith, here_once x n is, rest)
named_twice n (x ∷ xs) (suc i) (suc j) less lt is also =
    let rest = named_twice n xs i j (omega (arith, less)) (omega (arith, lt)) is also in omega (arith, rest)

-- ---- the same of a list and of the list in order

module _ (next : ℕ) (list sorted : List ℕ) (moved : IsPermutation list sorted) where
  same_times : (n : ℕ) → named_pages sorted n ≡ named_pages list n
  same_times n = total-permutation (λ (page : ℕ). cond (eqb page n) 1 0) list sorted moved

  pub counts_names_each : Counts 2 sorted → length sorted + 2 ≡ next → NamesEach next list
  counts_names_each counts many =
      let each = counts_each 2 next sorted counts many in
      record {
        once = λ n low below. omega (arith, same_times n, each.once n low below);
        given = λ n p. each.given n (omega (arith, same_times n, p));
      }

  pub names_each_counts : IsNonDecreasing sorted → 2 ≤ next → NamesEach next list
      → Counts 2 sorted × (length sorted + 2 ≡ next)
  names_each_counts order le each =
      each_counts 2 next sorted order le
      (record {
        once = λ n low below. omega (arith, same_times n, each.once n low below);
        given = λ n p. each.given n (omega (arith, same_times n, p));
      })

  -- the first number that does not rise by one, or the one that is left out
  pub odd_at : IsNonDecreasing sorted → (place : ℕ) → place < length sorted
      → ((k : ℕ) → k < place → get_or sorted k 0 ≡ k + 2) → ¬ (get_or sorted place 0 ≡ place + 2)
      → IsOdd next list (min (get_or sorted place 0) (place + 2))
  odd_at order place lt rise other = ⊎_elim
      (λ (low : get_or sorted place 0 < place + 2). by_low low)
      (λ (high : place + 2 ≤ get_or sorted place 0). subst (IsOdd next list)
      (sym (min-eq_right high)) (inr (inr (λ once.
      omega (
        arith,
        same_times (place + 2),
        once,
        named_none (place + 2) sorted (λ k within is.
            ⊎_elim (λ (before : k < place). omega (arith, before, rise k before, is))
            (λ (after : place ≤ k). omega (
              arith,
              after,
              is,
              high,
              other,
              order place k 0 after within,
            )) (lt_or_le k place)),
      )))))
      (lt_or_le (get_or sorted place 0) (place + 2))
    where
      twice : get_or sorted place 0 < place + 2 → 2 ≤ get_or sorted place 0
          → ¬ (named_pages list (get_or sorted place 0) ≡ 1)
      twice low some once = let k = get_or sorted place 0 - 2 in
          omega (
            arith,
            same_times (get_or sorted place 0),
            once,
            named_twice (get_or sorted place 0) sorted k place (omega (arith, low, some)) lt
                (omega (arith, rise k (omega (arith, low, some)), some)) refl,
          )

      by_low : get_or sorted place 0 < place + 2
          → IsOdd next list (min (get_or sorted place 0) (place + 2))
      by_low low = subst (IsOdd next list) (sym (min-eq_left (omega (arith, low)))) (⊎_elim
          (λ (none : get_or sorted place 0 < 2). inl none)
          (λ (some : 2 ≤ get_or sorted place 0). inr (inr (twice low some)))
          (lt_or_le (get_or sorted place 0) 2))

  -- all rise by one, and are too few or too many
  pub odd_end : Counts 2 sorted → IsOdd next list (min (length sorted + 2) next)
  odd_end counts = ⊎_elim
      (λ (few : length sorted + 2 < next). subst (IsOdd next list) (sym (min-eq_left (omega (arith, few))))
      (inr (inr (λ once. omega (
        arith,
        same_times (length sorted + 2),
        once,
        named_none (length sorted + 2) sorted (λ k lt is. omega (arith, lt, is, counts k lt)),
      )))))
      (λ (many : next ≤ length sorted + 2). subst (IsOdd next list) (sym (min-eq_right many))
      (inr (inl (omega arith))))
      (lt_or_le (length sorted + 2) next)
