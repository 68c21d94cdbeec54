-- A page of entries, one of which was written, and another count: what stays.
use Rattle.std.proofs.Common.{◌≡◌, ◌⊎◌, ℕ, zero, suc, ◌+◌, ◌<◌, ◌≤◌, List, length, sym, ◌∙◌, subst, arith}
use Rattle.std.proofs.Common.{inl, inr, ⊎_elim}
use Rattle.std.proofs.lemmas.Bool.{cases_lt}
use Rattle.block_bytes.specs.Laws.{number_at-put, number_at-put_other}
use Rattle.block_bytes.specs.Numbers.{number_at, put_number}
use Rattle.box_bytes.specs.Corners.{Keeps}
use Rattle.bucket_page.specs.Layout.{IsClearOfEntry, entry_place}
use Rattle.bucket_page.proofs.Places.{entry_place-above, entry_place-lt, entry_place-le, entry_place-more}
use Rattle.bucket_page.proofs.Writing.{head_clear}
use Rattle.id_page.specs.Layout.{IsNamed, IsTidy}

-- another count, and one entry may be another
pub record Edits (size place count : ℕ) (old new : List ℕ) : Type 0 where
  pub counted : number_at 2 2 new ≡ count
  pub others : (k : ℕ) → (k < 2) ⊎ (4 ≤ k) → IsClearOfEntry size place 1 k
      → number_at 1 k new ≡ number_at 1 k old

pub edits_counted : (size place count : ℕ) (old mid : List ℕ) → length mid ≡ 4096 → count < 65536
    → Keeps (IsClearOfEntry size place) old mid → Edits size place count old (put_number 2 2 count mid)
edits_counted size place count old mid long small keeps = record {
  counted = number_at-put 2 2 count mid (omega (arith, long)) (omega (arith, small));
  others = λ k apart clear. number_at-put_other 1 k 2 2 count mid (omega (arith, long))
      (⊎_elim (λ (h : k < 2). inl (omega (arith, h))) (λ (h : 4 ≤ k). inr h) apart) ∙ keeps 1 k clear;
}

pub edits_kept : (size place : ℕ) (old new : List ℕ) → Keeps (IsClearOfEntry size place) old new
    → Edits size place (number_at 2 2 old) old new
edits_kept size place old new keeps = record {
  counted = keeps 2 2 (head_clear size place 2 2 (omega arith));
  others = λ k apart clear. keeps 1 k clear;
}

-- a byte of the head but for the count
pub head_byte : (size place count k : ℕ) (old new : List ℕ) → Edits size place count old new
    → (k < 2) ⊎ (4 ≤ k) → k < 16 → number_at 1 k new ≡ number_at 1 k old
head_byte size place count k old new edits apart low =
    edits.others k apart (inl (omega (arith, low, entry_place-above size place)))

-- and one of another entry
pub other_clear : (size place k j : ℕ) → ¬ (k ≡ place) → entry_place size k ≤ j
    → j < entry_place size k + size → IsClearOfEntry size place 1 j
other_clear size place k j other le lt = ⊎_elim
    (λ (before : k < place). inl (omega (arith, le, lt, entry_place-lt size k place before)))
    (λ (after : place < k). inr (omega (arith, le, lt, entry_place-lt size place k after)))
    (let either : (k < place) ⊎ (place < k) = grind (arith, other) in either)

pub other_byte : (size place count k j : ℕ) (old new : List ℕ) → Edits size place count old new
    → ¬ (k ≡ place) → entry_place size k ≤ j → j < entry_place size k + size
    → number_at 1 j new ≡ number_at 1 j old
other_byte size place count k j old new edits other le lt =
    edits.others j (inr (omega (arith, le, entry_place-above size k)))
    (other_clear size place k j other le lt)

-- ---- bytes that are not named

-- such a byte is behind the head, and outside each entry
pub unnamed_behind : (head size count k : ℕ) → (IsNamed head size count k → ⊥) → head ≤ k
unnamed_behind head size count k unnamed = ⊎_elim (λ (lt : k < head). absurd (unnamed (inl lt)))
    (λ (le : head ≤ k). le) (cases_lt k head)

outside : (head size count k : ℕ) → (IsNamed head size count k → ⊥) → (k < 16) ⊎ (entry_place size count ≤ k)
outside head size count k unnamed = ⊎_elim (λ (lt : k < 16). inl lt)
    (λ (le : 16 ≤ k). ⊎_elim (λ (lt : k < entry_place size count). absurd (unnamed (inr (le, lt))))
    (λ (ge : entry_place size count ≤ k). inr ge) (cases_lt k (entry_place size count)))
    (cases_lt k 16)

pub unnamed_clear : (head size place count k : ℕ) → place < count → (IsNamed head size count k → ⊥)
    → IsClearOfEntry size place 1 k
unnamed_clear head size place count k lt unnamed = ⊎_elim
    (λ (low : k < 16). inl (omega (arith, low, entry_place-above size place)))
    (λ (high : entry_place size count ≤ k). inr (omega (arith, high, entry_place-lt size place count lt)))
    (outside head size count k unnamed)

pub named_more : (head size less more k : ℕ) → less ≤ more → IsNamed head size less k
    → IsNamed head size more k
named_more head size less more k le (inl h) = inl h
named_more head size less more k le (inr h) = let from = h.0 in let lt = h.1 in
    inr (from, omega (arith, lt, entry_place-le size less more le))

-- no fewer entries, the written one among them
pub tidy_grown : (head size place before after : ℕ) (old new : List ℕ) → 4 ≤ head
    → Edits size place after old new → number_at 2 2 old ≡ before → before ≤ after → place < after
    → IsTidy head size old → IsTidy head size new
tidy_grown head size place before after old new behind edits was le lt tidy = λ k unnamed.
    let none : IsNamed head size after k → ⊥ = λ named. unnamed
    (subst (λ (n : ℕ). IsNamed head size n k) (sym edits.counted) named) in
    edits.others k (inr (omega (arith, behind, unnamed_behind head size after k none)))
    (unnamed_clear head size place after k lt none)
    ∙ tidy k (λ named. none
    (named_more head size before after k le (subst (λ (n : ℕ). IsNamed head size n k) was named)))

-- the last entry cleared, and no longer counted
pub tidy_shrunk : (head size after : ℕ) (old new : List ℕ) → 4 ≤ head → Edits size after after old new
    → number_at 2 2 old ≡ after + 1
    → ((k : ℕ) → entry_place size after ≤ k → k < entry_place size after + size → number_at 1 k new ≡ 0)
    → IsTidy head size old → IsTidy head size new
tidy_shrunk head size after old new behind edits was cleared tidy = λ k unnamed.
    let none : IsNamed head size after k → ⊥ = λ named. unnamed
    (subst (λ (n : ℕ). IsNamed head size n k) (sym edits.counted) named) in
    let high : head ≤ k = unnamed_behind head size after k none in
    let apart : (k < 2) ⊎ (4 ≤ k) = inr (omega (arith, behind, high)) in
    let more = entry_place-more size after in
    let above = entry_place-above size after in
    let still : entry_place size (after + 1) ≤ k → IsNamed head size (number_at 2 2 old) k → ⊥ = λ ge named.
    ⊎_elim (λ (lt : k < head). none (inl lt))
    (λ (in_rows : (16 ≤ k) × (k < entry_place size (after + 1))). let lt = in_rows.1 in
    absurd (omega (arith, ge, lt)))
    (subst (λ (n : ℕ). IsNamed head size n k) was named) in
    let early : k < 16 → IsNamed head size (number_at 2 2 old) k → ⊥ = λ low named.
    ⊎_elim (λ (lt : k < head). none (inl lt))
    (λ (in_rows : (16 ≤ k) × (k < entry_place size (after + 1))). let le = in_rows.0 in
    absurd (omega (arith, le, low)))
    (subst (λ (n : ℕ). IsNamed head size n k) was named) in
    ⊎_elim
    (λ (low : k < 16). edits.others k apart (inl (omega (arith, low, above))) ∙ tidy k (early low))
    (λ (from : entry_place size after ≤ k). ⊎_elim
    (λ (lt : k < entry_place size after + size). cleared k from lt)
    (λ (ge : entry_place size after + size ≤ k). edits.others k apart (inr ge)
    ∙ tidy k (still (omega (arith, ge, more))))
    (cases_lt k (entry_place size after + size)))
    (outside head size after k none)

-- ---- the entry that a byte lies in

entry_place-none : (size : ℕ) → entry_place size 0 ≡ 16
unfolding entry_place
entry_place-none size = omega arith

pub row_of : (size n k : ℕ) → 16 ≤ k → k < entry_place size n
    → (row : ℕ) × (row < n) × (entry_place size row ≤ k) × (k < entry_place size row + size)
row_of size zero k le lt = absurd (omega (arith, le, lt, entry_place-none size))
row_of size (suc n) k le lt = ⊎_elim
    (λ (before : k < entry_place size n). let row = row_of size n k le before in let less = row.1 in
    (row.0, omega (arith, less), row.2, row.3))
    (λ (from : entry_place size n ≤ k). (
      n,
      omega arith,
      from,
      let more = entry_place-more size n in let on : suc n ≡ n + 1 = omega arith in
          let below : k < entry_place size (n + 1) = subst (λ (m : ℕ). k < entry_place size m) on lt in
          omega (arith, below, more),
    ))
    (cases_lt k (entry_place size n))
