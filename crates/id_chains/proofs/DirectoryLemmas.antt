-- Writes into a directory.
use Rattle.std.proofs.Common.{◌≡◌, ◌∙◌, ◌⊎◌, ℕ, ◌+◌, ◌-◌, ◌*◌, ◌/◌, ◌^◌, ◌<◌, ◌≤◌, List, length, inl, inr}
use Rattle.std.proofs.Common.{⊎_elim, arith, sym}
use Rattle.std.proofs.lemmas.Bool.{cases_lt}
use Rattle.block_bytes.specs.Numbers.{AreBytes, IsApart, number_at, put_number, zeros}
use Rattle.block_bytes.specs.Laws.{length-put, length-zeros, number_at-put, number_at-put_other}
use Rattle.block_bytes.specs.Laws.{number_at-fixes, number_at-zeros}
use Rattle.id_chains.specs.Pages.{NewDirectory, SetsLink}
use Rattle.id_chains.specs.Table.{IsDirectory, link_at, link_place}
use Rattle.id_chains.specs.Tidy.{DirectoriesHaveOnePage, IsNamed, IsTidyDirectory}

places_apart : (other class : ℕ) → ¬ (other ≡ class) → IsApart 4 (link_place other) 4 (link_place class)
places_apart other class differ = ⊎_elim
    (λ (below : other < class). inl (omega (arith, below)))
    (λ (above : class ≤ other). inr (omega (arith, above, differ)))
    (cases_lt other class)

-- a byte that a directory does not name is behind its kind and its dimension, and apart from each link
unnamed_behind : (k : ℕ) → (IsNamed k → ⊥) → 2 ≤ k
unnamed_behind k unnamed =
    ⊎_elim (λ (low : k < 2). absurd (unnamed (inl low))) (λ (le : 2 ≤ k). le) (cases_lt k 2)

unnamed_apart : (class k : ℕ) → class < 1000 → (IsNamed k → ⊥) → IsApart 1 k 4 (link_place class)
unnamed_apart class k within unnamed = ⊎_elim
    (λ (before : k < link_place class). inl (omega (arith, before)))
    (λ (le : link_place class ≤ k). ⊎_elim
    (λ (lt : k < link_place class + 4). absurd
    (unnamed (inr (omega (arith, le), omega (arith, lt, within)))))
    (λ (behind : link_place class + 4 ≤ k). inr behind)
    (cases_lt k (link_place class + 4)))
    (cases_lt k (link_place class))

pub link_is_set : (class first : ℕ) (page : List ℕ) → length page ≡ 4096 → class < 1000 → first < 2 ^ 32
    → SetsLink class first page (put_number 4 (16 + 4 * class) first page)
link_is_set class first page size within fits = record {
  link = number_at-put 4 (link_place class) first page (omega (arith, size, within)) (omega (arith, fits));
  others =
      λ other differ. number_at-put_other 4 (link_place other) 4 (link_place class) first page
      (omega (arith, size, within)) (places_apart other class differ);
  kind = number_at-put_other 1 0 4 (link_place class) first page (omega (arith, size, within))
      (inl (omega arith));
  dims_is =
      number_at-put_other 1 1 4 (link_place class) first page (omega (arith, size, within))
      (inl (omega arith));
  tidy =
      λ tidy k unnamed. number_at-put_other 1 k 4 (link_place class) first page
      (omega (arith, size, within)) (unnamed_apart class k within unnamed) ∙ tidy k unnamed;
}

pub directory_is_new : (dims : ℕ) → dims < 256
    → NewDirectory dims (put_number 1 1 dims (put_number 1 0 3 zeros))
directory_is_new dims small =
    let first = length-put 1 0 3 zeros (omega (arith, length-zeros)) ∙ length-zeros in
    let behind : (n at : ℕ) → 2 ≤ at → number_at n at (put_number 1 1 dims (put_number 1 0 3 zeros)) ≡ 0
    = λ n at h. number_at-put_other n at 1 1 dims (put_number 1 0 3 zeros) (omega (arith, first))
    (inr (omega (arith, h)))
    ∙ number_at-put_other n at 1 0 3 zeros (omega (arith, length-zeros)) (inr (omega (arith, h)))
    ∙ number_at-zeros n at in
    record {
      spelled = record {
        kind = number_at-put_other 1 0 1 1 dims (put_number 1 0 3 zeros) (omega (arith, first))
            (inl (omega arith)) ∙ number_at-put 1 0 3 zeros (omega (arith, length-zeros)) (omega arith);
        dims_is =
            number_at-put 1 1 dims (put_number 1 0 3 zeros) (omega (arith, first)) (omega (arith, small));
      };
      empty = λ class. behind 4 (link_place class) (omega arith);
      tidy = λ k unnamed. behind 1 k (unnamed_behind k unnamed);
    }

-- ---- a directory fixes its page

head_bytes : (dims : ℕ) (a b : List ℕ) → AreBytes a → AreBytes b → IsDirectory dims a → IsDirectory dims b
    → (k : ℕ) → k < 2 → number_at 1 k a ≡ number_at 1 k b
head_bytes dims a b ba bb da db k lt = ⊎_elim
    (λ (first : k < 1). number_at-fixes 1 0 a b ba bb (da.kind ∙ sym db.kind) k (omega arith) first)
    (λ (second : 1 ≤ k). number_at-fixes 1 1 a b ba bb (da.dims_is ∙ sym db.dims_is) k second lt)
    (cases_lt k 1)

link_bytes : (a b : List ℕ) → AreBytes a → AreBytes b
    → ((class : ℕ) → class < 1000 → link_at class a ≡ link_at class b) → (k : ℕ) → 16 ≤ k
    → k < link_place 1000 → number_at 1 k a ≡ number_at 1 k b
link_bytes a b ba bb same k le lt =
    let class : ℕ = (k - 16) / 4 in
    number_at-fixes 4 (link_place class) a b ba bb (same class (omega (arith, lt))) k (omega (arith, le))
    (omega (arith, le))

no_name : (k : ℕ) → 2 ≤ k → (k < 16) ⊎ (link_place 1000 ≤ k) → IsNamed k → ⊥
no_name k behind (inl between) (inl low) = omega (arith, behind, low)
no_name k behind (inl between) (inr named) = omega (arith, between, named.0)
no_name k behind (inr above) (inl low) = omega (arith, behind, low)
no_name k behind (inr above) (inr named) = omega (arith, above, named.1)

other_bytes : (a b : List ℕ) → IsTidyDirectory a → IsTidyDirectory b → (k : ℕ) → 2 ≤ k
    → (k < 16) ⊎ (link_place 1000 ≤ k) → number_at 1 k a ≡ number_at 1 k b
other_bytes a b ta tb k behind off = ta k (no_name k behind off) ∙ sym (tb k (no_name k behind off))

pub one_page : DirectoriesHaveOnePage
one_page dims a b ba bb da db ta tb same k = ⊎_elim
    (λ (low : k < 2). head_bytes dims a b ba bb da db k low)
    (λ (behind : 2 ≤ k). ⊎_elim
    (λ (between : k < 16). other_bytes a b ta tb k behind (inl between))
    (λ (le : 16 ≤ k). ⊎_elim
    (λ (lt : k < link_place 1000). link_bytes a b ba bb same k le lt)
    (λ (above : link_place 1000 ≤ k). other_bytes a b ta tb k behind (inr above))
    (cases_lt k (link_place 1000)))
    (cases_lt k 16))
    (cases_lt k 2)
