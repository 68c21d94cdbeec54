-- A list of layers has one page: what a page spells fixes each byte that it names, and the others are zero.
use Rattle.std.proofs.Common.{◌≡◌, ℕ, ◌+◌, ◌-◌, ◌<◌, ◌≤◌, List, length, get_or, sym, ◌∙◌, ap, subst, arith}
use Rattle.std.proofs.Common.{inl, inr, ⊎_elim}
use Rattle.std.proofs.lemmas.Bool.{cases_lt}
use Rattle.block_bytes.specs.FormLaws.{has_one_page}
use Rattle.block_bytes.specs.PlaceLaws.{get_or-first_places, length-first_places}
use Rattle.block_bytes.specs.Numbers.{number_at, AreBytes}
use Rattle.block_bytes.specs.Laws.{number_at-fixes}
use Rattle.catalog_page.specs.Layout.{Record, Spells, IsNamed, records_at, IsOfRecord, bytes_at, record_place}
use Rattle.catalog_page.specs.Layout.{record_at, record_from}
use Rattle.catalog_page.specs.PageLaws.{CatalogsHaveOnePage}
use Rattle.catalog_page.proofs.Places.{name-record_from, length-name}
use Rattle.catalog_page.proofs.Reading.{spells}

-- ---- a record fixes its bytes

name_bytes : (at : ℕ) (a b : List ℕ) → record_from at a ≡ record_from at b → (k : ℕ) → k < number_at 1 at a
    → number_at 1 (at + 1 + k) a ≡ number_at 1 (at + 1 + k) b
name_bytes at a b e k lt =
    let size : number_at 1 at a ≡ number_at 1 at b = sym (length-name at a)
    ∙ ap (λ (r : Record). length r.name) e ∙ length-name at b in
    let names : bytes_at (number_at 1 at a) (at + 1) a ≡ bytes_at (number_at 1 at b) (at + 1) b =
    sym (name-record_from at a) ∙ ap (λ (r : Record). r.name) e ∙ name-record_from at b in
    sym (get_or-first_places (λ j. number_at 1 (at + 1 + j) a) (number_at 1 at a) k 0 lt)
    ∙ ap (λ (xs : List ℕ). get_or xs k 0) names
    ∙ get_or-first_places (λ j. number_at 1 (at + 1 + j) b) (number_at 1 at b) k 0 (omega arith)

number_bytes : (at : ℕ) (a b : List ℕ) → AreBytes a → AreBytes b → record_from at a ≡ record_from at b
    → (k : ℕ) → at + 25 ≤ k → k < at + 44 → number_at 1 k a ≡ number_at 1 k b
unfolding record_from
number_bytes at a b ba bb e k le lt =
    ⊎_elim (λ (h : k < at + 26). number_at-fixes 1 (at + 25) a b ba bb (ap (λ (r : Record). r.dims) e) k le
    (omega arith))
    (λ (g : at + 26 ≤ k). ⊎_elim
    (λ (h : k < at + 27). number_at-fixes 1 (at + 26) a b ba bb (ap (λ (r : Record). r.fanout) e) k g
    (omega arith))
    (λ (g : at + 27 ≤ k). ⊎_elim
    (λ (h : k < at + 28). number_at-fixes 1 (at + 27) a b ba bb (ap (λ (r : Record). r.level) e) k g
    (omega arith))
    (λ (g : at + 28 ≤ k). ⊎_elim
    (λ (h : k < at + 32). number_at-fixes 4 (at + 28) a b ba bb (ap (λ (r : Record). r.root) e) k g
    (omega arith))
    (λ (g : at + 32 ≤ k). ⊎_elim
    (λ (h : k < at + 36). number_at-fixes 4 (at + 32) a b ba bb (ap (λ (r : Record). r.ids_root) e) k g
    (omega arith))
    (λ (g : at + 36 ≤ k). number_at-fixes 8 (at + 36) a b ba bb (ap (λ (r : Record). r.count) e) k g
    (omega arith))
    (cases_lt k (at + 36))) (cases_lt k (at + 32))) (cases_lt k (at + 28))) (cases_lt k (at + 27)))
    (cases_lt k (at + 26))

record_bytes : (at : ℕ) (a b : List ℕ) → AreBytes a → AreBytes b → record_from at a ≡ record_from at b
    → (k : ℕ) → IsOfRecord (number_at 1 at a) at k → number_at 1 k a ≡ number_at 1 k b
record_bytes at a b ba bb e k (inr h) = number_bytes at a b ba bb e k h.0 h.1
record_bytes at a b ba bb e k (inl h) =
    let le = h.0 in
    let lt = h.1 in
    let size : number_at 1 at a ≡ number_at 1 at b = sym (length-name at a)
    ∙ ap (λ (r : Record). length r.name) e ∙ length-name at b in
    ⊎_elim (λ (first : k < at + 1). number_at-fixes 1 at a b ba bb size k le first)
    (λ (further : at + 1 ≤ k).
    let there : at + 1 + (k - (at + 1)) ≡ k = omega arith in
    ap (λ (j : ℕ). number_at 1 j a) (sym there) ∙ name_bytes at a b e (k - (at + 1)) (omega arith)
    ∙ ap (λ (j : ℕ). number_at 1 j b) there)
    (cases_lt k (at + 1))

-- ---- a list of layers fixes its page

module _ (a b : List ℕ) (layers : List Record) (sa : Spells a layers) (sb : Spells b layers) where
  same_count : number_at 1 1 a ≡ number_at 1 1 b
  same_count = sym (length-first_places (record_at a) (number_at 1 1 a))
      ∙ ap length (sym sa.records ∙ sb.records) ∙ length-first_places (record_at b) (number_at 1 1 b)

  same_records : (place : ℕ) → place < number_at 1 1 a → record_at a place ≡ record_at b place
  same_records place lt =
      let none = record_at a place in
      sym (get_or-first_places (record_at a) (number_at 1 1 a) place none lt)
      ∙ ap (λ (xs : List Record). get_or xs place none) (sym sa.records ∙ sb.records)
      ∙ get_or-first_places (record_at b) (number_at 1 1 b) place none (omega (arith, same_count))

  same_size : (place : ℕ) → place < number_at 1 1 a
      → number_at 1 (record_place place) a ≡ number_at 1 (record_place place) b
  same_size place lt = sym (length-name (record_place place) a)
      ∙ ap (λ (r : Record). length r.name) (same_records place lt) ∙ length-name (record_place place) b

  named_same : AreBytes a → AreBytes b → (k : ℕ) → IsNamed a k → number_at 1 k a ≡ number_at 1 k b
  named_same ba bb k (inl h) =
      ⊎_elim (λ (l : k < 1). number_at-fixes 1 0 a b ba bb (sa.kind ∙ sym sb.kind) k (omega arith) l)
      (λ (l : 1 ≤ k). number_at-fixes 1 1 a b ba bb same_count k l h) (cases_lt k 1)
  named_same ba bb k (inr (place, lt, of)) =
      record_bytes (record_place place) a b ba bb (same_records place lt) k of

  named_in_both : (k : ℕ) → IsNamed b k → IsNamed a k
  named_in_both k (inl h) = inl h
  named_in_both k (inr (place, lt, of)) =
      let below : place < number_at 1 1 a = omega (arith, same_count) in
      inr (
        place,
        below,
        subst (λ (n : ℕ). IsOfRecord n (record_place place) k) (sym (same_size place below)) of,
      )

pub one_page : CatalogsHaveOnePage
one_page = has_one_page records_at IsNamed
    (λ a b layers ba bb ia ib. named_same a b layers (spells a layers ia) (spells b layers ib) ba bb)
    (λ a b layers ia ib. named_in_both a b layers (spells a layers ia) (spells b layers ib))
