-- The records of a catalog, written one after the other.
use Rattle.std.proofs.Common.{◌≡◌, ◌⊎◌, ℕ, ◌+◌, ◌<◌, ◌≤◌, List, length, get_or, sym, ◌∙◌, ap, subst, arith}
use Rattle.std.proofs.Common.{below_more, inl, inr, ⊎_elim}
use Rattle.block_bytes.specs.PlaceLaws.{first_places-are}
use Rattle.block_bytes.specs.Numbers.{number_at, zeros, put_number}
use Rattle.block_bytes.specs.Laws.{number_at-put, number_at-put_other, number_at-zeros, length-put}
use Rattle.block_bytes.specs.Laws.{length-zeros}
use Rattle.catalog_page.specs.Layout.{Record, HasName, record_place, record_at, Spells, IsOfRecord, IsNamed}
use Rattle.catalog_page.specs.Layout.{ChangesOnly, ChangesRecord}
use Rattle.catalog_page.proofs.Places.{length-name, record_stays}

-- ---- the bytes of a name

-- a page in which the length of a name and its first bytes are written, and nothing else
pub record NameWritten (k at : ℕ) (name old page : List ℕ) : Type 0 where
  pub long : length page ≡ 4096
  pub size : number_at 1 at page ≡ length name
  pub bytes : (j : ℕ) → j < k → get_or name j 0 ≡ number_at 1 (at + 1 + j) page
  pub others : ChangesOnly (1 + k) at old page

pub name_first : (at : ℕ) (name old : List ℕ) → length old ≡ 4096 → at + 25 ≤ 4096 → length name ≤ 24
    → NameWritten 0 at name old (put_number 1 at (length name) old)
name_first at name old long within short = record {
  long = length-put 1 at (length name) old (omega arith) ∙ long;
  size = number_at-put 1 at (length name) old (omega arith) (omega arith);
  bytes = λ j lt. absurd (omega arith);
  others = λ k clear. number_at-put_other 1 k 1 at (length name) old (omega arith) clear;
}

pub name_more : (k at x : ℕ) (name old page : List ℕ) → NameWritten k at name old page → at + 25 ≤ 4096
    → k < 24 → x < 256 → get_or name k 0 ≡ x
    → NameWritten (k + 1) at name old (put_number 1 (at + 1 + k) x page)
name_more k at x name old page w within lt small is =
    let long = w.long in
    let room : at + 1 + k + 1 ≤ length page = omega arith in record {
      long = length-put 1 (at + 1 + k) x page room ∙ long;
      size = number_at-put_other 1 at 1 (at + 1 + k) x page room (inl (omega arith)) ∙ w.size;
      bytes = below_more (λ j. get_or name j 0 ≡ number_at 1 (at + 1 + j) (put_number 1 (at + 1 + k) x page)) k
          (λ j before. w.bytes j before
          ∙ sym (number_at-put_other 1 (at + 1 + j) 1 (at + 1 + k) x page room (inl (omega arith))))
          (is ∙ sym (number_at-put 1 (at + 1 + k) x page room (omega arith)));
      others = λ j clear.
          number_at-put_other 1 j 1 (at + 1 + k) x page room
          (⊎_elim (λ (h : j + 1 ≤ at). inl (omega arith))
          (λ (h : at + (1 + (k + 1)) ≤ j). inr (omega arith)) clear)
          ∙ w.others j
          (⊎_elim (λ (h : j + 1 ≤ at). inl h) (λ (h : at + (1 + (k + 1)) ≤ j). inr (omega arith)) clear);
    }

-- ---- the records

-- a byte of the kind, the count or one of the first records
abbrev pub IsNamedBelow : ℕ → List ℕ → ℕ → Type 0
IsNamedBelow count page k = (k < 2)
    ⊎ ((place : ℕ) × (place < count)
    × IsOfRecord (number_at 1 (record_place place) page) (record_place place) k)

-- a page in which the head and the first records are written, and nothing else
pub record Written (layers : List Record) (place : ℕ) (page : List ℕ) : Type 0 where
  pub long : length page ≡ 4096
  pub kind : number_at 1 0 page ≡ 1
  pub count_is : number_at 1 1 page ≡ length layers
  pub each : (k : ℕ) → k < place → (other : Record) → get_or layers k other ≡ record_at page k
  pub named : (k : ℕ) → k < place → HasName (record_at page k)
  pub rest : (k : ℕ) → (IsNamedBelow place page k → ⊥) → number_at 1 k page ≡ 0

pub written_first : (layers : List Record) → length layers ≤ 60
    → Written layers 0 (put_number 1 1 (length layers) (put_number 1 0 1 zeros))
written_first layers few =
    let kind_page = put_number 1 0 1 zeros in
    let kind_long : length kind_page ≡ 4096 = length-put 1 0 1 zeros (omega (arith, length-zeros))
    ∙ length-zeros in
    let room : 1 + 1 ≤ length kind_page = omega arith in
    record {
      long = length-put 1 1 (length layers) kind_page room ∙ kind_long;
      kind = number_at-put_other 1 0 1 1 (length layers) kind_page room (inl (omega arith))
          ∙ number_at-put 1 0 1 zeros (omega (arith, length-zeros)) (omega arith);
      count_is = number_at-put 1 1 (length layers) kind_page room (omega arith);
      each = λ k lt other. absurd (omega arith);
      named = λ k lt. absurd (omega arith);
      rest = λ k unnamed.
          let behind : 2 ≤ k = grind (arith, unnamed) in
          number_at-put_other 1 k 1 1 (length layers) kind_page room (inr (omega arith))
          ∙ number_at-put_other 1 k 1 0 1 zeros (omega (arith, length-zeros)) (inr (omega arith))
          ∙ number_at-zeros 1 k;
    }

-- no byte before the records is one of them
head_other : (length place k : ℕ) → k < 256 → IsOfRecord length (record_place place) k → ⊥
head_other length place k lt (inl h) = let le = h.0 in omega arith
head_other length place k lt (inr h) = let le = h.0 in omega arith

pub written_more : (layers : List Record) (place : ℕ) (old new : List ℕ) (layer : Record)
    → Written layers place old → length new ≡ 4096
    → record_at new place ≡ layer → HasName layer → ((other : Record) → get_or layers place other ≡ layer)
    → ChangesRecord (length layer.name) (record_place place) old new
    → Written layers (place + 1) new
written_more layers place old new layer w long is has item changes =
    let size : (k : ℕ) → k < place
    → number_at 1 (record_place k) old ≤ 24 = λ k lt. let short = (w.named k lt).short in
    omega (arith, length-name (record_place k) old) in
    let stays : (k : ℕ) → k < place → record_at new k ≡ record_at old k =
    λ k lt. record_stays (length layer.name) (record_place place) (record_place k) old new (omega arith)
    (size k lt) changes in
    let length_stays : (k : ℕ) → k < place
    → number_at 1 (record_place k) new ≡ number_at 1 (record_place k) old =
    λ k lt. sym (length-name (record_place k) new) ∙ ap (λ (r : Record). length r.name) (stays k lt)
    ∙ length-name (record_place k) old in
    let length_is : number_at 1 (record_place place) new ≡ length layer.name =
    sym (length-name (record_place place) new) ∙ ap (λ (r : Record). length r.name) is in
    record {
      long = long;
      kind = changes 0 (head_other (length layer.name) place 0 (omega arith)) ∙ w.kind;
      count_is = changes 1 (head_other (length layer.name) place 1 (omega arith)) ∙ w.count_is;
      each = below_more (λ k. (other : Record) → get_or layers k other ≡ record_at new k) place
          (λ k lt other. w.each k lt other ∙ sym (stays k lt)) (λ other. item other ∙ sym is);
      named = below_more (λ k. HasName (record_at new k)) place
          (λ k lt. subst HasName (sym (stays k lt)) (w.named k lt)) (subst HasName (sym is) has);
      rest = λ k unnamed.
          changes k
          (λ of. unnamed
          (inr (place, omega arith, subst (λ n. IsOfRecord n (record_place place) k) (sym length_is) of)))
          ∙ w.rest k (λ named. ⊎_elim (λ (h : k < 2). unnamed (inl h))
          (λ (h : (i : ℕ) × (i < place) × IsOfRecord (number_at 1 (record_place i) old) (record_place i) k).
          unnamed (inr (
            h.0,
            omega (arith, h.1),
            subst (λ n. IsOfRecord n (record_place h.0) k) (sym (length_stays h.0 h.1)) h.2,
          ))) named);
    }

pub written_spells : (layers : List Record) (place : ℕ) (page : List ℕ) → Written layers place page
    → length layers ≤ place → length layers ≤ 60 → Spells page layers
written_spells layers place page w all few =
    let count : number_at 1 1 page ≡ length layers = w.count_is in
    record {
      kind = w.kind;
      few = omega arith;
      named = λ k other lt. subst HasName (sym (w.each k (omega arith) other)) (w.named k (omega arith));
      records =
          first_places-are (record_at page) (number_at 1 1 page) layers (record_at page 0) (sym count)
          (λ k lt. w.each k (omega arith) (record_at page 0));
    }

pub written_rest : (layers : List Record) (place : ℕ) (page : List ℕ) → Written layers place page
    → place ≤ length layers → (k : ℕ) → (IsNamed page k → ⊥) → number_at 1 k page ≡ 0
written_rest layers place page w few = λ k unnamed.
    let count = w.count_is in
    w.rest k (λ named. ⊎_elim (λ (h : k < 2). unnamed (inl h))
    (λ (h : (i : ℕ) × (i < place) × IsOfRecord (number_at 1 (record_place i) page) (record_place i) k).
    unnamed (inr (h.0, omega (arith, h.1), h.2))) named)
