-- Names and records: read from their own bytes alone.
use Rattle.std.proofs.Common.{◌≡◌, ◌⊎◌, ℕ, ◌+◌, ◌<◌, ◌≤◌, ◌↔◌, List, length, get_or, slice_index, refl, sym}
use Rattle.std.proofs.Common.{◌∙◌, ap, arith, inl, inr, ⊎_elim}
use Rattle.block_bytes.specs.PlaceLaws.{first_places-same, get_or-first_places, length-first_places}
use Rattle.block_bytes.specs.Numbers.{number_at, IsApart}
use Rattle.block_bytes.specs.Laws.{number_at-same, number_at-lt}
use Rattle.catalog_page.specs.Layout.{Record, HasName, IsRecord, HasNumbers, bytes_at, record_place}
use Rattle.catalog_page.specs.Layout.{record_at, record_from, IsOfRecord, ChangesOnly, ChangesRecord}

pub le_or_lt : (a b : ℕ) → (a ≤ b) ⊎ (b < a)
le_or_lt a b = grind arith

-- ---- bytes

pub bytes_at-same : (n at : ℕ) (a b : List ℕ)
    → ((k : ℕ) → k < n → number_at 1 (at + k) a ≡ number_at 1 (at + k) b) → bytes_at n at a ≡ bytes_at n at b
bytes_at-same n at a b same =
    first_places-same (λ k. number_at 1 (at + k) a) (λ k. number_at 1 (at + k) b) n 0 same

-- ---- records

same_record : (name name' : List ℕ)
    (dims dims' fanout fanout' level level' root root' ids_root ids_root' count count' : ℕ)
    → name ≡ name' → dims ≡ dims' → fanout ≡ fanout' → level ≡ level' → root ≡ root' → ids_root ≡ ids_root'
    → count ≡ count'
    → ◌≡◌ {A = Record}
    (record {
      name = name;
      dims = dims;
      fanout = fanout;
      level = level;
      root = root;
      ids_root = ids_root;
      count = count;
    })
    (record {
      name = name';
      dims = dims';
      fanout = fanout';
      level = level';
      root = root';
      ids_root = ids_root';
      count = count';
    })
same_record name name' dims dims' fanout fanout' level level' root root' ids_root ids_root' count count' n
    d f l r t c = cc

-- a record is that of its name and its numbers
pub record_is : (at : ℕ) (page : List ℕ) (layer : Record)
    → bytes_at (number_at 1 at page) (at + 1) page ≡ layer.name → HasNumbers at layer page
    → record_from at page ≡ layer
unfolding record_from
record_is at page layer name numbers =
    same_record (bytes_at (number_at 1 at page) (at + 1) page) layer.name (number_at 1 (at + 25) page)
    layer.dims (number_at 1 (at + 26) page) layer.fanout (number_at 1 (at + 27) page) layer.level
    (number_at 4 (at + 28) page) layer.root (number_at 4 (at + 32) page) layer.ids_root
    (number_at 8 (at + 36) page) layer.count
    name numbers.dims_is numbers.fanout_is numbers.level_is numbers.root_is numbers.ids_root_is
    numbers.count_is

pub name-record_from : (at : ℕ) (page : List ℕ)
    → (record_from at page).name ≡ bytes_at (number_at 1 at page) (at + 1) page
unfolding record_from
name-record_from at page = refl

pub length-name : (at : ℕ) (page : List ℕ) → length (record_from at page).name ≡ number_at 1 at page
length-name at page = ap length (name-record_from at page)
    ∙ length-first_places (λ k. number_at 1 (at + 1 + k) page) (number_at 1 at page)

has_numbers : (at : ℕ) (page : List ℕ) → HasNumbers at (record_from at page) page
unfolding record_from
has_numbers at page =
    record {
      dims_is = refl;
      fanout_is = refl;
      level_is = refl;
      root_is = refl;
      ids_root_is = refl;
      count_is = refl;
    }

-- a record is read from its own bytes alone
pub record_same : (at : ℕ) (a b : List ℕ)
    → ((k : ℕ) → IsOfRecord (number_at 1 at a) at k → number_at 1 k a ≡ number_at 1 k b)
    → record_from at a ≡ record_from at b
record_same at a b same =
    let numbers = has_numbers at b in
    let size : number_at 1 at a ≡ number_at 1 at b = same at (inl (omega arith, omega arith)) in
    let names : bytes_at (number_at 1 at a) (at + 1) a ≡ bytes_at (number_at 1 at b) (at + 1) b =
    bytes_at-same (number_at 1 at a) (at + 1) a b
    (λ k lt. same (at + 1 + k) (inl (omega arith, omega arith)))
    ∙ ap (λ (n : ℕ). bytes_at n (at + 1) b) size in
    let number : (n from : ℕ) → at + 25 ≤ from → from + n ≤ at + 44
    → number_at n from a ≡ number_at n from b =
    λ n from above below. number_at-same n from a b (λ k le lt. same k (inr (omega arith, omega arith))) in
    record_is at a (record_from at b) (names ∙ sym (name-record_from at b)) (record {
      dims_is = number 1 (at + 25) (omega arith) (omega arith) ∙ numbers.dims_is;
      fanout_is = number 1 (at + 26) (omega arith) (omega arith) ∙ numbers.fanout_is;
      level_is = number 1 (at + 27) (omega arith) (omega arith) ∙ numbers.level_is;
      root_is = number 4 (at + 28) (omega arith) (omega arith) ∙ numbers.root_is;
      ids_root_is = number 4 (at + 32) (omega arith) (omega arith) ∙ numbers.ids_root_is;
      count_is = number 8 (at + 36) (omega arith) (omega arith) ∙ numbers.count_is;
    })

-- no byte of a record with a name of at most 24 bytes is one of a later record
pub not_later : (length later at size k : ℕ) → at + 64 ≤ later → size ≤ 24 → IsOfRecord size at k
    → IsOfRecord length later k → ⊥
not_later length later at size k before short (inl h) (inl i) = let a = h.1 in let b = i.0 in omega arith
not_later length later at size k before short (inl h) (inr i) = let a = h.1 in let b = i.0 in omega arith
not_later length later at size k before short (inr h) (inl i) = let a = h.1 in let b = i.0 in omega arith
not_later length later at size k before short (inr h) (inr i) = let a = h.1 in let b = i.0 in omega arith

-- a record stays where a later one is written
pub record_stays : (length later at : ℕ) (old new : List ℕ) → at + 64 ≤ later → number_at 1 at old ≤ 24
    → ChangesRecord length later old new → record_from at new ≡ record_from at old
record_stays length later at old new before short changes =
    sym (record_same at old new
    (λ k of. sym (changes k (not_later length later at (number_at 1 at old) k before short of))))

-- a record has a name where its length is one of a name
pub has_name_at : (at place : ℕ) (page : List ℕ) → at ≡ record_place place
    → ((1 ≤ number_at 1 at page) × (number_at 1 at page ≤ 24)) ↔ HasName (record_at page place)
has_name_at at place page is =
    let size = length-name (record_place place) page in
    rw is (
      λ h. let some = h.0 in let short = h.1 in
          record { some = omega arith; short = omega arith },
      λ h. let some = h.some in let short = h.short in
          (omega arith, omega arith),
    )

-- ---- a record written as its name and then its numbers

outside_name : (length at k : ℕ) → (IsOfRecord length at k → ⊥) → IsApart 1 k (1 + length) at
outside_name length at k other =
    ⊎_elim (λ (h : k + 1 ≤ at). inl h)
    (λ (h : at < k + 1). ⊎_elim (λ (i : at + (1 + length) ≤ k). inr i)
    (λ (i : k < at + (1 + length)). absurd (other (inl (omega arith, omega arith))))
    (le_or_lt (at + (1 + length)) k))
    (le_or_lt (k + 1) at)

outside_numbers : (length at k : ℕ) → (IsOfRecord length at k → ⊥) → IsApart 1 k 19 (at + 25)
outside_numbers length at k other =
    ⊎_elim (λ (h : k + 1 ≤ at + 25). inl h)
    (λ (h : at + 25 < k + 1). ⊎_elim (λ (i : at + 25 + 19 ≤ k). inr i)
    (λ (i : k < at + 25 + 19). absurd (other (inr (omega arith, omega arith))))
    (le_or_lt (at + 25 + 19) k))
    (le_or_lt (k + 1) (at + 25))

pub record_written : (at : ℕ) (mid new : List ℕ) (layer : Record) → length layer.name ≤ 24
    → number_at 1 at mid ≡ length layer.name → bytes_at (length layer.name) (at + 1) mid ≡ layer.name
    → ChangesOnly 19 (at + 25) mid new → HasNumbers at layer new → record_from at new ≡ layer
record_written at mid new layer short size bytes changes numbers =
    let there : number_at 1 at new ≡ length layer.name = changes at (inl (omega arith)) ∙ size in
    record_is at new layer
    (ap (λ (n : ℕ). bytes_at n (at + 1) new) there
    ∙ bytes_at-same (length layer.name) (at + 1) new mid
    (λ k lt. changes (at + 1 + k) (inl (omega arith))) ∙ bytes)
    numbers

pub record_changes : (length at : ℕ) (old mid new : List ℕ) → ChangesOnly (1 + length) at old mid
    → ChangesOnly 19 (at + 25) mid new → ChangesRecord length at old new
record_changes length at old mid new name numbers = λ k other. numbers k (outside_numbers length at k other)
    ∙ name k (outside_name length at k other)

-- ---- what a record of a page of bytes is

pub record_fits : (at : ℕ) (page : List ℕ) → ((k : ℕ) → slice_index page k < 256)
    → HasName (record_from at page) → IsRecord (record_from at page)
record_fits at page bytes named =
    let numbers = has_numbers at page in
    let dims = number_at-lt 1 (at + 25) page bytes in
    let fanout = number_at-lt 1 (at + 26) page bytes in
    let level = number_at-lt 1 (at + 27) page bytes in
    let root = number_at-lt 4 (at + 28) page bytes in
    let ids_root = number_at-lt 4 (at + 32) page bytes in
    let count = number_at-lt 8 (at + 36) page bytes in
    record {
      named = named;
      name_bytes = λ k other lt.
          let there : get_or (record_from at page).name k other ≡ number_at 1 (at + 1 + k) page =
          ap (λ (xs : List ℕ). get_or xs k other) (name-record_from at page)
          ∙ get_or-first_places (λ j. number_at 1 (at + 1 + j) page) (number_at 1 at page) k other
          (omega (arith, length-name at page)) in
          omega (arith, there, number_at-lt 1 (at + 1 + k) page bytes);
      dims_fits = omega (arith, numbers.dims_is);
      fanout_fits = omega (arith, numbers.fanout_is);
      level_fits = omega (arith, numbers.level_is);
      root_fits = omega (arith, numbers.root_is);
      ids_root_fits = omega (arith, numbers.ids_root_is);
      count_fits = omega (arith, numbers.count_is);
    }
