-- What a page spells, and the test of it.
use Rattle.std.proofs.Common.{◌≡◌, ℕ, ◌<◌, ◌≤◌, ◌&&◌, ◌==◌, Bool, true, nat_le, List, length, All, Some, None}
use Rattle.std.proofs.Common.{sym, ap, subst, arith}
use Rattle.std.specs.List.{list_all}
use Rattle.std.proofs.lemmas.Bool.Decides.{nat_tests}
use Rattle.std.proofs.lemmas.Option.{cond_some}
use Rattle.std.proofs.lemmas.List.Elements.{All-weaker}
use Rattle.std.proofs.lemmas.List.Sums.{AllPass-from_list_all, list_all-from_AllPass}
use Rattle.block_bytes.specs.FormLaws.{none_read}
use Rattle.block_bytes.specs.Numbers.{number_at}
use Rattle.block_bytes.specs.PlaceLaws.{get_or-first_places, length-first_places}
use Rattle.catalog_page.specs.Layout.{Record, HasName, has_name, record_at, first_records, Spells}
use Rattle.catalog_page.specs.Layout.{catalog_test, records_at}

named_means : (n : ℕ) → (nat_le 1 n && nat_le n 24) ≡ true → (1 ≤ n) × (n ≤ 24)
named_means n h = (grind (arith, nat_tests), grind (arith, nat_tests))

named_test : (n : ℕ) → 1 ≤ n → n ≤ 24 → (nat_le 1 n && nat_le n 24) ≡ true
named_test n some short = grind (arith, nat_tests)

all_named : (layers : List Record) → list_all has_name layers ≡ true → All HasName layers
all_named layers h =
    All-weaker (λ layer. has_name layer ≡ true) HasName
    (λ layer is. let means = named_means (length layer.name) is in record { some = means.0; short = means.1 })
    layers (AllPass-from_list_all has_name layers h)

all_pass : (layers : List Record) → All HasName layers → list_all has_name layers ≡ true
all_pass layers named =
    list_all-from_AllPass has_name layers
    (All-weaker HasName (λ layer. has_name layer ≡ true)
    (λ layer is. named_test (length layer.name) is.some is.short) layers named)

test_means : (kind n : ℕ) (b : Bool) → (kind == 1 && nat_le n 60 && b) ≡ true
    → (kind ≡ 1) × (n ≤ 60) × (b ≡ true)
test_means kind n b h = (grind (arith, nat_tests), grind (arith, nat_tests), grind (arith, nat_tests))

test_from : (kind n : ℕ) (b : Bool) → kind ≡ 1 → n ≤ 60 → b ≡ true → (kind == 1 && nat_le n 60 && b) ≡ true
test_from kind n b is few holds = grind (arith, nat_tests)

-- where the page spells layers, reading it gives them
pub spelled : (page : List ℕ) (layers : List Record) → Spells page layers → records_at page ≡ Some layers
unfolding records_at catalog_test
spelled page layers s =
    let n = number_at 1 1 page in
    let all : list_all has_name (first_records page n) ≡ true =
    all_pass (first_records page n) (subst (All HasName) s.records s.named) in
    let passes =
    test_from (number_at 1 0 page) n (list_all has_name (first_records page n)) s.kind s.few all in
    rw passes (ap (λ (xs : List Record). Some xs) (sym s.records))

-- and what reading gives is spelled so
pub spells : (page : List ℕ) (layers : List Record) → records_at page ≡ Some layers → Spells page layers
unfolding records_at catalog_test
spells page layers h =
    let n = number_at 1 1 page in
    let test = list_all has_name (first_records page n) in
    let parts = cond_some (number_at 1 0 page == 1 && nat_le n 60 && test) (first_records page n) layers h in
    let means = test_means (number_at 1 0 page) n test parts.0 in
    record {
      kind = means.0;
      few = means.1;
      named = subst (All HasName) parts.1 (all_named (first_records page n) means.2);
      records = sym parts.1;
    }

-- ---- decoding

-- a page of another kind spells no layers
pub no_kind : (page : List ℕ) → (number_at 1 0 page ≡ 1 → ⊥) → records_at page ≡ None
no_kind page other = none_read (records_at page) (λ layers is. other (spells page layers is).kind)

-- nor does one with a greater count
pub no_count : (page : List ℕ) → 60 < number_at 1 1 page → records_at page ≡ None
no_count page many =
    none_read (records_at page) (λ layers is. let few = (spells page layers is).few in omega arith)

-- nor one with a record without a name
pub no_name : (page : List ℕ) (place : ℕ) → place < number_at 1 1 page → (HasName (record_at page place) → ⊥)
    → records_at page ≡ None
no_name page place lt none =
    none_read (records_at page) (λ layers is.
    let s = spells page layers is in
    let first = subst (All HasName) s.records s.named in
    none (subst HasName
    (get_or-first_places (record_at page) (number_at 1 1 page) place (record_at page place) lt)
    (first place (record_at page place)
    (omega (arith, length-first_places (record_at page) (number_at 1 1 page))))))

-- and any other spells its records
pub all_names : (page : List ℕ) (count : ℕ) → number_at 1 0 page ≡ 1 → count ≡ number_at 1 1 page
    → count ≤ 60 → All HasName (first_records page count) → records_at page ≡ Some (first_records page count)
all_names page count kind same few named =
    spelled page (first_records page count)
    (record { kind = kind; few = omega arith; named = named; records = ap (first_records page) same })
