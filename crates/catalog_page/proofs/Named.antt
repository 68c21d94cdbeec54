-- The laws of what pages spell: which bytes are read, and what layers are.
use Rattle.std.proofs.Common.{◌≡◌, ℕ, ◌&&◌, ◌==◌, nat_le, List, [], length, get_or, Some, None, sym, ◌∙◌, ap}
use Rattle.std.proofs.Common.{subst, arith, inl, inr, if◌then◌else◌}
use Rattle.std.specs.List.{list_all}
use Rattle.std.proofs.lemmas.List.Elements.{All-nil}
use Rattle.block_bytes.specs.PlaceLaws.{first_places-none, first_places-same, get_or-first_places}
use Rattle.block_bytes.specs.PlaceLaws.{length-first_places}
use Rattle.block_bytes.specs.Numbers.{number_at, zeros, put_number}
use Rattle.block_bytes.specs.Laws.{number_at-put, number_at-put_other, number_at-zeros, length-zeros}
use Rattle.catalog_page.specs.Layout.{Record, HasName, IsRecord, has_name, record_place, record_at}
use Rattle.catalog_page.specs.Layout.{first_records, catalog_test, records_at}
use Rattle.catalog_page.specs.PageLaws.{ReadsWhatIsSpelled, ReadsNamedBytes, SpellsCatalogs, BeginsEmpty}
use Rattle.catalog_page.proofs.Places.{record_same, record_fits}
use Rattle.catalog_page.proofs.Reading.{spells, spelled}

pub reads_spelled : ReadsWhatIsSpelled
reads_spelled page layers = (spells page layers, spelled page layers)

-- the same kind, count and records read the same
same_read : (a b : List ℕ) → number_at 1 0 a ≡ number_at 1 0 b → number_at 1 1 a ≡ number_at 1 1 b
    → first_records a (number_at 1 1 a) ≡ first_records b (number_at 1 1 b) → records_at a ≡ records_at b
unfolding records_at catalog_test
same_read a b kind count records =
    ap (λ (k : ℕ). if k == 1 && nat_le (number_at 1 1 a) 60
    && list_all has_name (first_records a (number_at 1 1 a)) then Some
    (first_records a (number_at 1 1 a)) else None) kind
    ∙ ap (λ (n : ℕ). if number_at 1 0 b == 1 && nat_le n 60
    && list_all has_name (first_records a (number_at 1 1 a)) then Some
    (first_records a (number_at 1 1 a)) else None) count
    ∙ ap (λ (xs : List Record). if number_at 1 0 b == 1 && nat_le (number_at 1 1 b) 60
    && list_all has_name xs then Some xs else None) records

pub reads_named_bytes : ReadsNamedBytes
reads_named_bytes a b same =
    let count : number_at 1 1 a ≡ number_at 1 1 b = same 1 (inl (omega arith)) in
    same_read a b (same 0 (inl (omega arith))) count
    (first_places-same (record_at a) (record_at b) (number_at 1 1 a) (record_at b 0)
    (λ place lt. record_same (record_place place) a b (λ k of. same k (inr (place, lt, of))))
    ∙ ap (first_records b) count)

pub spells_catalogs : SpellsCatalogs
spells_catalogs page layers bytes s =
    let n = number_at 1 1 page in
    let size : length layers ≡ n = ap length s.records ∙ length-first_places (record_at page) n in
    let few = s.few in
    record {
      few = omega arith;
      each = λ k other lt.
          let there : get_or layers k other ≡ record_at page k =
          ap (λ (xs : List Record). get_or xs k other) s.records
          ∙ get_or-first_places (record_at page) n k other (omega arith) in
          subst IsRecord (sym there)
          (record_fits (record_place k) page bytes (subst HasName there (s.named k other lt)));
    }

pub begins_empty : BeginsEmpty
begins_empty =
    let page = put_number 1 0 1 zeros in
    let kind : number_at 1 0 page ≡ 1 =
    number_at-put 1 0 1 zeros (omega (arith, length-zeros)) (omega arith) in
    let count : number_at 1 1 page ≡ 0 =
    number_at-put_other 1 1 1 0 1 zeros (omega (arith, length-zeros)) (inr (omega arith))
    ∙ number_at-zeros 1 1 in
    spelled page [] (record {
      kind = kind;
      few = omega (arith, count);
      named = All-nil HasName;
      records = sym (ap (first_records page) count ∙ first_places-none (record_at page));
    })
