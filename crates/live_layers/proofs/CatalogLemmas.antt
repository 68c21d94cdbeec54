-- The checks of the catalog, record by record.
use Rattle.std.proofs.Common.{◌≡◌, ◌+◌, ◌-◌, ◌≤◌, ◌<◌, ◌∙◌, ℕ, List, [], ◌∷◌, length, map, take, get_or, Bool}
use Rattle.std.proofs.Common.{false, ◌&&◌, refl, sym, ap, arith, nat_le}
use Rattle.std.specs.List.{list_all}
use Rattle.std.specs.Cmp.Lexicographic.{slice_cmp}
use Rattle.std.specs.FinMap.Entries.{below_all}
use Rattle.std.specs.Ordering.{is_lt, nat_cmp}
use Rattle.std.proofs.lemmas.Bool.Decides.{nat_tests}
use Rattle.std.proofs.lemmas.List.{get_or-map, length-map, take-map}
use Rattle.std.proofs.lemmas.List.Sums.{sum_by_more_le}
use Rattle.catalog_page.specs.Layout.{Record, record_of}
use Rattle.catalog_page.specs.declared.layer_record.LayerRecord.{LayerRecord as Layer}
use Rattle.live_layers.specs.Catalog.{by_name, names_ascend, objects_named}
use Rattle.plain_table.specs.Table.{most_objects}

-- a record whose count goes past what is left of the room
pub too_many : (rs : List Layer) (i total : ℕ) (r : Layer) → i < length rs → r ≡ get_or rs i r
    → total ≡ objects_named (map record_of (take i rs)) → total ≤ most_objects
    → most_objects - total < r.count
    → nat_le (objects_named (map record_of rs)) most_objects ≡ false
too_many rs i total r lt is so room more =
    let all =
    sum_by_more_le (λ (x : Record). x.count) (map record_of rs) i (record_of r)
    (omega (arith, lt, length-map rs record_of)) in
    let this : get_or (map record_of rs) i (record_of r) ≡ record_of r =
    get_or-map record_of rs i r (record_of r) lt ∙ ap record_of (sym is) in
    let past : most_objects < objects_named (map record_of rs) =
    omega (
      arith,
      all,
      room,
      more,
      so,
      ap (λ (x : Record). x.count) this,
      ap objects_named (take-map record_of i rs),
    ) in
    grind (arith, nat_tests)

-- the records so far and the next one have at most as many objects as all
pub within_all : (rs : List Layer) (i total : ℕ) (r : Layer) → i < length rs → r ≡ get_or rs i r
    → total ≡ objects_named (map record_of (take i rs)) → total + r.count ≤ objects_named (map record_of rs)
within_all rs i total r lt is so =
    let all =
    sum_by_more_le (λ (x : Record). x.count) (map record_of rs) i (record_of r)
    (omega (arith, lt, length-map rs record_of)) in
    let this : get_or (map record_of rs) i (record_of r) ≡ record_of r =
    get_or-map record_of rs i r (record_of r) lt ∙ ap record_of (sym is) in
    omega (arith, all, so, ap (λ (x : Record). x.count) this, ap objects_named (take-map record_of i rs))

-- a name is below all those of records
pub below_records : (name : List ℕ) (rs : List Layer)
    → below_all (slice_cmp nat_cmp) name (by_name (map record_of rs)) ≡ list_all
    (λ (r : Layer). is_lt (slice_cmp nat_cmp name r.name.items)) rs
below_records name [] = refl
below_records name (r ∷ rs) =
    ap (λ (b : Bool). is_lt (slice_cmp nat_cmp name r.name.items) && b) (below_records name rs)

-- the names of records ascend where the first is below the others, and they ascend
pub ascend_from : (rs rest : List Layer) (first : Layer) (below others : Bool) → rs ≡ first ∷ rest
    → below ≡ list_all (λ (r : Layer). is_lt (slice_cmp nat_cmp first.name.items r.name.items)) rest
    → others ≡ names_ascend (map record_of rest) → (below && others) ≡ names_ascend (map record_of rs)
ascend_from rs rest first below others is a b =
    (λ j. (a ∙ sym (below_records first.name.items rest)) j && b j)
    ∙ ap (λ (xs : List Layer). names_ascend (map record_of xs)) (sym is)
