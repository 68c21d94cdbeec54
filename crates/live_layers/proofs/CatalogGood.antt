-- Catalogs that stay good where more pages are given out, and a record is replaced or comes in.
use Rattle.std.proofs.Common.{◌≡◌, ℕ, zero, suc, ◌<◌, ◌≤◌, ◌^◌, List, [], ◌∷◌, get_or, true, ◌&&◌, nat_le}
use Rattle.std.proofs.Common.{arith}
use Rattle.std.specs.Cmp.{first_so, second_so}
use Rattle.std.specs.Cmp.Derive.{both_true}
use Rattle.std.specs.List.{All, insert, list_all}
use Rattle.std.proofs.lemmas.Bool.Decides.{nat_tests}
use Rattle.std.proofs.lemmas.List.Elements.{All-cons, All-head, All-tail}
use Rattle.std.proofs.lemmas.List.Sums.{AllPass-from_list_all, list_all-from_AllPass}
use Rattle.catalog_page.specs.Layout.{Record}
use Rattle.plain_table.specs.Table.{most_objects}
use Rattle.live_layers.specs.Catalog.{AreLayers, is_good_catalog, is_layer, is_layer_record, is_page}
use Rattle.live_layers.specs.Catalog.{names_ascend, objects_named}

pub All-insert : {X : Type 0} (P : X → Type 0) (xs : List X) (i : ℕ) (x : X) → P x → All P xs
    → All P (insert xs i x)
All-insert P [] zero x p all = All-cons P x [] p all
All-insert P [] (suc i) x p all = All-cons P x [] p all
All-insert P (y ∷ ys) zero x p all = All-cons P x (y ∷ ys) p all
All-insert P (y ∷ ys) (suc i) x p all =
    All-cons P y (insert ys i x) (All-head P y ys all) (All-insert P ys i x p (All-tail P y ys all))

pub a_page : (next n : ℕ) → 3 ≤ n → n < next → is_page next n ≡ true
a_page next n low below = grind (arith, nat_tests)

more_pages : (next next' n : ℕ) → next ≤ next' → is_page next n ≡ true → is_page next' n ≡ true
more_pages next next' n le e = grind (arith, nat_tests)

pub at_most : (a b : ℕ) → a ≤ b → nat_le a b ≡ true
at_most a b le = grind (arith, nat_tests)

pub not_more : (a b : ℕ) → nat_le a b ≡ true → a ≤ b
not_more a b e = grind (arith, nat_tests)

-- the parts of a good record
pub record GoodRecord (next : ℕ) (r : Record) : Type 0 where
  pub layer : is_layer r ≡ true
  pub low : r.level ≤ 40
  pub root : is_page next r.root ≡ true
  pub ids_root : is_page next r.ids_root ≡ true

pub good_parts : (next : ℕ) (r : Record) → is_layer_record next r ≡ true → GoodRecord next r
good_parts next r e =
    let front = is_layer r && nat_le r.level 40 in
    let three = first_so (front && is_page next r.root) (is_page next r.ids_root) e in
    let two = first_so front (is_page next r.root) three in
    record {
      layer = first_so (is_layer r) (nat_le r.level 40) two;
      low = not_more r.level 40 (second_so (is_layer r) (nat_le r.level 40) two);
      root = second_so front (is_page next r.root) three;
      ids_root = second_so (front && is_page next r.root) (is_page next r.ids_root) e;
    }

pub from_parts : (next : ℕ) (r : Record) → GoodRecord next r → is_layer_record next r ≡ true
from_parts next r g =
    both_true {s = (is_layer r && nat_le r.level 40) && is_page next r.root} {t = is_page next r.ids_root}
    (both_true {s = is_layer r && nat_le r.level 40} {t = is_page next r.root}
    (both_true {s = is_layer r} {t = nat_le r.level 40} g.layer (at_most r.level 40 g.low)) g.root)
    g.ids_root

-- a good record where more pages were given out
pub more_record : (next next' : ℕ) (r : Record) → next ≤ next' → is_layer_record next r ≡ true
    → is_layer_record next' r ≡ true
more_record next next' r le e =
    let g = good_parts next r e in
    from_parts next' r
    (record {
      layer = g.layer;
      low = g.low;
      root = more_pages next next' r.root le g.root;
      ids_root = more_pages next next' r.ids_root le g.ids_root;
    })

-- the records of a good catalog, of which there may be so many objects
pub each_good : (next : ℕ) (records : List Record) → is_good_catalog next records ≡ true
    → All (λ (r : Record). is_layer_record next r ≡ true) records
each_good next records good =
    AllPass-from_list_all (is_layer_record next) records
    (first_so (list_all (is_layer_record next) records)
    (names_ascend records && nat_le (objects_named records) most_objects) good)

pub names_good : (next : ℕ) (records : List Record) → is_good_catalog next records ≡ true
    → names_ascend records ≡ true
names_good next records good =
    first_so (names_ascend records) (nat_le (objects_named records) most_objects)
    (second_so (list_all (is_layer_record next) records)
    (names_ascend records && nat_le (objects_named records) most_objects) good)

pub few_good : (next : ℕ) (records : List Record) → is_good_catalog next records ≡ true
    → objects_named records ≤ most_objects
few_good next records good =
    not_more _ _
    (second_so (names_ascend records) (nat_le (objects_named records) most_objects)
    (second_so (list_all (is_layer_record next) records)
    (names_ascend records && nat_le (objects_named records) most_objects) good))

-- and records make one
pub makes_good : (next : ℕ) (records : List Record)
    → All (λ (r : Record). is_layer_record next r ≡ true) records → names_ascend records ≡ true
    → objects_named records ≤ most_objects → is_good_catalog next records ≡ true
makes_good next records each names few =
    both_true {s = list_all (is_layer_record next) records}
    {t = names_ascend records && nat_le (objects_named records) most_objects}
    (list_all-from_AllPass (is_layer_record next) records each)
    (both_true {s = names_ascend records} {t = nat_le (objects_named records) most_objects} names
    (at_most _ _ few))

-- records of layers that may be
pub layers_may_be : (next : ℕ) (records : List Record) → next ≤ 2 ^ 31 → is_good_catalog next records ≡ true
    → AreLayers records
layers_may_be next records few good =
    λ k d lt. more_record next (2 ^ 31) (get_or records k d) few (each_good next records good k d lt)
