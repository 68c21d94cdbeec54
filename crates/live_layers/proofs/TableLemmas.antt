-- A table with one of its layers replaced, or one more.
use Rattle.std.proofs.Common.{◌≡◌, ◌∙◌, ℕ, List, [], ◌∷◌, get_or, map, Bool, true, false, ◌&&◌, Option, refl}
use Rattle.std.proofs.Common.{ap, T}
use Rattle.std.specs.Prelude.{slice_set, unwrap_or}
use Rattle.std.specs.Cmp.Lexicographic.{slice_cmp, nat_list_cmp_total}
use Rattle.std.specs.FinMap.{entries, entries-insert, entries_sorted, get-entries, insert as map_insert}
use Rattle.std.specs.FinMap.{is_sorted}
use Rattle.std.specs.FinMap.Entries.{below_all}
use Rattle.std.specs.List.{insert}
use Rattle.std.specs.Ordering.{nat_cmp, is_lt}
use Rattle.std.specs.declared.cmp.Ordering.{Ordering}
use Rattle.catalog_page.specs.Layout.{Record}
use Rattle.plain_table.specs.Table.{Table, Layer, layer_at, no_layer}
use Rattle.live_layers.specs.Catalog.{by_name, names_ascend}
use Rattle.live_layers.specs.Keeping.{Belongs, Finds}

module _ (t : Table) (name : List ℕ) (place : ℕ) (finds : Finds t name place) where
  -- the layer that is found is the one in the place
  pub layer_found : (d : List ℕ × Layer) → layer_at t name ≡ (get_or (entries t) place d).1
  layer_found d = ap (λ (o : Option Layer). unwrap_or o no_layer) (get-entries t name ∙ finds.stands.found d)

  -- another layer in the place is the layer of that name
  pub entries_after : (layer : Layer)
      → entries (map_insert t name layer) ≡ slice_set (entries t) place (name, layer)
  entries_after layer =
      let d : List ℕ × Layer = (name, layer) in
      entries-insert nat_list_cmp_total t name layer ∙ finds.stands.replaced layer d
      ∙ ap (λ (n : List ℕ). slice_set (entries t) place (n, layer)) (finds.named d)

-- a layer of another name goes to its place
pub entries_more : (t : Table) (name : List ℕ) (place : ℕ) → Belongs t name place → (layer : Layer)
    → entries (map_insert t name layer) ≡ insert (entries t) place (name, layer)
entries_more t name place belongs layer = entries-insert nat_list_cmp_total t name layer
    ∙ belongs.inserted layer

-- ---- names

-- whether entries are in order is seen from their keys
same_below : {K X Y : Type 0} (R : K → K → Ordering) (k : K) (as' : List (K × X)) (bs : List (K × Y))
    → map (λ (a : K × X). a.0) as' ≡ map (λ (b : K × Y). b.0) bs → below_all R k as' ≡ below_all R k bs
same_below R k [] [] same = refl
same_below R k [] (b ∷ bs) same = absurd (cc)
same_below R k (a ∷ as') [] same = absurd (cc)
same_below R k (a ∷ as') (b ∷ bs) same =
    let first : a.0 ≡ b.0 = cc in
    let rest : map (λ (a : _ × _). a.0) as' ≡ map (λ (b : _ × _). b.0) bs = cc in
    λ i. is_lt (R k (first i)) && same_below R k as' bs rest i

pub same_order : {K X Y : Type 0} (R : K → K → Ordering) (as' : List (K × X)) (bs : List (K × Y))
    → map (λ (a : K × X). a.0) as' ≡ map (λ (b : K × Y). b.0) bs → is_sorted R as' ≡ is_sorted R bs
same_order R [] [] same = refl
same_order R [] (b ∷ bs) same = absurd (cc)
same_order R (a ∷ as') [] same = absurd (cc)
same_order R (a ∷ as') (b ∷ bs) same =
    let first : a.0 ≡ b.0 = cc in
    let rest : map (λ (a : _ × _). a.0) as' ≡ map (λ (b : _ × _). b.0) bs = cc in
    (λ i. below_all R (first i) as' && is_sorted R as')
    ∙ (λ i. same_below R b.0 as' bs rest i && same_order R as' bs rest i)

is_true : (b : Bool) → T b → b ≡ true
is_true true h = refl
is_true false h = absurd h

keys_of_names : (records : List Record)
    → map (λ (e : List ℕ × Record). e.0) (by_name records) ≡ map (λ (r : Record). r.name) records
keys_of_names [] = refl
keys_of_names (r ∷ rs) = ap (λ (ns : List (List ℕ)). r.name ∷ ns) (keys_of_names rs)

-- records with the names of a table's layers ascend
pub names_of_table : (records : List Record) (t : Table)
    → map (λ (r : Record). r.name) records ≡ map (λ (e : List ℕ × Layer). e.0) (entries t)
    → names_ascend records ≡ true
names_of_table records t same =
    same_order (slice_cmp nat_cmp) (by_name records) (entries t) (keys_of_names records ∙ same)
    ∙ is_true _ (entries_sorted t)
