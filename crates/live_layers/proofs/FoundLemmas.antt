-- The table that layers hold which were found by a check.
use Rattle.std.proofs.Common.{◌≡◌, ◌∙◌, ℕ, List, [], ◌∷◌, map, true, T, Some, refl, sym, ap, subst, arith}
use Rattle.std.specs.Cmp.Lexicographic.{slice_cmp}
use Rattle.std.specs.FinMap.{entries-from_sorted, from_sorted, is_sorted}
use Rattle.std.specs.Ordering.{nat_cmp}
use Rattle.catalog_page.specs.Layout.{Record, record_of, records_of}
use Rattle.catalog_page.specs.declared.layer_record.LayerRecord.{LayerRecord}
use Rattle.node_page.specs.Standing.{PageMap}
use Rattle.page_cache.specs.Cache.{IsHonest, IsPageMap, KeepsMap, next_of, pages, version_of}
use Rattle.page_cache.specs.declared.cache.PageCache.{PageCache}
use Rattle.page_file.specs.declared.header.Version.{Version}
use Rattle.plain_table.specs.Table.{Layer, Table}
use Rattle.live_layers.specs.Catalog.{by_name, is_good_catalog, names_ascend, objects_named}
use Rattle.live_layers.specs.Checked.{FindsLayers, IsFoundSound}
use Rattle.live_layers.specs.Keeping.{IsSound, IsWritten}
use Rattle.live_layers.specs.Layers.{Holds, Reading, catalog_in, entry_of, row_of}
use Rattle.live_layers.specs.declared.layers.Layers.{Layers}
use Rattle.live_layers.proofs.CatalogGood.{few_good, names_good}
use Rattle.live_layers.proofs.HoldLemmas.{counted}
use Rattle.live_layers.proofs.TableLemmas.{same_order}

names_of_layers : (hs : List Reading)
    → map (λ (e : List ℕ × Record). e.0) (by_name (map row_of hs)) ≡ map (λ (e : List ℕ × Layer). e.0)
    (map entry_of hs)
names_of_layers [] = refl
names_of_layers (h ∷ hs) = ap (λ (ns : List (List ℕ)). h.row.name ∷ ns) (names_of_layers hs)

module _ {version : Version} (pages : PageMap) (next : ℕ) (records : List Record)
    (found : FindsLayers pages version records)
    (good : is_good_catalog next records ≡ true) where
  in_order : T (is_sorted (slice_cmp nat_cmp) (map entry_of found.layers))
  in_order =
      let names : names_ascend (map row_of found.layers) ≡ true = ap names_ascend found.rows
      ∙ names_good next records good in
      let same =
      same_order (slice_cmp nat_cmp) (by_name (map row_of found.layers)) (map entry_of found.layers)
      (names_of_layers found.layers) in
      subst T (sym names ∙ same) tt

  -- the table of the layers, which the pages hold
  pub table_found : Table
  table_found = from_sorted {R = slice_cmp nat_cmp} (map entry_of found.layers)

  pub holds_found : Holds pages next version records table_found
  unfolding table_found
  holds_found = record {
    layers = found.layers;
    rows = found.rows;
    table = sym (entries-from_sorted (slice_cmp nat_cmp) (map entry_of found.layers) in_order);
    stand = found.stand;
    allowed = found.allowed;
    used = found.used;
    good = good;
  }

module _ {D A : Type 0} {m : _} where
  -- layers that were found so are sound
  pub sound_found : (kept : Layers D A m) → IsPageMap kept.cache
      → is_good_catalog (next_of kept.cache) (records_of kept.records) ≡ true
      → kept.object_count ≡ objects_named (records_of kept.records)
      → (IsWritten kept → catalog_in (pages kept.cache) ≡ Some (records_of kept.records))
      → FindsLayers (pages kept.cache) (version_of kept.cache) (records_of kept.records) → IsFoundSound kept
  sound_found kept sound good count spelled found =
      let records = records_of kept.records in
      let t = table_found (pages kept.cache) (next_of kept.cache) records found good in
      let holds = holds_found (pages kept.cache) (next_of kept.cache) records found good in (
        t,
        record {
          map = sound;
          holds = holds;
          counted = count ∙ counted (pages kept.cache) (next_of kept.cache) records t holds;
          within = omega (arith, count, few_good (next_of kept.cache) records good);
          catalog = spelled;
        },
      )

  -- what was found in equal pages
  pub found_in : (old new : PageCache D A m) (records : List Record) → IsHonest old → KeepsMap old new
      → FindsLayers (pages new) (version_of new) records → FindsLayers (pages old) (version_of old) records
  found_in old new records honest keeps found =
      subst (λ (v : Version). FindsLayers (pages old) v records) (keeps.version honest)
      (subst (λ (p : PageMap). FindsLayers p (version_of new) records) (λ i n. keeps.pages_stay honest n i)
      found)

  -- what sound layers pass, with their records as a slice
  pub records_pass : (kept : Layers D A m) (t : Table) (next : ℕ) (items : List LayerRecord) → IsSound kept t
      → next ≡ next_of kept.cache → items ≡ kept.records.items
      → (is_good_catalog next (map record_of items) ≡ true)
      × (kept.object_count ≡ objects_named (map record_of items))
  records_pass kept t next items sound number same = (
    (λ i. is_good_catalog (number i) (map record_of (same i))) ∙ sound.holds.good,
    sound.counted
        ∙ sym (counted (pages kept.cache) (next_of kept.cache) (records_of kept.records) t sound.holds)
        ∙ sym (λ i. objects_named (map record_of (same i))),
  )
