-- A sound store has few live pages for its objects, so that no change makes all page numbers live.
use Rattle.std.proofs.Common.{◌≡◌, ℕ, ◌+◌, ◌*◌, ◌/◌, ◌^◌, ◌<◌, ◌≤◌, true, eqb, List, [], ◌∷◌, length, map, ap}
use Rattle.std.proofs.Common.{⊎_elim, arith}
use Rattle.std.specs.Set.{is_member}
use Rattle.std.proofs.lemmas.List.{length-map}
use Rattle.std.proofs.lemmas.List.Sums.{sum_by-cons}
use Rattle.box_math.specs.Measures.{sum_over}
use Rattle.catalog_page.specs.Layout.{Record}
use Rattle.layer_pages.proofs.CountLemmas.{pages_of_layer}
use Rattle.node_page.specs.Checked.{named_pages}
use Rattle.node_page.specs.Standing.{PageMap}
use Rattle.node_page.proofs.CountLemmas.{sum_both, sum_listed, sum_none, sum_of_all, sum_one}
use Rattle.page_cache.specs.Cache.{Grows, IsFull, IsLive, blocks_behind, free_count_of, free_of, next_of}
use Rattle.page_cache.specs.Cache.{pages}
use Rattle.page_cache.specs.Laws.{a_page_is_live_or_free}
use Rattle.page_cache.specs.declared.cache.PageCache.{PageCache}
use Rattle.node_page.specs.Faults.{IsNoDamage}
use Rattle.page_file.specs.Chains.{chain_count}
use Rattle.page_file.specs.Fault.{IsOfDevice}
use Rattle.page_file.specs.declared.fault.Fault.{Fault}
use Rattle.page_file.specs.declared.fault.Fault.TheVariants as fault
use Rattle.page_file.specs.File.{header_of}
use Rattle.plain_table.specs.Table.{Table, most_objects, object_count}
use Rattle.live_layers.specs.Catalog.{objects_named}
use Rattle.live_layers.specs.Keeping.{IsSound, cache_of, records_in}
use Rattle.live_layers.specs.Layers.{LayersStand, Reading, in_use, of_catalog, of_layer, of_layers, root_of}
use Rattle.live_layers.specs.Layers.{row_of}
use Rattle.live_layers.specs.declared.layers.Layers.{Layers}
use Rattle.live_layers.proofs.HoldLemmas.{counted}
use Rattle.live_layers.proofs.UsedLemmas.{some_listed}

-- the pages of layers, by their objects
pages_of_layers : (limit : ℕ) (pages : PageMap) (hs : List Reading) → LayersStand pages hs
    → 28 * sum_over limit (of_layers hs) ≤ 29 * objects_named (map row_of hs) + 28056 * length hs
pages_of_layers limit pages [] stand = omega (arith, sum_none limit)
pages_of_layers limit pages (h ∷ hs) stand =
    omega (
      arith,
      sum_both limit (of_layer h) (of_layers hs),
      pages_of_layer h.row.dims h.row.fanout limit pages (root_of h.row) h.row.ids_root h.pages
          h.layer.objects stand.0.at,
      stand.0.count,
      sum_by-cons (λ (r : Record). r.count) h.row (map row_of hs),
      pages_of_layers limit pages hs stand.1,
    )

module _ {D A : Type 0} {m : _} (kept : Layers D A m) (t : Table) (sound : IsSound kept t) where
  -- each page given out is free or in use
  free_or_used : (n : ℕ) → 2 ≤ n → n < next_of (cache_of kept)
      → 0 < named_pages (free_of (cache_of kept)) n + in_use sound.holds.layers n
  free_or_used n low below = ⊎_elim
      (λ (live : IsLive (cache_of kept) n). omega (arith, sound.holds.used.used n live))
      (λ (free : is_member eqb (free_of (cache_of kept)) n ≡ true). omega
      (arith, some_listed (free_of (cache_of kept)) n free))
      (a_page_is_live_or_free (cache_of kept) n low below)

  -- The live pages: the catalog, and those of each layer.
  live_pages : 28 * next_of (cache_of kept) ≤ 28 * free_count_of (cache_of kept) + 84 + 29 * object_count t
      + 28056 * length (records_in kept)
  live_pages =
      let next = next_of (cache_of kept) in
      let hs = sound.holds.layers in
      let header = header_of (cache_of kept).file in
      omega (
        arith,
        sum_of_all next (λ n. named_pages (free_of (cache_of kept)) n + in_use hs n) free_or_used,
        sum_both next (named_pages (free_of (cache_of kept))) (in_use hs),
        sum_both next of_catalog (of_layers hs),
        sum_one next 2,
        sum_listed next (free_of (cache_of kept)),
        chain_count (blocks_behind (cache_of kept)) header.next header.count header.first sound.map.free,
        pages_of_layers next (pages (cache_of kept)) hs sound.holds.stand,
        ap objects_named sound.holds.rows,
        counted (pages (cache_of kept)) next (records_in kept) t sound.holds,
        length-map hs row_of,
        ap length sound.holds.rows,
      )

  module _ (few : length (records_in kept) ≤ 60) where
    pub few_pages_are_live : next_of (cache_of kept) ≤ free_count_of (cache_of kept) + 3 + object_count t
        + object_count t / 28 + 60 * 1002
    few_pages_are_live = omega (arith, few, live_pages)

    -- no change of so few objects makes each page number live
    pub never_full : (most : ℕ) (new : PageCache D A m) → object_count t ≤ 2 ^ 30 → most ≤ 2 ^ 28 + 2 ^ 17
        → Grows most (cache_of kept) new → IsFull new → ⊥
    never_full most new objects grows_by grows full =
        omega (arith, few_pages_are_live, objects, grows_by, grows, full)

    -- nor does a load
    pub never_full_of_load : (most count : ℕ) (new : PageCache D A m) → object_count t + count ≤ 2 ^ 30
        → most ≤ count + count / 2 + 2000 → Grows most (cache_of kept) new → IsFull new → ⊥
    never_full_of_load most count new objects grows_by grows full =
        omega (arith, few_pages_are_live, objects, grows_by, grows, full)

    -- so a change that damages no page is broken off by memory or the device alone
    pub no_page_wanted : (most : ℕ) (new : PageCache D A m) (f : Fault) → most ≤ 2 ^ 28 + 2 ^ 17
        → Grows most (cache_of kept) new → IsNoDamage new f → IsOfDevice f
    no_page_wanted most new f small grows h = ⊎_elim
        (λ (device : IsOfDevice f). device)
        (λ (full : (f ≡ fault.NoPages) × IsFull new). absurd
        (never_full most new (omega (arith, sound.counted, sound.within)) small grows full.1))
        h

    pub no_page_wanted_by_load : (most count : ℕ) (new : PageCache D A m) (f : Fault)
        → kept.object_count + count ≤ most_objects → most ≤ count + count / 2 + 2000
        → Grows most (cache_of kept) new → IsNoDamage new f → IsOfDevice f
    no_page_wanted_by_load most count new f room small grows h = ⊎_elim
        (λ (device : IsOfDevice f). device)
        (λ (full : (f ≡ fault.NoPages) × IsFull new). absurd
        (never_full_of_load most count new (omega (arith, room, sound.counted)) small grows full.1))
        h
