-- Layers of a file that was opened.
use Rattle.std.proofs.Common.{◌≡◌, ◌∙◌, true, false, List, Some, sym, ap, subst, arith, ⊎_elim}
use Rattle.std.specs.Prelude.{◌⊎◌, option_and_then}
use Rattle.block_device.specs.Device.{Blocks}
use Rattle.catalog_page.specs.Layout.{Record, records_at, records_of}
use Rattle.page_cache.specs.Cache.{IsHonest, KeepsMap, LiesIn, next_of, pages, version_of}
use Rattle.page_cache.specs.declared.cache.PageCache.{PageCache}
use Rattle.page_file.specs.Fault.{IsOfDevice}
use Rattle.page_file.specs.Pages.{next_in, pages_in}
use Rattle.page_file.specs.declared.fault.Fault.{Fault}
use Rattle.page_file.specs.declared.fault.Fault.TheVariants as fault
use Rattle.plain_table.specs.Table.{Table}
use Rattle.live_layers.specs.Catalog.{is_good_catalog, objects_named}
use Rattle.live_layers.specs.Image.{HasNoCatalog, IsImage}
use Rattle.live_layers.specs.Keeping.{IsSound}
use Rattle.live_layers.specs.Layers.{Holds, catalog_in}
use Rattle.live_layers.specs.declared.layers.Layers.{Layers}
use Rattle.live_layers.proofs.HoldLemmas.{counted, few_objects}
use Rattle.live_layers.proofs.KeepLemmas.{kept_catalog, kept_table, same_pages_hold}

module _ {D A : Type 0} {m : _} (cache : PageCache D A m) (blocks : Blocks) (t : Table)
    (lies : LiesIn cache blocks) (image : IsImage blocks t) where
  image_records : catalog_in (pages cache) ≡ Some image.records
  image_records = ap (option_and_then records_at) (sym (lies.pages_there 2)) ∙ image.spelled

  image_holds : Holds (pages cache) (next_of cache) (version_of cache) image.records t
  image_holds =
      same_pages_hold (pages_in blocks) (pages cache) (next_in blocks) (next_of cache) image.records t
      (λ n. sym (lies.pages_there n)) (sym lies.next) (sym lies.version) image.holds

  -- the catalog of an image is good
  not_damaged : HasNoCatalog (pages cache) (next_of cache) → ⊥
  not_damaged none =
      let bad : is_good_catalog (next_of cache) image.records ≡ false = none image.records image_records in
      let good : is_good_catalog (next_of cache) image.records ≡ true = image_holds.good in
      let no : true ≡ false = sym good ∙ bad in cc

  pub no_damage : (f : Fault)
      → IsOfDevice f ⊎ ((f ≡ fault.Damaged 2) × HasNoCatalog (pages cache) (next_of cache)) → IsOfDevice f
  no_damage f why =
      ⊎_elim (λ (h : IsOfDevice f). h)
      (λ (h : (f ≡ fault.Damaged 2) × HasNoCatalog (pages cache) (next_of cache)). absurd (not_damaged h.1))
      why

  -- what was read of it is sound
  pub opened_sound : (kept : Layers D A m) → IsHonest cache → KeepsMap cache kept.cache
      → catalog_in (pages cache) ≡ Some (records_of kept.records)
      → kept.object_count ≡ objects_named (records_of kept.records) → IsSound kept t
  opened_sound kept honest keeps spelled count =
      let both : Some image.records ≡ Some (records_of kept.records) = sym image_records ∙ spelled in
      let same : image.records ≡ records_of kept.records = cc in
      let held =
      subst (λ (rs : List Record). Holds (pages cache) (next_of cache) (version_of cache) rs t) same
      image_holds in
      let number = count ∙ counted (pages cache) (next_of cache) (records_of kept.records) t held in
      record {
        map = keeps.sound.0 (lies.sound.1 image.free);
        holds = kept_table cache kept.cache (records_of kept.records) t honest keeps held;
        counted = number;
        within =
            omega (arith, number, few_objects (pages cache) (next_of cache) (records_of kept.records) t held);
        catalog = λ w. kept_catalog cache kept.cache (records_of kept.records) honest keeps spelled;
      }
