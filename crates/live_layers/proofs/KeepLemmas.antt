-- What a live store keeps, where its pages stay.
use Rattle.std.proofs.Common.{◌≡◌, ◌∙◌, ℕ, ◌≤◌, List, Some, true, refl, sym, ap, subst}
use Rattle.std.specs.Prelude.{Result, Ok, Err, IsErrAnd, option_and_then}
use Rattle.catalog_page.specs.Layout.{Record, records_at, records_of}
use Rattle.node_page.specs.Standing.{PageMap}
use Rattle.page_cache.specs.Cache.{IsHonest, IsLive, IsPageMap, KeepsMap, next_of, pages, version_of}
use Rattle.page_cache.specs.Laws.{no_call_keeps_the_map, the_map_is_kept_in_turn}
use Rattle.page_cache.specs.declared.cache.PageCache.{PageCache}
use Rattle.page_file.specs.Pages.{SameBut}
use Rattle.page_file.specs.declared.header.Version.{Version}
use Rattle.plain_table.specs.Table.{Table, most_objects}
use Rattle.live_layers.specs.Layers.{Holds, catalog_in}
use Rattle.live_layers.specs.Keeping.{IsSound}
use Rattle.live_layers.specs.Staying.{KeepsPagesAndRecords, KeepsVersions, LeavesVersion}
use Rattle.live_layers.specs.declared.layers.Layers.{Layers}
use Rattle.live_layers.proofs.HoldLemmas.{catalog_changed}

-- a table stays where the pages and the version do
pub same_pages_hold : (old new : PageMap) (next next' : ℕ) {version version' : Version} (records : List Record)
    (t : Table) → ((n : ℕ) → new n ≡ old n) → next' ≡ next → version' ≡ version
    → Holds old next version records t → Holds new next' version' records t
same_pages_hold old new next next' {version = version} {version' = version'} records t same e is h =
    subst (λ (k : ℕ). Holds new k version' records t) (sym e)
    (subst (λ (v : Version). Holds new next v records t) (sym is)
    (subst (λ (p : PageMap). Holds p next version records t) (λ i n. sym (same n) i) h))

module _ {D A : Type 0} {m : _} where
  -- nothing was done, or one thing after the other
  pub nothing_moved : (kept : Layers D A m) → KeepsPagesAndRecords kept kept
  nothing_moved kept =
      record { map = no_call_keeps_the_map kept.cache; records = refl; written = λ was. was; newest = refl }

  pub stays_in_turn : (old mid new : Layers D A m) → (IsHonest old.cache → IsHonest mid.cache)
      → KeepsPagesAndRecords old mid → KeepsPagesAndRecords mid new → KeepsPagesAndRecords old new
  stays_in_turn old mid new honest a b = record {
    map = the_map_is_kept_in_turn old.cache mid.cache new.cache honest a.map b.map;
    records = b.records ∙ a.records;
    written = λ was. b.written (a.written was);
    newest = b.newest ∙ a.newest;
  }

  -- what keeps the pages keeps the versions
  pub versions_kept : (old new : Layers D A m) → KeepsPagesAndRecords old new → KeepsVersions old new
  versions_kept old new keeps = record { version = keeps.map.version; newest = keeps.newest }

  pub versions_in_turn : (old mid new : Layers D A m) → (IsHonest old.cache → IsHonest mid.cache)
      → KeepsVersions old mid → KeepsVersions mid new → KeepsVersions old new
  versions_in_turn old mid new there a b =
      record {
        version = λ honest. b.version (there honest) ∙ a.version honest;
        newest = b.newest ∙ a.newest;
      }

  -- and a change that was not made leaves the file at its version
  pub leaves_as_was : {T E : Type 0} {made : Version} (old new : Layers D A m) (e : E) (result : Result T E)
      → IsErrAnd result (λ why. why ≡ e) → KeepsVersions old new → LeavesVersion old new made result
  leaves_as_was old new e (Ok x) is keeps = elim is [ ]
  leaves_as_was old new e (Err why) is keeps =
      record { done = λ honest. tt; undone = keeps.version; newest = keeps.newest }

  pub kept_table : (old new : PageCache D A m) (records : List Record) (t : Table) → IsHonest old
      → KeepsMap old new → Holds (pages old) (next_of old) (version_of old) records t
      → Holds (pages new) (next_of new) (version_of new) records t
  kept_table old new records t honest keeps h =
      same_pages_hold (pages old) (pages new) (next_of old) (next_of new) records t (keeps.pages_stay honest)
      keeps.next (keeps.version honest) h

  pub kept_catalog : (old new : PageCache D A m) (records : List Record) → IsHonest old → KeepsMap old new
      → catalog_in (pages old) ≡ Some records → catalog_in (pages new) ≡ Some records
  kept_catalog old new records honest keeps h = ap (option_and_then records_at) (keeps.pages_stay honest 2)
      ∙ h

  -- a store whose pages stay is sound with the same table
  pub sound_kept : (old new : Layers D A m) (t : Table) → KeepsMap old.cache new.cache
      → new.records ≡ old.records → new.object_count ≡ old.object_count
      → (new.written ≡ true → old.written ≡ true) → IsSound old t → IsSound new t
  sound_kept old new t keeps records count written sound = record {
    map = keeps.sound.0 sound.map;
    holds = subst
        (λ (rs : _). Holds (pages new.cache) (next_of new.cache) (version_of new.cache) (records_of rs) t)
        (sym records)
        (kept_table old.cache new.cache (records_of old.records) t sound.map.honest keeps sound.holds);
    counted = count ∙ sound.counted;
    within = subst (λ (n : ℕ). n ≤ most_objects) (sym count) sound.within;
    catalog =
        λ w. subst (λ (rs : _). catalog_in (pages new.cache) ≡ Some (records_of rs)) (sym records)
        (kept_catalog old.cache new.cache (records_of old.records) sound.map.honest keeps
        (sound.catalog (written w)));
  }

  -- one whose page of the catalog was written, or may hold any bytes, too
  pub sound_written : (old : Layers D A m) (begun : PageCache D A m) (new : Layers D A m) (t : Table)
      → IsSound old t → KeepsMap old.cache begun → SameBut 2 (pages begun) (pages new.cache)
      → IsLive new.cache 2 → IsPageMap new.cache
      → next_of new.cache ≡ next_of begun → version_of new.cache ≡ version_of begun → new.records ≡ old.records → new.object_count ≡ old.object_count
      → (new.written ≡ true → catalog_in (pages new.cache) ≡ Some (records_of old.records)) → IsSound new t
  sound_written old begun new t sound keeps same live map next version records count spelled =
      let held = kept_table old.cache begun (records_of old.records) t sound.map.honest keeps sound.holds in
      let written =
      catalog_changed (pages begun) (pages new.cache) (next_of begun) (records_of old.records) t same
      live held in
      record {
        map = map;
        holds = subst
            (λ (rs : _). Holds (pages new.cache) (next_of new.cache) (version_of new.cache) (records_of rs) t)
            (sym records)
            (same_pages_hold (pages new.cache) (pages new.cache) (next_of begun) (next_of new.cache)
            (records_of old.records) t (λ n. refl) next version written);
        counted = count ∙ sound.counted;
        within = subst (λ (n : ℕ). n ≤ most_objects) (sym count) sound.within;
        catalog =
            λ w. subst (λ (rs : _). catalog_in (pages new.cache) ≡ Some (records_of rs)) (sym records)
            (spelled w);
      }
