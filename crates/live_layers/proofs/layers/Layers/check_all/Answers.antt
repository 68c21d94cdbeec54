-- The records, the catalog and the pages are checked in turn.
use Rattle.std.proofs.Common.{◌≡◌, ◌∙◌, ℕ, ◌+◌, ◌*◌, ◌≤◌, List, true, Some, inl, inr, length, map, ap, arith}
use Rattle.std.proofs.Common.{refl, sym, subst, ⊎_elim}
use Rattle.std.proofs.lemmas.List.{length-map}
use Rattle.catalog_page.specs.Layout.{record_of, records_of}
use Rattle.catalog_page.specs.declared.layer_record.LayerRecord.{LayerRecord}
use Rattle.node_page.specs.Parts.{IsAllOf}
use Rattle.node_page.specs.Standing.{PageMap}
use Rattle.page_cache.specs.Cache.{looks_of, next_of, pages, version_of}
use Rattle.page_cache.specs.Calls.{asks_in_turn, fault_in}
use Rattle.page_cache.specs.Laws.{the_map_is_kept_in_turn}
use Rattle.live_layers.specs.Catalog.{is_good_catalog, objects_named}
use Rattle.page_file.specs.Fault.{IsOfDevice}
use Rattle.page_file.specs.declared.fault.Fault.TheVariants.{Damaged}
use Rattle.live_layers.specs.Checked.{FindsLayers, IsFoundDamaged, IsNamedDamaged}
use Rattle.live_layers.specs.Layers.{in_use}
use Rattle.live_layers.proofs.CheckLemmas.{allowed_in, names_no_page, one_number, stand_in}
use Rattle.live_layers.proofs.FoundLemmas.{found_in, records_pass, sound_found}
use Rattle.live_layers.proofs.KeepLemmas.{sound_kept}
use Rattle.live_layers.proofs.Results.{if_err, on_ok, the_err}
use Rattle.live_layers.proofs.layers.Layers.check_all.Goals as goal

pub returns-then-not-are_good-clause-stands : goal.returns-then-not-are_good-clause-stands
returns-then-not-are_good-clause-stands g c = λ t sound.
    let pass =
    records_pass c.args.self.now t c.next_number.result c.deref.result.now sound c.next_number.ensures
    c.deref.ensures.0 in
    let yes = c.are_good.ensures.found pass.0 pass.1 in
    let no = c.if-not-are_good.true in
    absurd (cc)

pub returns-in_err-check_catalog-clause-sound : goal.returns-in_err-check_catalog-clause-sound
returns-in_err-check_catalog-clause-sound g c =
    λ t sound. sound_kept c.args.self.now _ t c.check_catalog.ensures.asks.map refl refl (λ w. w) sound

pub returns-clause-asks : goal.returns-clause-asks
returns-clause-asks g c =
    asks_in_turn c.args.self.now.cache c.check_catalog.new.cache c.check_pages.new.cache
    (fault_in c.check_pages.result) c.in_ok-check_catalog.ensures.asks c.check_pages.ensures.asks

pub returns-clause-found : goal.returns-clause-found
returns-clause-found g c = λ honest.
    let kept = c.args.self.now in
    let old = kept.cache in
    let mid = c.check_catalog.new.cache in
    let asked = c.in_ok-check_catalog.ensures.asks in
    let records = records_of kept.records in
    let yes = c.if-not-are_good.false in
    let good : is_good_catalog (next_of old) records ≡ true =
    sym (λ i. is_good_catalog (c.next_number.ensures i) (map record_of (c.deref.ensures.0 i)))
    ∙ c.are_good.ensures.good yes in
    let count : kept.object_count ≡ objects_named records = c.are_good.ensures.counted yes
    ∙ (λ i. objects_named (map record_of (c.deref.ensures.0 i))) in
    let spelled = λ (w : kept.written ≡ true). c.in_ok-check_catalog.ensures.spelled honest w
    ∙ (λ i. Some (map record_of (c.deref-2.ensures.0 i))) in
    let keeps =
    the_map_is_kept_in_turn old mid c.check_pages.new.cache asked.gate.honest.0 asked.map
    c.check_pages.ensures.asks.map in
    on_ok c.check_pages.result
    (λ found.
    let there =
    subst (λ (xs : List LayerRecord). FindsLayers (pages mid) (version_of mid) (map record_of xs))
    c.deref-3.ensures.0 found.1 in
    let sound =
    sound_found kept (asked.map.sound.1 found.0) good count spelled
    (found_in old mid records honest asked.map there) in
    (sound.0, sound_kept kept _ sound.0 keeps refl refl (λ w. w) sound.1))
    (c.check_pages.ensures.found (asked.gate.honest.0 honest))

pub returns-clause-stands : goal.returns-clause-stands
returns-clause-stands g c = λ t sound.
    let old = c.args.self.now.cache in
    let mid = c.check_catalog.new.cache in
    let asked = c.in_ok-check_catalog.ensures.asks in
    let hs = sound.holds.layers in
    c.check_pages.ensures.stands (asked.map.sound.0 sound.map) hs
    (sound.holds.rows ∙ sym (λ i. map record_of (c.deref-3.ensures.0 i)))
    (stand_in (pages old) (pages mid) hs (asked.map.pages_stay sound.map.honest) sound.holds.stand)
    (allowed_in (version_of old) (version_of mid) hs (asked.map.version sound.map.honest) sound.holds.allowed)
    (subst (λ (p : PageMap). IsAllOf p (in_use hs)) (λ i n. sym (asked.map.pages_stay sound.map.honest n) i)
    sound.holds.used)

pub returns-clause-sound : goal.returns-clause-sound
returns-clause-sound g c = λ t sound.
    let old = c.args.self.now.cache in
    let asked = c.in_ok-check_catalog.ensures.asks in
    let keeps =
    the_map_is_kept_in_turn old c.check_catalog.new.cache c.check_pages.new.cache asked.gate.honest.0
    asked.map c.check_pages.ensures.asks.map in
    sound_kept c.args.self.now _ t keeps refl refl (λ w. w) sound

pub returns-in_err-check_catalog-clause-damage : goal.returns-in_err-check_catalog-clause-damage
returns-in_err-check_catalog-clause-damage g c = λ honest.
    let f = c.in_err-check_catalog.field-0.0 in
    the_err c.from_residual.result f (λ e. (n : ℕ) → e ≡ Damaged n → IsNamedDamaged c.args.self.now n)
    c.from_residual.ensures.1
    (λ n is. ⊎_elim (λ (of_device : IsOfDevice f). absurd (names_no_page f n of_device is))
    (λ (catalog : f ≡ Damaged 2). inl (one_number n 2 (sym is ∙ catalog)))
    (c.in_err-check_catalog.ensures.damage honest))

pub returns-clause-damage : goal.returns-clause-damage
returns-clause-damage g c = λ honest.
    let kept = c.args.self.now in
    let mid = c.check_catalog.new.cache in
    let asked = c.in_ok-check_catalog.ensures.asks in
    if_err c.check_pages.result
    (λ f damage. λ n is. inr (
      mid,
      asked.map,
      subst (λ (xs : List LayerRecord). IsFoundDamaged mid (map record_of xs) n) c.deref-3.ensures.0
          (damage n is),
    )) (c.check_pages.ensures.damage (asked.gate.honest.0 honest))

pub returns-clause-looks : goal.returns-clause-looks
returns-clause-looks g c =
    let old = c.args.self.now.cache in
    let mid = c.check_catalog.new.cache in
    let new = c.check_pages.new.cache in
    let items = c.args.self.now.records.items in
    let many : length c.deref-3.result.now ≡ length (map record_of items) =
    ap length c.deref-3.ensures.0 ∙ sym (length-map items record_of) in
    let bound =
    subst (λ (n : ℕ). looks_of new ≤ looks_of mid + 2 * (n * next_of mid) + 2 * n) many
    c.check_pages.ensures.looks in
    let bounded =
    subst (λ (k : ℕ). looks_of new ≤ looks_of mid + 2 * (length (map record_of items) * k)
    + 2 * length (map record_of items)) c.in_ok-check_catalog.ensures.asks.map.next bound in
    omega (arith, bounded, c.check_catalog.ensures.looks)

pub returns-clause-trees : goal.returns-clause-trees
returns-clause-trees g c =
    let asked = c.in_ok-check_catalog.ensures.asks in
    record {
      map = the_map_is_kept_in_turn c.args.self.now.cache c.check_catalog.new.cache c.check_pages.new.cache
          asked.gate.honest.0 asked.map c.check_pages.ensures.asks.map;
      records = refl;
      written = λ was. was;
      newest = refl;
    }
