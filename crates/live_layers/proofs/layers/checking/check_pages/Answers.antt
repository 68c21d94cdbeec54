-- What was listed are the free pages, the catalog's and those of the layers.
use Rattle.std.proofs.Common.{◌≡◌, ◌∙◌, ℕ, List, [], ◌∷◌, ◌++◌, None, map, ap, inl, inr, subst, sym}
use Rattle.catalog_page.specs.Layout.{record_of}
use Rattle.layer_pages.proofs.CheckLemmas.{quiet_asks}
use Rattle.page_cache.specs.Cache.{free_of, given, next_of, pages, version_of}
use Rattle.page_cache.specs.Calls.{asks_and_refuses, asks_in_turn}
use Rattle.page_file.specs.Fault.{IsOfDevice}
use Rattle.page_file.specs.declared.fault.Fault.TheVariants.{Damaged}
use Rattle.live_layers.specs.Checked.{AddsLayers, IsFoundDamaged, IsOdd}
use Rattle.live_layers.proofs.CheckLemmas.{all_in, allowed_in, chain_breaks, comes_in_all, one_number, stand_in}
use Rattle.live_layers.proofs.Results.{if_err, no_err, on_ok, the_err}
use Rattle.live_layers.proofs.UsedLemmas.{layers_found, pages_listed}
use Rattle.live_layers.proofs.layers.checking.check_pages.Goals as goal

pub returns-in_err-list_layers-clause-stands : goal.returns-in_err-list_layers-clause-stands
returns-in_err-list_layers-clause-stands g c = λ sound hs rows stand allowed used.
    let asked = c.in_ok-found.ensures.asks in
    the_err c.from_residual-in_err-list_layers.result c.in_err-list_layers.field-0.0 IsOfDevice
    c.from_residual-in_err-list_layers.ensures.1
    (c.in_err-list_layers.ensures.stands (asked.gate.honest.0 sound.honest) hs rows
    (stand_in (pages c.args.cache.now) (pages c.free_pages.new.self) hs
    (asked.map.pages_stay sound.honest) stand)
    (allowed_in (version_of c.args.cache.now) (version_of c.free_pages.new.self) hs
    (asked.map.version sound.honest) allowed))

pub returns-clause-asks : goal.returns-clause-asks
returns-clause-asks g c =
    quiet_asks c.args.cache.now c.list_layers.new.cache c.each_once.result
    (if_err c.each_once.result (λ f d. inr (d.0, d.1)) c.each_once.ensures.damage)
    (asks_in_turn c.args.cache.now c.free_pages.new.self c.list_layers.new.cache None
    c.in_ok-found.ensures.asks c.in_ok-list_layers.ensures.asks)

pub returns-clause-found : goal.returns-clause-found
returns-clause-found g c = λ honest.
    let old = c.args.cache.now in
    let asked = c.in_ok-found.ensures.asks in
    let sound = c.in_ok-found.ensures.sound honest in
    let records = map record_of c.args.records.now in
    let before : List ℕ = c.push.new.self.items in
    let pushed : before ≡ c.in_ok-found.found.items ++ 2 ∷ [] = c.in_ok-push.ensures.items in
    let begun : before ≡ free_of old ++ 2 ∷ [] = pushed
    ∙ ap (λ (xs : List ℕ). xs ++ 2 ∷ []) (c.in_ok-found.ensures.pages honest) in
    let adds =
    all_in (pages old) (pages c.free_pages.new.self) (version_of old) (version_of c.free_pages.new.self) records
    before c.list_layers.new.found.items (asked.map.pages_stay honest) (asked.map.version honest) (c.in_ok-list_layers.ensures.layers (asked.map.sound.0 sound)) in
    let number = c.next_number.ensures ∙ c.in_ok-list_layers.ensures.asks.map.next ∙ asked.map.next in
    on_ok c.each_once.result
    (λ each. (
      sound,
      layers_found old sound records before c.list_layers.new.found.items c.as_mut_slice.result.now
          c.next_number.result begun adds c.as_mut_slice.ensures.value number each,
    )) c.each_once.ensures.once

pub returns-clause-stands : goal.returns-clause-stands
returns-clause-stands g c = λ sound hs rows stand allowed used.
    let old = c.args.cache.now in
    let asked = c.in_ok-found.ensures.asks in
    let records = map record_of c.args.records.now in
    let before : List ℕ = c.push.new.self.items in
    let pushed : before ≡ c.in_ok-found.found.items ++ 2 ∷ [] = c.in_ok-push.ensures.items in
    let begun : before ≡ free_of old ++ 2 ∷ [] = pushed
    ∙ ap (λ (xs : List ℕ). xs ++ 2 ∷ []) (c.in_ok-found.ensures.pages sound.honest) in
    let adds =
    all_in (pages old) (pages c.free_pages.new.self) (version_of old) (version_of c.free_pages.new.self) records
    before c.list_layers.new.found.items (asked.map.pages_stay sound.honest)
    (asked.map.version sound.honest) (c.in_ok-list_layers.ensures.layers (asked.map.sound.0 sound)) in
    let number = c.next_number.ensures ∙ c.in_ok-list_layers.ensures.asks.map.next ∙ asked.map.next in
    no_err c.each_once.result IsOfDevice
    (c.each_once.ensures.passes
    (pages_listed old sound records before c.list_layers.new.found.items c.as_mut_slice.result.now
    c.next_number.result begun adds c.as_mut_slice.ensures.value number hs rows stand used))

pub returns-in_err-list_layers-clause-asks : goal.returns-in_err-list_layers-clause-asks
returns-in_err-list_layers-clause-asks g c =
    asks_and_refuses c.args.cache.now c.free_pages.new.self c.list_layers.new.cache
    c.in_err-list_layers.field-0.0 c.from_residual-in_err-list_layers.result
    c.from_residual-in_err-list_layers.ensures.1
    c.in_ok-found.ensures.asks c.in_err-list_layers.ensures.asks

pub returns-in_err-found-clause-damage : goal.returns-in_err-found-clause-damage
returns-in_err-found-clause-damage g c = λ honest.
    let old = c.args.cache.now in let records = map record_of c.args.records.now in
    let f = c.in_err-found.field-0.0 in
    the_err c.from_residual.result f (λ e. (n : ℕ) → e ≡ Damaged n → IsFoundDamaged old records n)
    c.from_residual.ensures.1
    (λ n is. chain_breaks old records f n is (c.in_err-found.ensures.damaged honest))

pub returns-in_err-list_layers-clause-damage : goal.returns-in_err-list_layers-clause-damage
returns-in_err-list_layers-clause-damage g c = λ honest.
    let old = c.args.cache.now in let records = map record_of c.args.records.now in
    let asked = c.in_ok-found.ensures.asks in
    the_err c.from_residual-in_err-list_layers.result c.in_err-list_layers.field-0.0
    (λ e. (n : ℕ) → e ≡ Damaged n → IsFoundDamaged old records n)
    c.from_residual-in_err-list_layers.ensures.1
    (λ n is. inr (inl (comes_in_all (given c.free_pages.new.self) (given old) records n
    (λ k. asked.map.given_stay honest k)
    (c.in_err-list_layers.ensures.damage (asked.gate.honest.0 honest) n is))))

pub returns-clause-damage : goal.returns-clause-damage
returns-clause-damage g c = λ honest.
    let old = c.args.cache.now in
    let asked = c.in_ok-found.ensures.asks in
    let sound = c.in_ok-found.ensures.sound honest in
    let records = map record_of c.args.records.now in
    let before : List ℕ = c.push.new.self.items in
    let pushed : before ≡ c.in_ok-found.found.items ++ 2 ∷ [] = c.in_ok-push.ensures.items in
    let begun : before ≡ free_of old ++ 2 ∷ [] = pushed
    ∙ ap (λ (xs : List ℕ). xs ++ 2 ∷ []) (c.in_ok-found.ensures.pages honest) in
    let found = c.list_layers.new.found.items in
    let adds : AddsLayers (pages old) (version_of old) records (free_of old ++ 2 ∷ []) found =
    subst (λ (b : List ℕ). AddsLayers (pages old) (version_of old) records b found) begun
    (all_in (pages old) (pages c.free_pages.new.self) (version_of old) (version_of c.free_pages.new.self)
    records before found (asked.map.pages_stay honest) (asked.map.version honest) (c.in_ok-list_layers.ensures.layers (asked.map.sound.0 sound))) in
    let number = c.next_number.ensures ∙ c.in_ok-list_layers.ensures.asks.map.next ∙ asked.map.next in
    if_err c.each_once.result
    (λ f odd. λ n is. inr (inr (
      found,
      adds,
      subst (λ (k : ℕ). IsOdd (next_of old) found k) (one_number odd.0 n (sym odd.1 ∙ is))
          (subst (λ (list : List ℕ). IsOdd (next_of old) list odd.0) c.as_mut_slice.ensures.value
          (subst (λ (k : ℕ). IsOdd k c.as_mut_slice.result.now odd.0) number odd.2)),
    )))
    c.each_once.ensures.damage
