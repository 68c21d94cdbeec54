-- A layer that stands is not refused, and one that was checked stands, with a table that the file may have.
use Rattle.std.proofs.Common.{◌≡◌, ◌∙◌, ◌⊎◌, ℕ, List, ◌++◌, None, ap, inl, inr, refl, subst, sym, ⊎_elim}
use Rattle.catalog_page.specs.Layout.{record_of}
use Rattle.id_table.specs.Table.{IdsStand}
use Rattle.layer_pages.specs.Checked.{ComesInLayer}
use Rattle.node_page.specs.Standing.{PageMap}
use Rattle.page_cache.specs.Cache.{given, pages, version_of}
use Rattle.layer_pages.proofs.CheckLemmas.{quiet_asks}
use Rattle.page_cache.specs.Calls.{asks_and_refuses, asks_in_turn}
use Rattle.page_file.specs.Fault.{IsDamage, IsOfDevice}
use Rattle.page_file.specs.declared.fault.Fault.TheVariants.{Damaged, Memory}
use Rattle.live_layers.specs.Layers.{root_of}
use Rattle.live_layers.proofs.CheckLemmas.{adds_layer, count_of_row, layer_of_row, names_no_page, one_number}
use Rattle.live_layers.proofs.Results.{the_err}
use Rattle.live_layers.proofs.layers.checking.lists.list_pages.Goals as goal

pub returns-in_err-list-clause-stands : goal.returns-in_err-list-clause-stands
returns-in_err-list-clause-stands g c = λ honest h row stands allowed.
    let r = record_of c.args.layer.now in
    let old = pages c.args.cache.now in
    the_err c.from_residual.result c.in_err-list.field-0.0 IsOfDevice c.from_residual.ensures.1
    (c.in_err-list.ensures.stands honest h.pages h.layer.objects
    (layer_of_row g.row.D old r h row c.requires.axes stands)
    (count_of_row g.row.D old r h row c.requires.axes stands))

-- the table is found again behind the check of the layer
pub returns-in_err-allow_table-clause-stands : goal.returns-in_err-allow_table-clause-stands
returns-in_err-allow_table-clause-stands g c = λ honest h row stands allowed.
    let r = record_of c.args.layer.now in
    let asked = c.in_ok-list.ensures.asks in
    let at = layer_of_row g.row.D (pages c.args.cache.now) r h row c.requires.axes stands in
    the_err c.from_residual-in_err-allow_table.result c.in_err-allow_table.field-0.0 IsOfDevice
    c.from_residual-in_err-allow_table.ensures.1
    (c.in_err-allow_table.ensures.stands (asked.gate.honest.0 honest) h.pages.ids at.ids_root_is
    (subst (λ (p : PageMap). IdsStand g.row.D p h.pages.ids) (λ i n. sym (asked.map.pages_stay honest n) i)
    at.ids) (λ two. allowed (sym (asked.map.version honest) ∙ two)))

pub returns-in_err-allow_table-clause-asks : goal.returns-in_err-allow_table-clause-asks
returns-in_err-allow_table-clause-asks g c =
    asks_and_refuses c.args.cache.now c.check.new.cache c.allow_table.new.cache
    c.in_err-allow_table.field-0.0 c.from_residual-in_err-allow_table.result
    c.from_residual-in_err-allow_table.ensures.1 c.in_ok-list.ensures.asks c.in_err-allow_table.ensures.asks

-- want of memory for the list is no refusal of a page
pub returns-in_err-extend_from_slice-clause-asks : goal.returns-in_err-extend_from_slice-clause-asks
returns-in_err-extend_from_slice-clause-asks g c =
    quiet_asks c.args.cache.now c.allow_table.new.cache c.from_residual-in_err-extend_from_slice.result
    (the_err c.from_residual-in_err-extend_from_slice.result Memory (λ f. (f ≡ Memory) ⊎ IsDamage f)
    c.from_residual-in_err-extend_from_slice.ensures.1 (inl refl))
    (asks_in_turn c.args.cache.now c.check.new.cache c.allow_table.new.cache None c.in_ok-list.ensures.asks
    c.in_ok-allow_table.ensures.asks)

pub returns-clause-asks : goal.returns-clause-asks
returns-clause-asks g c =
    asks_in_turn c.args.cache.now c.check.new.cache c.allow_table.new.cache None c.in_ok-list.ensures.asks
    c.in_ok-allow_table.ensures.asks

pub returns-clause-layer : goal.returns-clause-layer
returns-clause-layer g c = λ map.
    let asked = c.in_ok-list.ensures.asks in
    let checked = c.in_ok-list.ensures.layer map in
    let list : List ℕ = c.in_ok-list.list.items in
    let before : List ℕ = c.args.found.now.items in
    let now : List ℕ = c.extend_from_slice.new.self.items in
    let added : now ≡ before ++ c.as_slice.result.now = c.in_ok-extend_from_slice.ensures.items in
    let value : c.as_slice.result.now ≡ list = c.as_slice.ensures.value in
    adds_layer g.row.D (pages c.args.cache.now) (version_of c.args.cache.now) (record_of c.args.layer.now)
    list before now c.requires.axes checked
    (λ two. c.in_ok-allow_table.ensures.allowed (asked.gate.honest.0 map.honest) checked.layer.ids
    checked.stands.ids_root_is
    (subst (λ (p : PageMap). IdsStand g.row.D p checked.layer.ids)
    (λ i n. sym (asked.map.pages_stay map.honest n) i) checked.stands.ids)
    (asked.map.version map.honest ∙ two))
    (added ∙ ap (λ (xs : List ℕ). before ++ xs) value)

pub returns-in_err-list-clause-damage : goal.returns-in_err-list-clause-damage
returns-in_err-list-clause-damage g c = λ honest.
    let layer = c.args.layer.now in let old = given c.args.cache.now in
    let root = root_of (record_of layer) in
    the_err c.from_residual.result c.in_err-list.field-0.0 _
    c.from_residual.ensures.1
    (λ n is. subst (λ (d : ℕ). ComesInLayer d old root layer.ids_root n) (sym c.requires.axes)
    (c.in_err-list.ensures.damage honest n is))

-- and the page of a table that it may not have is the first one of a walk through it
pub returns-in_err-allow_table-clause-damage : goal.returns-in_err-allow_table-clause-damage
returns-in_err-allow_table-clause-damage g c = λ honest.
    let layer = c.args.layer.now in let old = given c.args.cache.now in
    let root = root_of (record_of layer) in
    let f = c.in_err-allow_table.field-0.0 in
    let asked = c.in_ok-list.ensures.asks in
    the_err c.from_residual-in_err-allow_table.result f
    (λ e. (n : ℕ) → e ≡ Damaged n → ComesInLayer layer.dims old root layer.ids_root n)
    c.from_residual-in_err-allow_table.ensures.1
    (λ n is. ⊎_elim (λ (of_device : IsOfDevice f). absurd (names_no_page f n of_device is))
    (λ (here : f ≡ Damaged layer.ids_root). inr (inr (inl (one_number n layer.ids_root (sym is ∙ here)))))
    (c.in_err-allow_table.ensures.damage (asked.gate.honest.0 honest)))
