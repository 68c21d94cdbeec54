-- The lines of the records' layers are those of the table.
use Rattle.std.proofs.Common.{◌≡◌, ◌∙◌, map, flat_map, refl, sym, ap, subst, inl, inr}
use Rattle.block_device.specs.Device.{HasRisen}
use Rattle.catalog_page.specs.Layout.{record_of}
use Rattle.page_cache.specs.Cache.{device_of}
use Rattle.plain_table.specs.Listings.{all_lines, dump_lines}
use Rattle.plain_table.specs.Step.Answer.{Dumped}
use Rattle.plain_table.specs.declared.refusal.Refusal.{Refusal}
use Rattle.store_law.specs.Lawful.{IsFault}
use Rattle.live_layers.specs.Layers.{row_of}
use Rattle.live_layers.specs.Listing.{lines_of}
use Rattle.live_layers.proofs.AskLemmas.{device_refuses, risen_of}
use Rattle.live_layers.proofs.KeepLemmas.{sound_kept}
use Rattle.live_layers.proofs.QuestionLemmas.{asks_and_answers, asks_and_fails}
use Rattle.live_layers.proofs.RefusalLemmas.{fault_of_none}
use Rattle.live_layers.proofs.layers.Layers.dump.Goals as goal

pub returns-in-Ok-clause-answered : goal.returns-in-Ok-clause-answered
returns-in-Ok-clause-answered g c = λ t sound.
    let hs = sound.holds.layers in
    let rows : map row_of hs ≡ map record_of c.deref.result.now = sound.holds.rows
    ∙ sym (ap (map record_of) c.deref.ensures.0) in
    let lines : lines_of c.in-Ok.rows.items ≡ all_lines t =
    c.in-Ok.ensures.rows sound.map.honest hs rows sound.holds.stand
    ∙ ap (flat_map dump_lines) sound.holds.table in (
      sound_kept c.args.self.now _ t c.dump_layers.ensures.asks.map refl refl (λ w. w) sound,
      inl (ap Dumped lines),
    )

pub returns-in-Err-clause-answered : goal.returns-in-Err-clause-answered
returns-in-Err-clause-answered g c = λ t sound.
    let old = c.args.self.now.cache in
    let new = c.dump_layers.new.cache in
    let hs = sound.holds.layers in
    let rows : map row_of hs ≡ map record_of c.deref.result.now = sound.holds.rows
    ∙ sym (ap (map record_of) c.deref.ensures.0) in
    let rose = HasRisen (g.B.BlockDevice.faults (device_of old)) (g.B.BlockDevice.faults (device_of new)) in (
      sound_kept c.args.self.now _ t c.dump_layers.ensures.asks.map refl refl (λ w. w) sound,
      inr (subst (λ (x : Refusal). IsFault rose x) (sym c.as_refusal.ensures)
          (device_refuses rose c.in-Err.fault
          (c.in-Err.ensures.stands sound.map.honest hs rows sound.holds.stand)
          (risen_of _ _ c.in-Err.fault c.in-Err.ensures.asks.faults))),
    )

pub returns-in-Ok-clause-keeps : goal.returns-in-Ok-clause-keeps
returns-in-Ok-clause-keeps g c =
    asks_and_answers c.args.self.now _ (refl, refl, refl, refl) c.in-Ok.ensures.asks

pub returns-in-Err-clause-keeps : goal.returns-in-Err-clause-keeps
returns-in-Err-clause-keeps g c =
    asks_and_fails c.args.self.now _ c.in-Err.fault c.as_refusal.ensures (refl, refl, refl, refl)
    c.in-Err.ensures.asks c.in-Err.ensures.other_faults

pub returns-in-Err-clause-of_none : goal.returns-in-Err-clause-of_none
returns-in-Err-clause-of_none g c = fault_of_none c.in-Err.fault _ c.as_refusal.ensures
