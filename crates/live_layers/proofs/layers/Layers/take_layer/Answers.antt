-- The pages are free, and the record is out; or the change was refused, or broke off.
use Rattle.std.proofs.Common.{Err, length, ap, arith, inl, inr, refl, subst, sym, ⊎_elim}
use Rattle.catalog_page.specs.Layout.{records_of}
use Rattle.plain_table.specs.Table.{layer_at}
use Rattle.page_file.specs.Fault.{IsOfDevice}
use Rattle.live_layers.specs.declared.broken.Broken.{Broken}
use Rattle.live_layers.proofs.AddLemmas.{stands_at}
use Rattle.live_layers.proofs.BegunLemmas.{broke_behind, made_behind, not_opened}
use Rattle.live_layers.proofs.DropLemmas.{keeps_before, one_less_may_be, sound_less, taken_out, trees_left}
use Rattle.live_layers.proofs.ReplaceLemmas.{reading}
use Rattle.live_layers.proofs.layers.Layers.take_layer.Goals as goal

pub returns-in_err-begin-clause-begins : goal.returns-in_err-begin-clause-begins
returns-in_err-begin-clause-begins g c =
    not_opened c.args.self.now c.begin.new.self c.in_err-begin.field-0.0 c.from_residual.result
    c.from_residual.ensures.1 c.in_err-begin.ensures.begins c.begin.ensures.sound c.begin.ensures.keeps

pub returns-in-Err-clause-begins : goal.returns-in-Err-clause-begins
returns-in-Err-clause-begins g c =
    broke_behind c.args.self.now c.begin.new.self _ c.in-Err.fault
    (Err c.broken_by.result) c.broken_by.ensures
    (refl, refl, refl, refl) c.in_ok-begin.ensures.begins c.begin.ensures.sound c.begin.ensures.keeps
    c.in-Err.ensures.changes
    (⊎_elim inl (λ damaged. inr (inr damaged)) c.in-Err.ensures.other_faults)

pub returns-in-Err-clause-faults : goal.returns-in-Err-clause-faults
returns-in-Err-clause-faults g c = λ t name sound finds.
    let kept = c.begin.new.self in
    let before = c.begin.ensures.sound t sound in
    let located = c.locate-located.result in
    let dims = (c.locate-located.ensures.located t name before finds).dims in
    let at =
    stands_at kept t name c.args.place before finds located c.locate-located.ensures.by_record
    located.dims dims in
    subst (λ (b : Broken). IsOfDevice b.cause) (sym c.broken_by.ensures)
    (c.in-Err.ensures.faults before.map (reading kept t name c.args.place before finds).pages
    located.fanout.most (layer_at t name).objects at)

pub invariant_of-self-2 : goal.invariant_of-self-2
invariant_of-self-2 g c =
    let kept = c.begin.new.self in
    let records = taken_out kept.records.items c.remove.new.self.items c.args.place c.remove.ensures.items in
    record {
      are_layers =
          one_less_may_be (records_of kept.records) (records_of c.remove.new.self) c.args.place
          (omega (arith, ap length c.begin.ensures.keeps.records, c.requires.within)) records kept.are_layers;
    }

pub returns-clause-taken : goal.returns-clause-taken
returns-clause-taken g c = λ t name sound finds.
    let kept = c.begin.new.self in
    let before = c.begin.ensures.sound t sound in
    let located = c.locate-located.result in
    let dims = (c.locate-located.ensures.located t name before finds).dims in
    let at =
    stands_at kept t name c.args.place before finds located c.locate-located.ensures.by_record
    located.dims dims in
    let l = (reading kept t name c.args.place before finds).pages in
    let objects = (layer_at t name).objects in
    let records = taken_out kept.records.items c.remove.new.self.items c.args.place c.remove.ensures.items in
    sound_less kept _ t name c.args.place before finds
    (c.in-Ok.ensures.freed before.map l located.fanout.most objects at)
    c.in-Ok.ensures.changes.next
    (c.in-Ok.ensures.changes.version before.map.honest) records c.count_at-count.result
    c.count_at-count.ensures
    (c.in-Ok.ensures.sound before.map l located.fanout.most objects at) c.saturating_sub-self.ensures
    refl

pub returns-clause-others : goal.returns-clause-others
returns-clause-others g c = λ t name sound finds.
    let kept = c.begin.new.self in
    let before = c.begin.ensures.sound t sound in
    let located = c.locate-located.result in
    let dims = (c.locate-located.ensures.located t name before finds).dims in
    let at =
    stands_at kept t name c.args.place before finds located c.locate-located.ensures.by_record
    located.dims dims in
    let l = (reading kept t name c.args.place before finds).pages in
    let records = taken_out kept.records.items c.remove.new.self.items c.args.place c.remove.ensures.items in
    keeps_before c.args.self.now kept _ name (c.begin.ensures.keeps.map.pages_stay sound.map.honest)
    c.begin.ensures.keeps.records
    (trees_left kept _ t name c.args.place before finds
    (c.in-Ok.ensures.freed before.map l located.fanout.most (layer_at t name).objects at)
    c.in-Ok.ensures.changes.next
    (c.in-Ok.ensures.changes.version before.map.honest) records)

pub returns-clause-begins : goal.returns-clause-begins
returns-clause-begins g c =
    made_behind c.args.self.now c.begin.new.self _ c.free_pages.new.cache refl c.in_ok-begin.ensures.begins
    c.begin.ensures.keeps c.in-Ok.ensures.changes refl
