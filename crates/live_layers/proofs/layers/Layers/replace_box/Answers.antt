-- The object has the other box in the tree and in the table, and the record says so; or the change was
-- refused, or broke off.
use Rattle.std.proofs.Common.{Err, refl, inl, arith, subst, sym}
use Rattle.plain_table.specs.Table.{layer_at}
use Rattle.layer_pages.specs.Changes.{most_replaced_pages}
use Rattle.page_file.specs.Fault.{IsOfDevice}
use Rattle.live_layers.specs.declared.broken.Broken.{Broken}
use Rattle.live_layers.proofs.CountLemmas.{no_page_wanted}
use Rattle.live_layers.specs.Rules.{HasMoved}
use Rattle.live_layers.proofs.AddLemmas.{stands_at}
use Rattle.live_layers.proofs.BegunLemmas.{broke_behind, made_behind, no_memory, not_opened}
use Rattle.live_layers.proofs.ReplaceLemmas.{changes_before, reading}
use Rattle.live_layers.proofs.MoveLemmas.{sound_moved, tree_moved}
use Rattle.live_layers.proofs.Results.{the_err}
use Rattle.live_layers.proofs.SpotLemmas.{spot_begun}
use Rattle.live_layers.proofs.layers.Layers.replace_box.Goals as goal

pub returns-in_err-kept-clause-begins : goal.returns-in_err-kept-clause-begins
returns-in_err-kept-clause-begins g c =
    no_memory c.args.self.now c.in_err-kept.field-0.0 c.from_residual.result
    c.from_residual.ensures.1 c.in_err-kept.ensures g.met.B.BlockDevice.only_now

pub returns-in_err-begin-clause-begins : goal.returns-in_err-begin-clause-begins
returns-in_err-begin-clause-begins g c =
    not_opened c.args.self.now c.begin.new.self c.in_err-begin.field-0.0 c.from_residual-in_err-begin.result
    c.from_residual-in_err-begin.ensures.1 c.in_err-begin.ensures.begins c.begin.ensures.sound
    c.begin.ensures.keeps

pub returns-in-Err-clause-begins : goal.returns-in-Err-clause-begins
returns-in-Err-clause-begins g c =
    broke_behind c.args.self.now c.begin.new.self _ c.in-Err.fault
    (Err c.broken_by.result) c.broken_by.ensures (refl, refl, refl, refl)
    c.in_ok-begin.ensures.begins c.begin.ensures.sound c.begin.ensures.keeps
    c.in-Err.ensures.changes c.in-Err.ensures.other_faults

pub returns-in-Err-clause-faults : goal.returns-in-Err-clause-faults
returns-in-Err-clause-faults g c = λ t name sound finds dims there spot.
    let kept = c.begin.new.self in
    let before = c.begin.ensures.sound t sound in
    let located = c.locate-located.result in
    let by = c.locate-located.ensures.by_record in
    let at = stands_at kept t name c.args.place before finds located by g.row.D dims in
    let here = spot_begun g.row.D c.args.self.now kept
    (c.begin.ensures.keeps.map.pages_stay sound.map.honest) c.begin.ensures.keeps.records c.args.place
    c.args.object.now.entry.reference c.args.object.now.spot spot located by in
    subst (λ (b : Broken). IsOfDevice b.cause) (sym c.broken_by.ensures)
    (no_page_wanted kept t before c.locate-located.ensures.few most_replaced_pages c.replace.new.cache _
    (omega (arith)) c.replace.ensures.grows
    (c.in-Err.ensures.faults before.map (reading kept t name c.args.place before finds).pages
    (layer_at t name).objects at here there))

pub returns-clause-replaced : goal.returns-clause-replaced
returns-clause-replaced g c = λ t name sound finds dims there spot.
    let kept = c.begin.new.self in
    let before = c.begin.ensures.sound t sound in
    let located = c.locate-located.result in
    let by = c.locate-located.ensures.by_record in
    let at = stands_at kept t name c.args.place before finds located by g.row.D dims in
    let here = spot_begun g.row.D c.args.self.now kept
    (c.begin.ensures.keeps.map.pages_stay sound.map.honest) c.begin.ensures.keeps.records c.args.place
    c.args.object.now.entry.reference c.args.object.now.spot spot located by in
    let l = (reading kept t name c.args.place before finds).pages in
    let objects = (layer_at t name).objects in
    sound_moved kept t name c.args.place before finds located by g.row.D dims c.args.object.now.entry.reference
    (c.args.object.now.entry.bounds, c.args.object.now.entry.tag) c.args.bounds.now there c.replace.new.cache c.in-Ok.root
    (c.in-Ok.ensures.replaced before.map l objects at here there) _ c.note.ensures.cache
    c.count_at-count.result c.count_at-count.ensures c.in-Ok.ensures.root
    c.in-Ok.ensures.changes.next
    (c.in-Ok.ensures.changes.version before.map.honest) c.note.ensures.records
    (c.in-Ok.ensures.sound before.map l objects at here there) c.note.ensures.count c.note.ensures.written

pub returns-clause-tree : goal.returns-clause-tree
returns-clause-tree g c = λ t name sound finds dims there spot.
    let kept = c.begin.new.self in
    let before = c.begin.ensures.sound t sound in
    let located = c.locate-located.result in
    let by = c.locate-located.ensures.by_record in
    let at = stands_at kept t name c.args.place before finds located by g.row.D dims in
    let here = spot_begun g.row.D c.args.self.now kept
    (c.begin.ensures.keeps.map.pages_stay sound.map.honest) c.begin.ensures.keeps.records c.args.place
    c.args.object.now.entry.reference c.args.object.now.spot spot located by in
    let l = (reading kept t name c.args.place before finds).pages in
    changes_before c.args.self.now kept _ name (HasMoved (layer_at t name) c.args.object.now.entry.reference c.args.bounds.now)
    (c.begin.ensures.keeps.map.pages_stay sound.map.honest) c.begin.ensures.keeps.records
    (tree_moved kept t name c.args.place before finds located by g.row.D dims c.args.object.now.entry.reference
    (c.args.object.now.entry.bounds, c.args.object.now.entry.tag) c.args.bounds.now there c.replace.new.cache c.in-Ok.root
    (c.in-Ok.ensures.replaced before.map l (layer_at t name).objects at here there) _ c.note.ensures.cache
    c.count_at-count.result c.count_at-count.ensures c.in-Ok.ensures.root
    c.in-Ok.ensures.changes.next
    (c.in-Ok.ensures.changes.version before.map.honest) c.note.ensures.records)

pub returns-clause-begins : goal.returns-clause-begins
returns-clause-begins g c =
    made_behind c.args.self.now c.begin.new.self _ c.replace.new.cache c.note.ensures.cache
    c.in_ok-begin.ensures.begins c.begin.ensures.keeps c.in-Ok.ensures.changes c.note.ensures.newest

pub returns-in_err-kept-clause-faults : goal.returns-in_err-kept-clause-faults
returns-in_err-kept-clause-faults g c =
    λ t name sound finds dims has spot. the_err c.from_residual.result _ _
    c.from_residual.ensures.1 (inl c.in_err-kept.ensures)

pub returns-in_err-begin-clause-faults : goal.returns-in_err-begin-clause-faults
returns-in_err-begin-clause-faults g c =
    λ t name sound finds dims has spot. the_err c.from_residual-in_err-begin.result _ _
    c.from_residual-in_err-begin.ensures.1 c.in_err-begin.ensures.faults
