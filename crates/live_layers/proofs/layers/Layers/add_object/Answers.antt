-- The object is in the tree and in the table, and the record says so; or the change was refused, or broke
-- off.
use Rattle.std.proofs.Common.{Err, refl, inl, arith, subst, sym}
use Rattle.box_math.specs.Objects.{Object}
use Rattle.plain_table.specs.Table.{layer_at}
use Rattle.layer_pages.specs.Changes.{most_inserted_pages}
use Rattle.page_file.specs.Fault.{IsOfDevice}
use Rattle.live_layers.specs.declared.broken.Broken.{Broken}
use Rattle.live_layers.proofs.CountLemmas.{no_page_wanted}
use Rattle.live_layers.specs.Rules.{HasGained}
use Rattle.live_layers.proofs.AddLemmas.{sound_added, stands_at, tree_added}
use Rattle.live_layers.proofs.BegunLemmas.{broke_behind, made_behind, no_memory, not_opened}
use Rattle.live_layers.proofs.ReplaceLemmas.{changes_before, reading}
use Rattle.live_layers.proofs.Results.{the_err}
use Rattle.live_layers.proofs.SpotLemmas.{spot_begun}
use Rattle.live_layers.proofs.layers.Layers.add_object.Goals as goal

pub returns-in_err-kept-clause-begins : goal.returns-in_err-kept-clause-begins
returns-in_err-kept-clause-begins g c =
    no_memory c.args.self.now c.in_err-kept.field-0.0 c.from_residual.result
    c.from_residual.ensures.1 c.in_err-kept.ensures g.met.B.BlockDevice.only_now

pub returns-in_err-begin-clause-begins : goal.returns-in_err-begin-clause-begins
returns-in_err-begin-clause-begins g c =
    not_opened c.args.self.now c.begin.new.self c.in_err-begin.field-0.0 c.from_residual-in_err-begin.result
    c.from_residual-in_err-begin.ensures.1 c.in_err-begin.ensures.begins c.begin.ensures.sound
    c.begin.ensures.keeps

pub returns-in-Err-clause-begins : goal.returns-in-Err-clause-begins
returns-in-Err-clause-begins g c =
    broke_behind c.args.self.now c.begin.new.self _ c.in-Err.fault
    (Err c.broken_by.result) c.broken_by.ensures (refl, refl, refl, refl)
    c.in_ok-begin.ensures.begins c.begin.ensures.sound c.begin.ensures.keeps
    c.in-Err.ensures.changes c.in-Err.ensures.other_faults

pub returns-in_err-kept-clause-faults : goal.returns-in_err-kept-clause-faults
returns-in_err-kept-clause-faults g c =
    λ t name sound finds dims spot. the_err c.from_residual.result _ _
    c.from_residual.ensures.1 (inl c.in_err-kept.ensures)

pub returns-in_err-begin-clause-faults : goal.returns-in_err-begin-clause-faults
returns-in_err-begin-clause-faults g c =
    λ t name sound finds dims spot. the_err c.from_residual-in_err-begin.result _ _
    c.from_residual-in_err-begin.ensures.1 c.in_err-begin.ensures.faults

pub returns-in-Err-clause-faults : goal.returns-in-Err-clause-faults
returns-in-Err-clause-faults g c = λ t name sound finds dims spot.
    let kept = c.begin.new.self in
    let before = c.begin.ensures.sound t sound in
    let located = c.locate-located.result in
    let by = c.locate-located.ensures.by_record in
    let id = c.args.object.now.entry.reference in
    let at = stands_at kept t name c.args.place before finds located by g.row.D dims in
    let here = spot_begun g.row.D c.args.self.now kept
    (c.begin.ensures.keeps.map.pages_stay sound.map.honest) c.begin.ensures.keeps.records c.args.place
    id c.args.object.now.spot spot located by in
    subst (λ (b : Broken). IsOfDevice b.cause) (sym c.broken_by.ensures)
    (no_page_wanted kept t before c.locate-located.ensures.few most_inserted_pages c.insert.new.cache _
    (omega (arith)) c.insert.ensures.grows
    (c.in-Err.ensures.faults before.map (reading kept t name c.args.place before finds).pages
    (layer_at t name).objects at here))

pub returns-clause-added : goal.returns-clause-added
returns-clause-added g c = λ t name sound finds dims absent spot.
    let kept = c.begin.new.self in
    let before = c.begin.ensures.sound t sound in
    let located = c.locate-located.result in
    let by = c.locate-located.ensures.by_record in
    let id = c.args.object.now.entry.reference in
    let object : Object = (c.args.object.now.entry.bounds, c.args.object.now.entry.tag) in
    let at = stands_at kept t name c.args.place before finds located by g.row.D dims in
    let here = spot_begun g.row.D c.args.self.now kept
    (c.begin.ensures.keeps.map.pages_stay sound.map.honest) c.begin.ensures.keeps.records c.args.place
    id c.args.object.now.spot spot located by in
    let l = (reading kept t name c.args.place before finds).pages in
    let objects = (layer_at t name).objects in
    let became = c.in-Ok.ensures.inserted before.map l objects at here absent in
    sound_added kept t name c.args.place before finds located by g.row.D dims id object absent
    c.insert.new.cache c.in-Ok.root became _ c.note.ensures.cache c.count_at.result
    c.saturating_add-count.result c.count_at.ensures
    c.saturating_add-count.ensures c.in-Ok.ensures.root c.in-Ok.ensures.changes.next
    (c.in-Ok.ensures.changes.version before.map.honest)
    (omega (arith, c.requires.room, c.begin.ensures.count)) c.note.ensures.records
    (c.in-Ok.ensures.sound before.map l objects at here) (omega (arith, c.note.ensures.count))
    c.note.ensures.written

pub returns-clause-tree : goal.returns-clause-tree
returns-clause-tree g c = λ t name sound finds dims absent spot.
    let kept = c.begin.new.self in
    let before = c.begin.ensures.sound t sound in
    let located = c.locate-located.result in
    let by = c.locate-located.ensures.by_record in
    let id = c.args.object.now.entry.reference in
    let object : Object = (c.args.object.now.entry.bounds, c.args.object.now.entry.tag) in
    let at = stands_at kept t name c.args.place before finds located by g.row.D dims in
    let here = spot_begun g.row.D c.args.self.now kept
    (c.begin.ensures.keeps.map.pages_stay sound.map.honest) c.begin.ensures.keeps.records c.args.place
    id c.args.object.now.spot spot located by in
    let l = (reading kept t name c.args.place before finds).pages in
    let objects = (layer_at t name).objects in
    let became = c.in-Ok.ensures.inserted before.map l objects at here absent in
    changes_before c.args.self.now kept _ name (HasGained (layer_at t name) id object)
    (c.begin.ensures.keeps.map.pages_stay sound.map.honest) c.begin.ensures.keeps.records
    (tree_added kept t name c.args.place before finds located by g.row.D dims id object absent
    c.insert.new.cache c.in-Ok.root became _ c.note.ensures.cache c.count_at.result
    c.saturating_add-count.result c.count_at.ensures
    c.saturating_add-count.ensures c.in-Ok.ensures.root c.in-Ok.ensures.changes.next
    (c.in-Ok.ensures.changes.version before.map.honest)
    (omega (arith, c.requires.room, c.begin.ensures.count)) c.note.ensures.records)

pub returns-clause-begins : goal.returns-clause-begins
returns-clause-begins g c =
    made_behind c.args.self.now c.begin.new.self _ c.insert.new.cache c.note.ensures.cache
    c.in_ok-begin.ensures.begins c.begin.ensures.keeps c.in-Ok.ensures.changes c.note.ensures.newest
