-- The tree is packed and the table filled, and the record says so; or the change was refused, or broke off.
use Rattle.std.proofs.Common.{Err, length, refl, arith, subst, sym}
use Rattle.plain_table.specs.Table.{layer_at}
use Rattle.id_words.specs.Objects.{pairs_in}
use Rattle.layer_pages.specs.Changes.{most_loaded_pages}
use Rattle.id_words.proofs.EntryLemmas.{as_many_listed}
use Rattle.page_file.specs.Fault.{IsOfDevice}
use Rattle.live_layers.specs.declared.broken.Broken.{Broken}
use Rattle.live_layers.proofs.CountLemmas.{no_page_wanted_by_load}
use Rattle.live_layers.specs.Rules.{HasFilled}
use Rattle.live_layers.proofs.BegunLemmas.{broke_behind, made_behind, not_opened}
use Rattle.live_layers.proofs.FillLemmas.{sound_filled, stands_empty, tree_filled}
use Rattle.live_layers.proofs.ReplaceLemmas.{changes_before, reading}
use Rattle.live_layers.proofs.Results.{the_err}
use Rattle.live_layers.proofs.layers.Layers.fill.Goals as goal

pub returns-in_err-begin-clause-begins : goal.returns-in_err-begin-clause-begins
returns-in_err-begin-clause-begins g c =
    not_opened c.args.self.now c.begin.new.self c.in_err-begin.field-0.0 c.from_residual.result
    c.from_residual.ensures.1 c.in_err-begin.ensures.begins c.begin.ensures.sound c.begin.ensures.keeps

pub returns-in-Err-clause-begins : goal.returns-in-Err-clause-begins
returns-in-Err-clause-begins g c =
    broke_behind c.args.self.now c.begin.new.self _ c.in-Err.fault
    (Err c.broken_by.result) c.broken_by.ensures (refl, refl, refl, refl)
    c.in_ok-begin.ensures.begins c.begin.ensures.sound c.begin.ensures.keeps
    c.in-Err.ensures.changes c.in-Err.ensures.other_faults

pub returns-in_err-begin-clause-faults : goal.returns-in_err-begin-clause-faults
returns-in_err-begin-clause-faults g c =
    λ t name all sound finds dims none same. the_err c.from_residual.result _ _ c.from_residual.ensures.1
    c.in_err-begin.ensures.faults

pub returns-in-Err-clause-faults : goal.returns-in-Err-clause-faults
returns-in-Err-clause-faults g c = λ t name all sound finds dims none same.
    let kept = c.begin.new.self in
    let count = length c.args.entries.now in
    let before = c.begin.ensures.sound t sound in
    let located = c.locate-located.result in
    let empty_there =
    stands_empty kept t name c.args.place before finds located c.locate-located.ensures.by_record g.row.D
    dims none in
    subst (λ (b : Broken). IsOfDevice b.cause) (sym c.broken_by.ensures)
    (no_page_wanted_by_load kept t before c.locate-located.ensures.few (most_loaded_pages count) count
    c.load.new.cache _ (omega (arith, c.requires.room, c.begin.ensures.count)) (omega (arith))
    (c.load.ensures.grows before.map (reading kept t name c.args.place before finds).pages located.fanout.most
    all
    empty_there same)
    (c.in-Err.ensures.faults before.map (reading kept t name c.args.place before finds).pages
    located.fanout.most all empty_there same))

pub returns-clause-filled : goal.returns-clause-filled
returns-clause-filled g c = λ t name all sound finds dims none same.
    let kept = c.begin.new.self in
    let before = c.begin.ensures.sound t sound in
    let located = c.locate-located.result in
    let by = c.locate-located.ensures.by_record in
    let l = (reading kept t name c.args.place before finds).pages in
    let empty_there = stands_empty kept t name c.args.place before finds located by g.row.D dims none in
    let became = c.in-Ok.ensures.loaded before.map l located.fanout.most all empty_there same in
    sound_filled kept t name c.args.place before finds located by g.row.D dims none
    (pairs_in c.args.entries.now) (length c.args.entries.now) (as_many_listed c.args.entries.now) all same
    c.load.new.cache c.in-Ok.root became _ c.note.ensures.cache
    c.in-Ok.ensures.root c.in-Ok.ensures.changes.next
    (c.in-Ok.ensures.changes.version before.map.honest)
    (omega (arith, c.requires.room, c.begin.ensures.count)) c.note.ensures.records
    (c.in-Ok.ensures.sound before.map l located.fanout.most all empty_there same)
    (omega (arith, c.note.ensures.count)) c.note.ensures.written

pub returns-clause-tree : goal.returns-clause-tree
returns-clause-tree g c = λ t name all sound finds dims none same.
    let kept = c.begin.new.self in
    let before = c.begin.ensures.sound t sound in
    let located = c.locate-located.result in
    let by = c.locate-located.ensures.by_record in
    let l = (reading kept t name c.args.place before finds).pages in
    let empty_there = stands_empty kept t name c.args.place before finds located by g.row.D dims none in
    let became = c.in-Ok.ensures.loaded before.map l located.fanout.most all empty_there same in
    changes_before c.args.self.now kept _ name (HasFilled (layer_at t name) (pairs_in c.args.entries.now))
    (c.begin.ensures.keeps.map.pages_stay sound.map.honest) c.begin.ensures.keeps.records
    (tree_filled kept t name c.args.place before finds located by g.row.D dims none
    (pairs_in c.args.entries.now) (length c.args.entries.now) (as_many_listed c.args.entries.now) all same
    c.load.new.cache c.in-Ok.root became _ c.note.ensures.cache
    c.in-Ok.ensures.root c.in-Ok.ensures.changes.next
    (c.in-Ok.ensures.changes.version before.map.honest)
    (omega (arith, c.requires.room, c.begin.ensures.count)) c.note.ensures.records)

pub returns-clause-begins : goal.returns-clause-begins
returns-clause-begins g c =
    made_behind c.args.self.now c.begin.new.self _ c.load.new.cache c.note.ensures.cache
    c.in_ok-begin.ensures.begins c.begin.ensures.keeps c.in-Ok.ensures.changes c.note.ensures.newest
