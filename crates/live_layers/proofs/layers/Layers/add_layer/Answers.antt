-- The pages are made, and the record is in its place; or the change was refused, or broke off.
use Rattle.std.proofs.Common.{◌∙◌, Err, length, refl, ap, arith, subst, sym}
use Rattle.catalog_page.specs.Layout.{records_of}
use Rattle.catalog_page.specs.declared.layer_record.LayerRecord.{LayerRecord}
use Rattle.layer_pages.specs.Changes.{IsEmptyLeaf}
use Rattle.page_cache.specs.Cache.{pages, version_of}
use Rattle.page_cache.specs.Laws.{numbers_are_few}
use Rattle.page_file.specs.Fault.{IsOfDevice}
use Rattle.live_layers.specs.declared.broken.Broken.{Broken}
use Rattle.live_layers.proofs.CountLemmas.{no_page_wanted}
use Rattle.live_layers.proofs.BegunLemmas.{broke_behind, made_and_admitted, not_opened}
use Rattle.live_layers.proofs.CreateLemmas.{brings_before, made_record, one_more_may_be, put_in, sound_made}
use Rattle.live_layers.proofs.CreateLemmas.{made_still, tree_made, version_made}
use Rattle.live_layers.proofs.Results.{the_err}
use Rattle.live_layers.proofs.layers.Layers.add_layer.Goals as goal

pub returns-in_err-begin-clause-begins : goal.returns-in_err-begin-clause-begins
returns-in_err-begin-clause-begins g c =
    not_opened c.args.self.now c.begin.new.self c.in_err-begin.field-0.0 c.from_residual.result
    c.from_residual.ensures.1 c.in_err-begin.ensures.begins c.begin.ensures.sound c.begin.ensures.keeps

pub returns-in-Err-clause-begins : goal.returns-in-Err-clause-begins
returns-in-Err-clause-begins g c =
    broke_behind c.args.self.now c.begin.new.self _ c.in-Err.fault
    (Err c.broken_by.result) c.broken_by.ensures (refl, refl, refl, refl)
    c.in_ok-begin.ensures.begins c.begin.ensures.sound c.begin.ensures.keeps
    c.in-Err.ensures.changes c.in-Err.ensures.other_faults

pub returns-in_err-begin-clause-faults : goal.returns-in_err-begin-clause-faults
returns-in_err-begin-clause-faults g c =
    λ t sound. the_err c.from_residual.result c.in_err-begin.field-0.0 _ c.from_residual.ensures.1
    c.in_err-begin.ensures.faults

pub returns-in-Err-clause-faults : goal.returns-in-Err-clause-faults
returns-in-Err-clause-faults g c = λ t sound.
    let before = c.begin.ensures.sound t sound in
    subst (λ (b : Broken). IsOfDevice b.cause) (sym c.broken_by.ensures)
    (no_page_wanted c.begin.new.self t before
    (omega (arith, c.requires.room, ap length c.begin.ensures.keeps.records)) 2 c.make_pages.new.cache _
    (omega (arith)) c.make_pages.ensures.grows
    (c.in-Err.ensures.faults before.map))

pub invariant_of-self-2 : goal.invariant_of-self-2
invariant_of-self-2 g c =
    let items = c.begin.new.self.records.items in
    let root = c.in-Ok.made.0 in
    let ids_root = c.in-Ok.made.1 in
    let r : LayerRecord =
    record {
      name = c.name_of.result;
      dims = c.args.dims;
      fanout = c.args.fanout;
      level = root.level;
      root = root.page;
      ids_root = ids_root;
      count = 0;
    } in
    let row = made_record c.args.name.now c.args.dims c.args.fanout root ids_root in
    let records =
    put_in items c.insert.new.self.items c.args.place r row c.insert.ensures.items
    (λ i. made_record (c.name_of.ensures i) c.args.dims c.args.fanout root ids_root) in
    let made = c.in-Ok.ensures.places in
    let few = numbers_are_few c.make_pages.new.cache in
    record {
      are_layers =
          one_more_may_be (records_of c.begin.new.self.records) c.args.place c.args.name.now c.args.dims
          c.args.fanout c.in-Ok.made.0 c.in-Ok.made.1 c.requires.may_be made.0 made.1
          (omega (arith, made.2, few.1)) (records_of c.insert.new.self) records c.begin.new.self.are_layers;
    }

pub returns-clause-added : goal.returns-clause-added
returns-clause-added g c = λ t sound belongs.
    let kept = c.begin.new.self in
    let before = c.begin.ensures.sound t sound in
    let items = c.begin.new.self.records.items in
    let root = c.in-Ok.made.0 in
    let ids_root = c.in-Ok.made.1 in
    let r : LayerRecord =
    record {
      name = c.name_of.result;
      dims = c.args.dims;
      fanout = c.args.fanout;
      level = root.level;
      root = root.page;
      ids_root = ids_root;
      count = 0;
    } in
    let row = made_record c.args.name.now c.args.dims c.args.fanout root ids_root in
    let records =
    put_in items c.insert.new.self.items c.args.place r row c.insert.ensures.items
    (λ i. made_record (c.name_of.ensures i) c.args.dims c.args.fanout root ids_root) in
    sound_made kept _ t c.args.name.now c.args.place before belongs c.args.dims c.args.fanout
    c.requires.may_be c.in-Ok.made.0 c.in-Ok.made.1 c.kind_in-kind.result
    (made_still (pages kept.cache) (pages c.make_pages.new.cache) (pages c.admit.new.cache) c.args.dims
    c.args.fanout c.kind_in-kind.result root ids_root c.admit.ensures.pages_stay
    (c.in-Ok.ensures.made before.map c.args.fanout))
    c.in-Ok.ensures.places.0 (omega (arith, c.in-Ok.ensures.changes.next, c.admit.ensures.next))
    (λ chains. c.admit.ensures.chains chains ∙ c.in-Ok.ensures.changes.version before.map.honest)
    c.admit.ensures.tree records
    (c.admit.ensures.sound (c.in-Ok.ensures.sound before.map)) refl refl

pub returns-clause-tree : goal.returns-clause-tree
returns-clause-tree g c = λ t sound belongs.
    let kept = c.begin.new.self in
    let before = c.begin.ensures.sound t sound in
    let items = c.begin.new.self.records.items in
    let root = c.in-Ok.made.0 in
    let ids_root = c.in-Ok.made.1 in
    let r : LayerRecord =
    record {
      name = c.name_of.result;
      dims = c.args.dims;
      fanout = c.args.fanout;
      level = root.level;
      root = root.page;
      ids_root = ids_root;
      count = 0;
    } in
    let row = made_record c.args.name.now c.args.dims c.args.fanout root ids_root in
    let records =
    put_in items c.insert.new.self.items c.args.place r row c.insert.ensures.items
    (λ i. made_record (c.name_of.ensures i) c.args.dims c.args.fanout root ids_root) in
    brings_before c.args.self.now kept _ c.args.name.now IsEmptyLeaf
    (c.begin.ensures.keeps.map.pages_stay sound.map.honest) c.begin.ensures.keeps.records
    (tree_made kept _ t c.args.name.now c.args.place before belongs c.args.dims c.args.fanout
    c.requires.may_be c.in-Ok.made.0 c.in-Ok.made.1 c.kind_in-kind.result
    (made_still (pages kept.cache) (pages c.make_pages.new.cache) (pages c.admit.new.cache) c.args.dims
    c.args.fanout c.kind_in-kind.result root ids_root c.admit.ensures.pages_stay
    (c.in-Ok.ensures.made before.map c.args.fanout))
    c.in-Ok.ensures.places.0 (omega (arith, c.in-Ok.ensures.changes.next, c.admit.ensures.next))
    (λ chains. c.admit.ensures.chains chains ∙ c.in-Ok.ensures.changes.version before.map.honest)
    c.admit.ensures.tree records)

pub returns-clause-begins : goal.returns-clause-begins
returns-clause-begins g c =
    made_and_admitted c.args.self.now c.begin.new.self _ c.make_pages.new.cache c.admit.ensures.device
    c.admit.ensures.gate c.admit.ensures.next c.in_ok-begin.ensures.begins c.in-Ok.ensures.changes
    (λ honest. version_made c.args.self.now.newest (version_of c.args.self.now.cache)
    (version_of c.make_pages.new.cache) (version_of c.admit.new.cache) c.kind_in-kind.result
    c.kind_in-kind.ensures c.admit.ensures.chains c.admit.ensures.tree
    (c.in-Ok.ensures.changes.version (c.begin.ensures.begins.honest.0 honest)
    ∙ c.begin.ensures.keeps.map.version honest)) c.begin.ensures.keeps.newest
