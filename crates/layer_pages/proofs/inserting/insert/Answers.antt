-- An object more in the tree, and then in the table.
use Rattle.std.proofs.Common.{None, ⊎_elim, inl, inr, arith}
use Rattle.box_math.specs.Objects.{Object}
use Rattle.page_cache.specs.Cache.{pages}
use Rattle.page_cache.specs.Calls.{changes_and_refuses, changes_in_turn}
use Rattle.node_page.proofs.NodeLemmas.{at_error}
use Rattle.node_page.proofs.RootedLemmas.{loose}
use Rattle.id_table.specs.Table.{part_of}
use Rattle.node_page.specs.Faults.{IsChangeFault, IsNoDamage}
use Rattle.layer_pages.proofs.MadeLemmas.{absent_meanwhile, branch, can_insert, entry_has_shape}
use Rattle.layer_pages.proofs.MadeLemmas.{ids_meanwhile, layer_inserted}
use Rattle.layer_pages.proofs.inserting.insert.Goals as goal

pub returns-in_err-after-clause-faults : goal.returns-in_err-after-clause-faults
returns-in_err-after-clause-faults g c = λ sound l objects is spot.
    let D = g.row.D in
    let most = c.args.layer.fanout.most in
    let m = pages c.args.cache.now in
    let id = c.args.object.now.entry.reference in
    let kept : Object = (c.args.object.now.entry.bounds, c.args.object.now.entry.tag) in
    at_error c.from_residual.result c.in_err-after.field-0.0
    (IsNoDamage c.insert_with.new.cache) c.from_residual.ensures.1
    (c.in_err-after.ensures.inserts.faults sound l.tree
    (branch D most m c.args.layer.root c.args.layer.ids_root l objects is id kept) (part_of l.ids)
    (can_insert D most m c.args.layer.root c.args.layer.ids_root l objects is id kept)
    (loose D most l.tree is.tree.shape) is.boxes
    (entry_has_shape D most m c.args.layer.root c.args.layer.ids_root l objects is id kept
    c.low.ensures.is_box))

pub returns-clause-changes : goal.returns-clause-changes
returns-clause-changes g c =
    changes_in_turn c.args.cache.now c.insert_with.new.cache c.add.new.cache None
    c.in_ok-after.ensures.inserts.changes c.in_ok-add.ensures.changes

pub returns-clause-sound : goal.returns-clause-sound
returns-clause-sound g c = λ sound l objects is spot.
    let D = g.row.D in
    let most = c.args.layer.fanout.most in
    let m = pages c.args.cache.now in
    let id = c.args.object.now.entry.reference in
    let kept : Object = (c.args.object.now.entry.bounds, c.args.object.now.entry.tag) in
    let to =
    c.in_ok-after.ensures.inserts.inserted sound l.tree
    (branch D most m c.args.layer.root c.args.layer.ids_root l objects is id kept) (part_of l.ids)
    (can_insert D most m c.args.layer.root c.args.layer.ids_root l objects is id kept) in
    c.in_ok-add.ensures.sound to.0 l.ids is.ids_root_is
    (ids_meanwhile D most m c.args.layer.root c.args.layer.ids_root l objects is id kept
    (pages c.insert_with.new.cache) c.in_ok-after.after to.1) (spot l.ids is.ids_root_is is.ids)

pub returns-clause-inserted : goal.returns-clause-inserted
returns-clause-inserted g c = λ sound l objects is spot absent.
    let D = g.row.D in
    let most = c.args.layer.fanout.most in
    let m = pages c.args.cache.now in
    let mid = pages c.insert_with.new.cache in
    let id = c.args.object.now.entry.reference in
    let kept : Object = (c.args.object.now.entry.bounds, c.args.object.now.entry.tag) in
    let to =
    c.in_ok-after.ensures.inserts.inserted sound l.tree
    (branch D most m c.args.layer.root c.args.layer.ids_root l objects is id kept) (part_of l.ids)
    (can_insert D most m c.args.layer.root c.args.layer.ids_root l objects is id kept) in
    let stand =
    ids_meanwhile D most m c.args.layer.root c.args.layer.ids_root l objects is id kept mid
    c.in_ok-after.after to.1 in
    let none =
    absent_meanwhile D most m c.args.layer.root c.args.layer.ids_root l objects is id kept mid
    c.in_ok-after.after to.1 absent in
    let added = c.in_ok-add.ensures.added to.0 l.ids is.ids_root_is stand
    (spot l.ids is.ids_root_is is.ids) none in
    layer_inserted D most m c.args.layer.root c.args.layer.ids_root l objects is id kept mid
    c.in_ok-after.after to.1 (pages c.add.new.cache) added
    (omega (arith, c.args.layer.fanout.within)) c.low.ensures.is_box absent

pub returns-in_err-add-clause-changes : goal.returns-in_err-add-clause-changes
returns-in_err-add-clause-changes g c =
    changes_and_refuses c.args.cache.now c.insert_with.new.cache c.add.new.cache
    c.in_err-add.field-0.0 c.from_residual-in_err-add.result c.from_residual-in_err-add.ensures.1
    c.in_ok-after.ensures.inserts.changes c.in_err-add.ensures.changes

pub returns-in_err-add-clause-faults : goal.returns-in_err-add-clause-faults
returns-in_err-add-clause-faults g c = λ sound l objects is spot.
    let D = g.row.D in
    let most = c.args.layer.fanout.most in
    let m = pages c.args.cache.now in
    let id = c.args.object.now.entry.reference in
    let kept : Object = (c.args.object.now.entry.bounds, c.args.object.now.entry.tag) in
    let to =
    c.in_ok-after.ensures.inserts.inserted sound l.tree
    (branch D most m c.args.layer.root c.args.layer.ids_root l objects is id kept) (part_of l.ids)
    (can_insert D most m c.args.layer.root c.args.layer.ids_root l objects is id kept) in
    let stand =
    ids_meanwhile D most m c.args.layer.root c.args.layer.ids_root l objects is id kept
    (pages c.insert_with.new.cache) c.in_ok-after.after to.1 in
    at_error c.from_residual-in_err-add.result c.in_err-add.field-0.0 (IsNoDamage c.add.new.cache)
    c.from_residual-in_err-add.ensures.1
    (c.in_err-add.ensures.faults to.0 l.ids is.ids_root_is stand (spot l.ids is.ids_root_is is.ids))

pub returns-in_err-add-clause-other_faults : goal.returns-in_err-add-clause-other_faults
returns-in_err-add-clause-other_faults g c =
    at_error c.from_residual-in_err-add.result c.in_err-add.field-0.0 (IsChangeFault c.add.new.cache)
    c.from_residual-in_err-add.ensures.1
    (⊎_elim (λ quiet. ⊎_elim inl (λ full. inr (inl full)) quiet) (λ damaged. inr (inr damaged))
    c.in_err-add.ensures.other_faults)
