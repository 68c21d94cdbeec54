-- An object fewer in the tree, and then in the table.
use Rattle.std.proofs.Common.{None, inl}
use Rattle.box_math.specs.Objects.{Object}
use Rattle.page_cache.specs.Cache.{pages}
use Rattle.page_cache.specs.Calls.{changes_and_refuses, changes_in_turn}
use Rattle.node_page.proofs.NodeLemmas.{at_error}
use Rattle.id_table.specs.Table.{part_of}
use Rattle.node_page.specs.Faults.{IsChangeFault, IsNoDamage}
use Rattle.reinsert.proofs.FaultLemmas.{one_more}
use Rattle.condense.proofs.RemoveLemmas.{refused_so}
use Rattle.layer_pages.proofs.RemovedLemmas.{can_remove, ids_between, in_a_leaf, in_no_leaf, in_table}
use Rattle.layer_pages.proofs.RemovedLemmas.{layer_removed}
use Rattle.layer_pages.proofs.removing.remove.Goals as goal

-- what was made was not refused
made_so_not_refused : {A P : Type 0} → A × ⊥ → P
made_so_not_refused both = absurd both.1

pub returns-in_err-after-clause-absent : goal.returns-in_err-after-clause-absent
returns-in_err-after-clause-absent g c = λ sound l objects is absent.
    let D = g.row.D in
    let most = c.args.layer.fanout.most in
    let m = pages c.args.cache.now in
    let refused =
    c.in_err-after.ensures.absent sound l.tree (part_of l.ids)
    (can_remove D most m c.args.layer.root c.args.layer.ids_root l objects is)
    (in_no_leaf D most m c.args.layer.root c.args.layer.ids_root l objects is
    c.args.object.now.entry.reference
    (c.args.object.now.entry.bounds, c.args.object.now.entry.tag) absent) in (
      refused.0,
      refused_so c.from_residual.result c.in_err-after.field-0.0
          _ c.from_residual.ensures.1
          refused.1,
    )

pub returns-in_err-after-clause-faults : goal.returns-in_err-after-clause-faults
returns-in_err-after-clause-faults g c = λ sound l objects is spot there.
    let D = g.row.D in
    let most = c.args.layer.fanout.most in
    let m = pages c.args.cache.now in
    at_error c.from_residual.result c.in_err-after.field-0.0
    (IsNoDamage c.remove_with.new.cache) c.from_residual.ensures.1
    (c.in_err-after.ensures.faults sound l.tree (part_of l.ids)
    (can_remove D most m c.args.layer.root c.args.layer.ids_root l objects is) is.tree.shape
    is.boxes
    (in_a_leaf D most m c.args.layer.root c.args.layer.ids_root l objects is
    c.args.object.now.entry.reference
    (c.args.object.now.entry.bounds, c.args.object.now.entry.tag) there))

pub returns-clause-changes : goal.returns-clause-changes
returns-clause-changes g c =
    changes_in_turn c.args.cache.now c.remove_with.new.cache c.remove.new.cache None
    c.in_ok-after.ensures.changes c.in_ok-remove.ensures.changes

pub returns-clause-sound : goal.returns-clause-sound
returns-clause-sound g c = λ sound l objects is spot.
    let D = g.row.D in
    let most = c.args.layer.fanout.most in
    let m = pages c.args.cache.now in
    let to =
    c.in_ok-after.ensures.removed sound l.tree (part_of l.ids)
    (can_remove D most m c.args.layer.root c.args.layer.ids_root l objects is) in
    c.in_ok-remove.ensures.sound to.0 l.ids is.ids_root_is
    (ids_between D most m c.args.layer.root c.args.layer.ids_root l objects is
    c.args.object.now.entry.reference
    (c.args.object.now.entry.bounds, c.args.object.now.entry.tag) (pages c.remove_with.new.cache) c.in_ok-after.after
    to.1) (spot l.ids is.ids_root_is is.ids)

pub returns-clause-removed : goal.returns-clause-removed
returns-clause-removed g c = λ sound l objects is spot there.
    let D = g.row.D in
    let most = c.args.layer.fanout.most in
    let m = pages c.args.cache.now in
    let mid = pages c.remove_with.new.cache in
    let id = c.args.object.now.entry.reference in
    let kept : Object = (c.args.object.now.entry.bounds, c.args.object.now.entry.tag) in
    let to =
    c.in_ok-after.ensures.removed sound l.tree (part_of l.ids)
    (can_remove D most m c.args.layer.root c.args.layer.ids_root l objects is) in
    let stand =
    ids_between D most m c.args.layer.root c.args.layer.ids_root l objects is id kept mid
    c.in_ok-after.after to.1 in
    let removed =
    c.in_ok-remove.ensures.removed to.0 l.ids is.ids_root_is stand
    (spot l.ids is.ids_root_is is.ids)
    (in_table D most m c.args.layer.root c.args.layer.ids_root l objects is id kept there) in
    layer_removed D most m c.args.layer.root c.args.layer.ids_root l objects is id kept mid
    c.in_ok-after.after to.1 (pages c.remove.new.cache) removed c.args.layer.fanout.within.0 there

pub returns-clause-absent : goal.returns-clause-absent
returns-clause-absent g c = λ sound l objects is absent.
    let D = g.row.D in
    let most = c.args.layer.fanout.most in
    let m = pages c.args.cache.now in
    made_so_not_refused (c.in_ok-after.ensures.absent sound l.tree (part_of l.ids)
    (can_remove D most m c.args.layer.root c.args.layer.ids_root l objects is)
    (in_no_leaf D most m c.args.layer.root c.args.layer.ids_root l objects is
    c.args.object.now.entry.reference
    (c.args.object.now.entry.bounds, c.args.object.now.entry.tag) absent))

pub returns-in_err-remove-clause-changes : goal.returns-in_err-remove-clause-changes
returns-in_err-remove-clause-changes g c =
    changes_and_refuses c.args.cache.now c.remove_with.new.cache c.remove.new.cache
    c.in_err-remove.field-0.0 c.from_residual-in_err-remove.result c.from_residual-in_err-remove.ensures.1
    c.in_ok-after.ensures.changes c.in_err-remove.ensures.changes

pub returns-in_err-remove-clause-absent : goal.returns-in_err-remove-clause-absent
returns-in_err-remove-clause-absent g c = λ sound l objects is absent.
    let D = g.row.D in
    let most = c.args.layer.fanout.most in
    let m = pages c.args.cache.now in
    made_so_not_refused (c.in_ok-after.ensures.absent sound l.tree (part_of l.ids)
    (can_remove D most m c.args.layer.root c.args.layer.ids_root l objects is)
    (in_no_leaf D most m c.args.layer.root c.args.layer.ids_root l objects is
    c.args.object.now.entry.reference
    (c.args.object.now.entry.bounds, c.args.object.now.entry.tag) absent))

pub returns-in_err-remove-clause-faults : goal.returns-in_err-remove-clause-faults
returns-in_err-remove-clause-faults g c = λ sound l objects is spot there.
    let D = g.row.D in
    let most = c.args.layer.fanout.most in
    let m = pages c.args.cache.now in
    let id = c.args.object.now.entry.reference in
    let kept : Object = (c.args.object.now.entry.bounds, c.args.object.now.entry.tag) in
    let to =
    c.in_ok-after.ensures.removed sound l.tree (part_of l.ids)
    (can_remove D most m c.args.layer.root c.args.layer.ids_root l objects is) in
    let stand =
    ids_between D most m c.args.layer.root c.args.layer.ids_root l objects is id kept
    (pages c.remove_with.new.cache) c.in_ok-after.after to.1 in
    at_error c.from_residual-in_err-remove.result c.in_err-remove.field-0.0 (IsNoDamage c.remove.new.cache)
    c.from_residual-in_err-remove.ensures.1
    (inl
    (c.in_err-remove.ensures.faults to.0 l.ids is.ids_root_is stand
    (spot l.ids is.ids_root_is is.ids)
    (in_table D most m c.args.layer.root c.args.layer.ids_root l objects is id kept there)))

pub returns-in_err-remove-clause-other_faults : goal.returns-in_err-remove-clause-other_faults
returns-in_err-remove-clause-other_faults g c =
    at_error c.from_residual-in_err-remove.result c.in_err-remove.field-0.0 (IsChangeFault c.remove.new.cache)
    c.from_residual-in_err-remove.ensures.1
    (one_more _ _ _ c.in_err-remove.ensures.other_faults)
