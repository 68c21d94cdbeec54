-- The object with another box in the tree, and then in the table.
use Rattle.std.proofs.Common.{None, inl, refl}
use Rattle.page_cache.specs.Cache.{pages}
use Rattle.page_cache.specs.Calls.{changes_and_refuses, changes_in_turn}
use Rattle.tree_node.specs.Trees.{object}
use Rattle.node_page.proofs.NodeLemmas.{at_error}
use Rattle.node_page.specs.Faults.{IsChangeFault, IsNoDamage}
use Rattle.node_page.proofs.RootedLemmas.{loose}
use Rattle.id_table.specs.Table.{part_of}
use Rattle.reinsert.proofs.FaultLemmas.{one_more}
use Rattle.condense.proofs.RemoveLemmas.{refused_so}
use Rattle.layer_pages.proofs.MadeLemmas.{entry_has_shape}
use Rattle.layer_pages.proofs.RemovedLemmas.{can_remove, in_a_leaf, in_no_leaf, in_table, kept_in_table}
use Rattle.layer_pages.proofs.ReplacedLemmas.{can_insert_between, ids_unchanged, layer_replaced}
use Rattle.layer_pages.proofs.ReplacedLemmas.{shape_between}
use Rattle.layer_pages.proofs.replacing.replace.Goals as goal

-- what was made was not refused
made_so_not_refused : {A P : Type 0} → A × ⊥ → P
made_so_not_refused both = absurd both.1

pub returns-in_err-between-clause-absent : goal.returns-in_err-between-clause-absent
returns-in_err-between-clause-absent g c = λ sound l objects is absent.
    let D = g.row.D in
    let most = c.args.layer.fanout.most in
    let m = pages c.args.cache.now in
    let refused =
    c.in_err-between.ensures.absent sound l.tree (part_of l.ids)
    (can_remove D most m c.args.layer.root c.args.layer.ids_root l objects is)
    (in_no_leaf D most m c.args.layer.root c.args.layer.ids_root l objects is
    c.args.object.now.entry.reference
    (c.args.object.now.entry.bounds, c.args.object.now.entry.tag) absent) in (
      refused.0,
      refused_so c.from_residual.result c.in_err-between.field-0.0
          _ c.from_residual.ensures.1
          refused.1,
    )

pub returns-in_err-between-clause-faults : goal.returns-in_err-between-clause-faults
returns-in_err-between-clause-faults g c = λ sound l objects is spot there.
    let D = g.row.D in
    let most = c.args.layer.fanout.most in
    let m = pages c.args.cache.now in
    at_error c.from_residual.result c.in_err-between.field-0.0
    (IsNoDamage c.remove_with.new.cache) c.from_residual.ensures.1
    (c.in_err-between.ensures.faults sound l.tree (part_of l.ids)
    (can_remove D most m c.args.layer.root c.args.layer.ids_root l objects is) is.tree.shape
    is.boxes
    (in_a_leaf D most m c.args.layer.root c.args.layer.ids_root l objects is
    c.args.object.now.entry.reference
    (c.args.object.now.entry.bounds, c.args.object.now.entry.tag) there))

pub returns-in_err-after-clause-changes : goal.returns-in_err-after-clause-changes
returns-in_err-after-clause-changes g c =
    changes_and_refuses c.args.cache.now c.remove_with.new.cache c.insert_with.new.cache
    c.in_err-after.field-0.0 c.from_residual-in_err-after.result c.from_residual-in_err-after.ensures.1
    c.in_ok-between.ensures.changes c.in_err-after.ensures.inserts.changes

pub returns-in_err-after-clause-absent : goal.returns-in_err-after-clause-absent
returns-in_err-after-clause-absent g c = λ sound l objects is absent.
    let D = g.row.D in
    let most = c.args.layer.fanout.most in
    let m = pages c.args.cache.now in
    made_so_not_refused (c.in_ok-between.ensures.absent sound l.tree (part_of l.ids)
    (can_remove D most m c.args.layer.root c.args.layer.ids_root l objects is)
    (in_no_leaf D most m c.args.layer.root c.args.layer.ids_root l objects is
    c.args.object.now.entry.reference
    (c.args.object.now.entry.bounds, c.args.object.now.entry.tag) absent))

pub returns-in_err-after-clause-faults : goal.returns-in_err-after-clause-faults
returns-in_err-after-clause-faults g c = λ sound l objects is spot there.
    let D = g.row.D in
    let most = c.args.layer.fanout.most in
    let m = pages c.args.cache.now in
    let four = c.args.layer.fanout.within.0 in
    let to =
    c.in_ok-between.ensures.removed sound l.tree (part_of l.ids)
    (can_remove D most m c.args.layer.root c.args.layer.ids_root l objects is) in
    let shape =
    shape_between D most m c.args.layer.root c.args.layer.ids_root l objects is four
    c.args.object.now.entry.reference
    (c.args.object.now.entry.bounds, c.args.object.now.entry.tag) (c.args.new.now, c.args.object.now.entry.tag)
    (pages c.remove_with.new.cache)
    c.in_ok-between.between to.1 in
    at_error c.from_residual-in_err-after.result c.in_err-after.field-0.0 (IsNoDamage c.insert_with.new.cache)
    c.from_residual-in_err-after.ensures.1
    (c.in_err-after.ensures.inserts.faults to.0 to.1.new (object (c.args.new.now, c.args.object.now.entry.tag)
    c.args.object.now.entry.reference)
    (part_of l.ids)
    (can_insert_between D most m c.args.layer.root c.args.layer.ids_root l objects is four
    c.args.object.now.entry.reference
    (c.args.object.now.entry.bounds, c.args.object.now.entry.tag) (c.args.new.now, c.args.object.now.entry.tag)
    (pages c.remove_with.new.cache)
    c.in_ok-between.between to.1) (loose D most to.1.new shape.0) shape.1
    (entry_has_shape D most m c.args.layer.root c.args.layer.ids_root l objects is
    c.args.object.now.entry.reference
    (c.args.new.now, c.args.object.now.entry.tag) c.low.ensures.is_box))

pub returns-in_err-after-clause-other_faults : goal.returns-in_err-after-clause-other_faults
returns-in_err-after-clause-other_faults g c =
    at_error c.from_residual-in_err-after.result c.in_err-after.field-0.0 (IsChangeFault c.insert_with.new.cache)
    c.from_residual-in_err-after.ensures.1 c.in_err-after.ensures.inserts.other_faults

pub returns-clause-changes : goal.returns-clause-changes
returns-clause-changes g c =
    changes_in_turn c.args.cache.now c.insert_with.new.cache c.update.new.cache None
    (changes_in_turn c.args.cache.now c.remove_with.new.cache c.insert_with.new.cache None
    c.in_ok-between.ensures.changes c.in_ok-after.ensures.inserts.changes) c.in_ok-update.ensures.changes

pub returns-clause-sound : goal.returns-clause-sound
returns-clause-sound g c = λ sound l objects is spot there.
    let D = g.row.D in
    let most = c.args.layer.fanout.most in
    let m = pages c.args.cache.now in
    let four = c.args.layer.fanout.within.0 in
    let to =
    c.in_ok-between.ensures.removed sound l.tree (part_of l.ids)
    (can_remove D most m c.args.layer.root c.args.layer.ids_root l objects is) in
    let into =
    c.in_ok-after.ensures.inserts.inserted to.0 to.1.new (object (c.args.new.now, c.args.object.now.entry.tag)
    c.args.object.now.entry.reference)
    (part_of l.ids)
    (can_insert_between D most m c.args.layer.root c.args.layer.ids_root l objects is four
    c.args.object.now.entry.reference
    (c.args.object.now.entry.bounds, c.args.object.now.entry.tag) (c.args.new.now, c.args.object.now.entry.tag)
    (pages c.remove_with.new.cache)
    c.in_ok-between.between to.1) in
    let stand =
    ids_unchanged D most m c.args.layer.root c.args.layer.ids_root l objects is four
    c.args.object.now.entry.reference
    (c.args.object.now.entry.bounds, c.args.object.now.entry.tag) (c.args.new.now, c.args.object.now.entry.tag)
    (pages c.remove_with.new.cache)
    c.in_ok-between.between to.1 (pages c.insert_with.new.cache) c.in_ok-after.after into.1 in
    c.in_ok-update.ensures.sound into.0 l.ids is.ids_root_is stand (spot l.ids is.ids_root_is is.ids)

pub returns-clause-replaced : goal.returns-clause-replaced
returns-clause-replaced g c = λ sound l objects is spot there.
    let D = g.row.D in
    let most = c.args.layer.fanout.most in
    let m = pages c.args.cache.now in
    let four = c.args.layer.fanout.within.0 in
    let to =
    c.in_ok-between.ensures.removed sound l.tree (part_of l.ids)
    (can_remove D most m c.args.layer.root c.args.layer.ids_root l objects is) in
    let into =
    c.in_ok-after.ensures.inserts.inserted to.0 to.1.new (object (c.args.new.now, c.args.object.now.entry.tag)
    c.args.object.now.entry.reference)
    (part_of l.ids)
    (can_insert_between D most m c.args.layer.root c.args.layer.ids_root l objects is four
    c.args.object.now.entry.reference
    (c.args.object.now.entry.bounds, c.args.object.now.entry.tag) (c.args.new.now, c.args.object.now.entry.tag)
    (pages c.remove_with.new.cache)
    c.in_ok-between.between to.1) in
    let stand =
    ids_unchanged D most m c.args.layer.root c.args.layer.ids_root l objects is four
    c.args.object.now.entry.reference
    (c.args.object.now.entry.bounds, c.args.object.now.entry.tag) (c.args.new.now, c.args.object.now.entry.tag)
    (pages c.remove_with.new.cache)
    c.in_ok-between.between to.1 (pages c.insert_with.new.cache) c.in_ok-after.after into.1 in
    let set =
    c.in_ok-update.ensures.updated into.0 l.ids is.ids_root_is stand
    (spot l.ids is.ids_root_is is.ids)
    (c.args.object.now.entry.bounds, c.args.object.now.entry.tag)
    (kept_in_table D most m c.args.layer.root c.args.layer.ids_root l objects is
    c.args.object.now.entry.reference
    (c.args.object.now.entry.bounds, c.args.object.now.entry.tag) there) refl in
    layer_replaced D most m c.args.layer.root c.args.layer.ids_root l objects is four
    c.args.object.now.entry.reference
    (c.args.object.now.entry.bounds, c.args.object.now.entry.tag) (c.args.new.now, c.args.object.now.entry.tag)
    (pages c.remove_with.new.cache)
    c.in_ok-between.between to.1 (pages c.insert_with.new.cache) c.in_ok-after.after into.1
    (pages c.update.new.cache) set c.low.ensures.is_box there

pub returns-clause-absent : goal.returns-clause-absent
returns-clause-absent g c = λ sound l objects is absent.
    let D = g.row.D in
    let most = c.args.layer.fanout.most in
    let m = pages c.args.cache.now in
    made_so_not_refused (c.in_ok-between.ensures.absent sound l.tree (part_of l.ids)
    (can_remove D most m c.args.layer.root c.args.layer.ids_root l objects is)
    (in_no_leaf D most m c.args.layer.root c.args.layer.ids_root l objects is
    c.args.object.now.entry.reference
    (c.args.object.now.entry.bounds, c.args.object.now.entry.tag) absent))

pub returns-in_err-update-clause-changes : goal.returns-in_err-update-clause-changes
returns-in_err-update-clause-changes g c =
    changes_and_refuses c.args.cache.now c.insert_with.new.cache c.update.new.cache
    c.in_err-update.field-0.0 c.from_residual-in_err-update.result c.from_residual-in_err-update.ensures.1
    (changes_in_turn c.args.cache.now c.remove_with.new.cache c.insert_with.new.cache None
    c.in_ok-between.ensures.changes c.in_ok-after.ensures.inserts.changes) c.in_err-update.ensures.changes

pub returns-in_err-update-clause-absent : goal.returns-in_err-update-clause-absent
returns-in_err-update-clause-absent g c = λ sound l objects is absent.
    let D = g.row.D in
    let most = c.args.layer.fanout.most in
    let m = pages c.args.cache.now in
    made_so_not_refused (c.in_ok-between.ensures.absent sound l.tree (part_of l.ids)
    (can_remove D most m c.args.layer.root c.args.layer.ids_root l objects is)
    (in_no_leaf D most m c.args.layer.root c.args.layer.ids_root l objects is
    c.args.object.now.entry.reference
    (c.args.object.now.entry.bounds, c.args.object.now.entry.tag) absent))

pub returns-in_err-update-clause-faults : goal.returns-in_err-update-clause-faults
returns-in_err-update-clause-faults g c = λ sound l objects is spot there.
    let D = g.row.D in
    let most = c.args.layer.fanout.most in
    let m = pages c.args.cache.now in
    let four = c.args.layer.fanout.within.0 in
    let to =
    c.in_ok-between.ensures.removed sound l.tree (part_of l.ids)
    (can_remove D most m c.args.layer.root c.args.layer.ids_root l objects is) in
    let into =
    c.in_ok-after.ensures.inserts.inserted to.0 to.1.new (object (c.args.new.now, c.args.object.now.entry.tag)
    c.args.object.now.entry.reference)
    (part_of l.ids)
    (can_insert_between D most m c.args.layer.root c.args.layer.ids_root l objects is four
    c.args.object.now.entry.reference
    (c.args.object.now.entry.bounds, c.args.object.now.entry.tag) (c.args.new.now, c.args.object.now.entry.tag)
    (pages c.remove_with.new.cache)
    c.in_ok-between.between to.1) in
    let stand =
    ids_unchanged D most m c.args.layer.root c.args.layer.ids_root l objects is four
    c.args.object.now.entry.reference
    (c.args.object.now.entry.bounds, c.args.object.now.entry.tag) (c.args.new.now, c.args.object.now.entry.tag)
    (pages c.remove_with.new.cache)
    c.in_ok-between.between to.1 (pages c.insert_with.new.cache) c.in_ok-after.after into.1 in
    at_error c.from_residual-in_err-update.result c.in_err-update.field-0.0 (IsNoDamage c.update.new.cache)
    c.from_residual-in_err-update.ensures.1
    (inl (c.in_err-update.ensures.faults into.0 l.ids is.ids_root_is stand
    (spot l.ids is.ids_root_is is.ids)
    (in_table D most m c.args.layer.root c.args.layer.ids_root l objects is
    c.args.object.now.entry.reference
    (c.args.object.now.entry.bounds, c.args.object.now.entry.tag) there)))

pub returns-in_err-update-clause-other_faults : goal.returns-in_err-update-clause-other_faults
returns-in_err-update-clause-other_faults g c =
    at_error c.from_residual-in_err-update.result c.in_err-update.field-0.0 (IsChangeFault c.update.new.cache)
    c.from_residual-in_err-update.ensures.1
    (one_more _ _ _ c.in_err-update.ensures.other_faults)
