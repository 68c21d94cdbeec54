-- The tree is freed, and then the table.
use Rattle.std.proofs.Common.{None}
use Rattle.page_file.specs.Fault.{IsOfDevice}
use Rattle.page_cache.specs.Cache.{pages}
use Rattle.page_cache.specs.Calls.{changes_and_refuses, changes_in_turn}
use Rattle.node_page.proofs.NodeLemmas.{at_error}
use Rattle.node_page.specs.Parts.{no_page}
use Rattle.layer_pages.proofs.FreeLemmas.{layer_freed}
use Rattle.layer_pages.proofs.LayerLemmas.{ids_still, root_of}
use Rattle.layer_pages.proofs.freeing.free.Goals as goal

pub returns-clause-sound : goal.returns-clause-sound
returns-clause-sound g c = λ sound l most objects is.
    let m = pages c.args.cache.now in
    let at = root_of g.row.D most m c.args.root c.args.ids_root l objects is in
    let freed = c.in_ok-free_tree.ensures.freed sound l.tree at is.tree.stands in
    c.in_ok-free_all.ensures.sound (c.free_tree.ensures.sound sound l.tree at is.tree.stands) l.ids
    is.ids_root_is
    (ids_still g.row.D most m c.args.root c.args.ids_root l objects is (pages c.free_tree.new.cache)
    no_page freed)

pub returns-clause-freed : goal.returns-clause-freed
returns-clause-freed g c = λ sound l most objects is.
    let m = pages c.args.cache.now in
    let mid = pages c.free_tree.new.cache in
    let at = root_of g.row.D most m c.args.root c.args.ids_root l objects is in
    let freed = c.in_ok-free_tree.ensures.freed sound l.tree at is.tree.stands in
    let stand = ids_still g.row.D most m c.args.root c.args.ids_root l objects is mid no_page freed in
    layer_freed g.row.D most m mid (pages c.free_all.new.cache) c.args.root c.args.ids_root l objects is
    freed
    (c.in_ok-free_all.ensures.freed (c.free_tree.ensures.sound sound l.tree at is.tree.stands) l.ids
    is.ids_root_is
    stand)

pub returns-in_err-free_all-clause-sound : goal.returns-in_err-free_all-clause-sound
returns-in_err-free_all-clause-sound g c = λ sound l most objects is.
    let m = pages c.args.cache.now in
    let at = root_of g.row.D most m c.args.root c.args.ids_root l objects is in
    let freed = c.in_ok-free_tree.ensures.freed sound l.tree at is.tree.stands in
    c.in_err-free_all.ensures.sound (c.free_tree.ensures.sound sound l.tree at is.tree.stands) l.ids
    is.ids_root_is
    (ids_still g.row.D most m c.args.root c.args.ids_root l objects is (pages c.free_tree.new.cache)
    no_page freed)

pub returns-in_err-free_all-clause-faults : goal.returns-in_err-free_all-clause-faults
returns-in_err-free_all-clause-faults g c = λ sound l most objects is.
    let m = pages c.args.cache.now in
    let at = root_of g.row.D most m c.args.root c.args.ids_root l objects is in
    let freed = c.in_ok-free_tree.ensures.freed sound l.tree at is.tree.stands in
    at_error c.from_residual-in_err-free_all.result c.in_err-free_all.field-0.0 IsOfDevice
    c.from_residual-in_err-free_all.ensures.1
    (c.in_err-free_all.ensures.faults (c.free_tree.ensures.sound sound l.tree at is.tree.stands) l.ids
    is.ids_root_is
    (ids_still g.row.D most m c.args.root c.args.ids_root l objects is (pages c.free_tree.new.cache)
    no_page freed))

pub returns-in_err-free_all-clause-changes : goal.returns-in_err-free_all-clause-changes
returns-in_err-free_all-clause-changes g c =
    changes_and_refuses c.args.cache.now c.free_tree.new.cache c.free_all.new.cache
    c.in_err-free_all.field-0.0 c.from_residual-in_err-free_all.result
    c.from_residual-in_err-free_all.ensures.1 c.in_ok-free_tree.ensures.changes
    c.in_err-free_all.ensures.changes

pub returns-clause-changes : goal.returns-clause-changes
returns-clause-changes g c =
    changes_in_turn c.args.cache.now c.free_tree.new.cache c.free_all.new.cache None
    c.in_ok-free_tree.ensures.changes c.in_ok-free_all.ensures.changes
