-- The object is removed below the root, which is lowered then.
use Rattle.id_tree.proofs.WorksLemmas.{works_after, works_handed}
use Rattle.page_cache.specs.Cache.{pages, touched_of}
use Rattle.node_page.proofs.NodeLemmas.{at_error}
use Rattle.id_tree.proofs.RemoveLemmas.{may_lower, may_shrink_root, removes_among}
use Rattle.id_words.proofs.WriteLemmas.{not_both}
use Rattle.id_tree.proofs.removing.remove_among.Goals as goal

pub returns-in_err-remove_below-clause-damage : goal.returns-in_err-remove_below-clause-damage
returns-in_err-remove_below-clause-damage g c = λ h none.
    at_error c.from_residual.result c.in_err-remove_below.field-0.0 _
    c.from_residual.ensures.1
    (c.in_err-remove_below.ensures.damage h none)

pub returns-clause-damage : goal.returns-clause-damage
returns-clause-damage g c = λ h none.
    absurd (not_both (touched_of c.lower.new.cache)
    (c.lower.ensures.changes.touched c.in_ok-remove_below.ensures.touched) none)

pub returns-in_err-remove_below-clause-removes : goal.returns-in_err-remove_below-clause-removes
returns-in_err-remove_below-clause-removes g c = λ map t at among.
    works_handed (c.in_err-remove_below.ensures.removes map t.row
    (may_shrink_root g.row.D (pages c.args.cache.now) t c.args.root c.args.level c.args.id at among))
    c.from_residual.ensures.1 (λ why. why)

pub returns-clause-removes : goal.returns-clause-removes
returns-clause-removes g c = λ map t at among.
    let D = g.row.D in
    let root = c.args.root in
    let level = c.args.level in
    let id = c.args.id in
    let old = pages c.args.cache.now in
    let mid = pages c.remove_below.new.cache in
    let b = c.in_ok-remove_below.ensures.removes map t.row (may_shrink_root D old t root level id at among) in
    works_after (c.lower.ensures.lowers b.sound b.made.now (may_lower D old t root level id at among mid b.made))
    b.tidy (λ u. removes_among D old t root level id at among mid b.made (pages c.lower.new.cache))
    (λ f why there. why)
