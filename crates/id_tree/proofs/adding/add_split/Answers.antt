-- The half where the identifier is takes the object.
use Rattle.id_tree.proofs.WorksLemmas.{works_after, works_handed}
use Rattle.std.proofs.Common.{true, None}
use Rattle.page_cache.specs.Cache.{pages}
use Rattle.page_cache.specs.Calls.{no_call_asks, changes_and_refuses, changes_in_turn, asks_changes, fault_in}
use Rattle.id_tree.proofs.AddLemmas.{absent_after, may_grow_half, widens_after}
use Rattle.id_tree.proofs.adding.add_split.Goals as goal

pub returns-in_err-half-clause-changes : goal.returns-in_err-half-clause-changes
returns-in_err-half-clause-changes g c =
    changes_and_refuses c.args.cache.now c.args.cache.now c.split.new.cache c.in_err-half.field-0.0
    c.from_residual.result c.from_residual.ensures.1
    (asks_changes c.args.cache.now c.args.cache.now None (no_call_asks c.args.cache.now))
    c.in_err-half.ensures.changes

pub returns-clause-changes : goal.returns-clause-changes
returns-clause-changes g c =
    changes_in_turn c.args.cache.now c.split.new.cache c.add_below.new.cache (fault_in c.add_below.result)
    c.in_ok-half.ensures.changes c.add_below.ensures.changes

pub returns-in_err-half-clause-takes : goal.returns-in_err-half-clause-takes
returns-in_err-half-clause-takes g c = λ map row full.
    works_handed (c.in_err-half.ensures.splits map true row full) c.from_residual.ensures.1 (λ why. why)

pub returns-clause-takes : goal.returns-clause-takes
returns-clause-takes g c = λ map row full.
    let D = g.row.D in
    let root = c.args.root in
    let level = c.args.level in
    let old = pages c.args.cache.now in
    let mid = pages c.split.new.cache in
    let id = c.args.object.now.0 in
    let half = c.in_ok-half.half in
    let last = c.in_ok-half.half_last in
    let splits = c.in_ok-half.ensures.splits map true row full in
    let made = splits.made in
    works_after (c.add_below.ensures.takes splits.sound made.room.way.below
    (may_grow_half D old mid root level row id c.args.child half last full made.room)) splits.tidy
    (λ u done absent. widens_after D old mid (pages c.add_below.new.cache) root level row id half last
    c.args.object.now.1 full.high made
    (done (absent_after D old mid root level true row id half last full.high made.room absent)))
    (λ f why. why)
