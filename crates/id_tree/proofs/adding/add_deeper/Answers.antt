-- A root that has no room is not so high that its level can't rise.
use Rattle.id_tree.proofs.WorksLemmas.{works_after, works_handed}
use Rattle.std.proofs.Common.{arith, None, ◌≡◌, inl}
use Rattle.page_cache.specs.Cache.{pages, touched_of}
use Rattle.page_cache.specs.Calls.{no_call_asks, changes_and_refuses, changes_in_turn, asks_changes, fault_in}
use Rattle.page_cache.specs.Laws.{a_live_page_was_given_out}
use Rattle.node_page.proofs.NodeLemmas.{at_error}
use Rattle.id_tree.specs.Tree.{end, more, child, links_of}
use Rattle.id_tree.proofs.AddLemmas.{absent_deep, full_below_root, sets_deep}
use Rattle.id_tree.proofs.CountLemmas.{below_limit, not_so_high}
use Rattle.id_tree.proofs.RootLemmas.{absent_of, root_fork}
use Rattle.page_file.specs.declared.fault.Fault.TheVariants as fault
use Rattle.id_tree.proofs.DamageLemmas.{damaged_is}
use Rattle.id_words.proofs.WriteLemmas.{not_both}
use Rattle.id_tree.proofs.adding.add_deeper.Goals as goal

pub returns-in_err-child-clause-changes : goal.returns-in_err-child-clause-changes
returns-in_err-child-clause-changes g c =
    changes_and_refuses c.args.cache.now c.args.cache.now c.deepen.new.cache c.in_err-child.field-0.0
    c.from_residual.result c.from_residual.ensures.1
    (asks_changes c.args.cache.now c.args.cache.now None (no_call_asks c.args.cache.now))
    c.in_err-child.ensures.changes

pub returns-clause-changes : goal.returns-clause-changes
returns-clause-changes g c =
    changes_in_turn c.args.cache.now c.deepen.new.cache c.add_split.new.cache (fault_in c.add_split.result)
    c.in_ok-child.ensures.changes c.add_split.ensures.changes

pub returns-then-level-ge-MOST_LEVELS-clause-damage : goal.returns-then-level-ge-MOST_LEVELS-clause-damage
returns-then-level-ge-MOST_LEVELS-clause-damage g c =
    λ h none n (damaged : fault.Damaged c.args.root ≡ fault.Damaged n). inl (damaged_is c.args.root n damaged)

pub returns-in_err-child-clause-damage : goal.returns-in_err-child-clause-damage
returns-in_err-child-clause-damage g c = λ h none.
    at_error c.from_residual.result c.in_err-child.field-0.0 _
    c.from_residual.ensures.1 (c.in_err-child.ensures.damage h none)

pub returns-clause-damage : goal.returns-clause-damage
returns-clause-damage g c = λ h none.
    absurd (not_both (touched_of c.add_split.new.cache)
    (c.add_split.ensures.changes.touched c.in_ok-child.ensures.touched) none)

pub returns-then-level-ge-MOST_LEVELS-clause-takes : goal.returns-then-level-ge-MOST_LEVELS-clause-takes
returns-then-level-ge-MOST_LEVELS-clause-takes g c = λ map t at full.
    absurd (not_so_high g.row.D (pages c.args.cache.now) t c.args.level
    (λ n there. let given = a_live_page_was_given_out c.args.cache.now n there in
    below_limit n _ given.1 given.2) full c.if-level-ge-MOST_LEVELS.true)

pub returns-in_err-child-clause-takes : goal.returns-in_err-child-clause-takes
returns-in_err-child-clause-takes g c = λ map t at full.
    works_handed (c.in_err-child.ensures.deepens map (record { level = t.level; links = links_of t.row })
    (root_fork g.row.D (pages c.args.cache.now) c.args.root t at full.stands)) c.from_residual.ensures.1
    (λ why. why)

pub returns-clause-takes : goal.returns-clause-takes
returns-clause-takes g c = λ map t at full.
    let D = g.row.D in
    let root = c.args.root in
    let level = c.args.level in
    let old = pages c.args.cache.now in
    let mid = pages c.deepen.new.cache in
    let id = c.args.object.now.0 in
    let number = c.in_ok-child.child in
    let d = c.in_ok-child.ensures.deepens map (record { level = t.level; links = links_of t.row })
    (root_fork D old root t at full.stands) in
    works_after (c.add_split.ensures.takes d.sound (more (child 0 number t.row) end)
    (full_below_root D old mid t root level number at full d.made id)) d.tidy
    (λ u wide absent. let gone = absent_of t id absent in
    sets_deep D old mid t root level number at full d.made (pages c.add_split.new.cache) id
    c.args.object.now.1 (omega (arith, c.if-level-ge-MOST_LEVELS.false)) gone
    (wide (absent_deep D old mid t root level number at full d.made id gone)))
    (λ f why. why)
