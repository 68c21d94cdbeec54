-- The goals of `write_both` that are proved by hand.
use Rattle.std.proofs.Common.{◌≡◌, ◌∙◌, None, Err, ap, sym, subst, IsSome, inl}
use Rattle.page_cache.specs.Cache.{pages}
use Rattle.page_cache.specs.Calls.{changes_and_refuses, changes_in_turn}
use Rattle.tree_node.specs.Nodes.{content_of}
use Rattle.node_page.specs.Standing.{PageMap}
use Rattle.node_page.proofs.NodeLemmas.{at_error}
use Rattle.node_page.proofs.PartLemmas.{there_not_missing}
use Rattle.node_page.specs.Faults.{IsNoDamage, IsChangeFault}
use Rattle.reinsert.proofs.FaultLemmas.{one_more, with_full, with_full_between}
use Rattle.reinsert.proofs.SettledLemmas.{is_some_from, splits_off}
use Rattle.reinsert.proofs.settle.write_both.Goals as goal

pub returns-in_err-number-clause-faults : goal.returns-in_err-number-clause-faults
returns-in_err-number-clause-faults g c = λ h live.
    at_error c.from_residual.result c.in_err-number.field-0.0 (IsNoDamage c.allocate.new.self)
    c.from_residual.ensures.1
    (with_full _ _ _ (c.in_err-number.ensures.faults h) (λ is. c.in_err-number.ensures.full (ap Err is)))

pub returns-in_err-write_node-clause-changes : goal.returns-in_err-write_node-clause-changes
returns-in_err-write_node-clause-changes g c =
    changes_and_refuses c.args.cache.now c.allocate.new.self c.write_node.new.cache
    c.in_err-write_node.field-0.0 c.from_residual-in_err-write_node.result
    c.from_residual-in_err-write_node.ensures.1
    c.in_ok-number.ensures.changes c.in_err-write_node.ensures.changes

pub returns-in_err-write_node-clause-faults : goal.returns-in_err-write_node-clause-faults
returns-in_err-write_node-clause-faults g c = λ h live.
    let m1 : PageMap = pages c.allocate.new.self in
    let fresh = c.in_ok-number.ensures.fresh h in
    at_error c.from_residual-in_err-write_node.result c.in_err-write_node.field-0.0
    (IsNoDamage c.write_node.new.cache) c.from_residual-in_err-write_node.ensures.1
    (inl (c.in_err-write_node.ensures.faults (c.allocate.ensures.sound h).honest
    (is_some_from (m1 c.in_ok-number.number) _ fresh.1)))

pub returns-in_err-write_node-2-clause-changes : goal.returns-in_err-write_node-2-clause-changes
returns-in_err-write_node-2-clause-changes g c =
    changes_and_refuses c.args.cache.now c.write_node.new.cache c.write_node-2.new.cache
    c.in_err-write_node-2.field-0.0 c.from_residual-in_err-write_node-2.result
    c.from_residual-in_err-write_node-2.ensures.1
    (changes_in_turn c.args.cache.now c.allocate.new.self c.write_node.new.cache None
    c.in_ok-number.ensures.changes c.in_ok-write_node.ensures.changes)
    c.in_err-write_node-2.ensures.changes

pub returns-in_err-write_node-2-clause-faults : goal.returns-in_err-write_node-2-clause-faults
returns-in_err-write_node-2-clause-faults g c = λ h live.
    let n = c.in_ok-number.number in
    let page = c.args.page in
    let m : PageMap = pages c.args.cache.now in
    let m1 : PageMap = pages c.allocate.new.self in
    let m2 : PageMap = pages c.write_node.new.cache in
    let fresh = c.in_ok-number.ensures.fresh h in
    let map1 = c.allocate.ensures.sound h in
    let live1 = is_some_from (m1 n) _ fresh.1 in
    let map2 = c.write_node.ensures.sound map1 live1 in
    let wrote = c.write_node.ensures.others map1.honest live1 in
    let differs : ¬ (page ≡ n) = λ is. there_not_missing (m page) live (ap m is ∙ fresh.0) in
    let live2 : IsSome (m2 page) = subst IsSome (sym (wrote page differs ∙ fresh.2 page differs)) live in
    at_error c.from_residual-in_err-write_node-2.result c.in_err-write_node-2.field-0.0
    (IsNoDamage c.write_node-2.new.cache) c.from_residual-in_err-write_node-2.ensures.1
    (inl (c.in_err-write_node-2.ensures.faults map2.honest live2))

pub returns-clause-changes : goal.returns-clause-changes
returns-clause-changes g c =
    changes_in_turn c.args.cache.now c.write_node.new.cache c.write_node-2.new.cache None
    (changes_in_turn c.args.cache.now c.allocate.new.self c.write_node.new.cache None
    c.in_ok-number.ensures.changes c.in_ok-write_node.ensures.changes)
    c.in_ok-write_node-2.ensures.changes

pub returns-clause-written : goal.returns-clause-written
returns-clause-written g c = λ h live.
    let n = c.in_ok-number.number in
    let page = c.args.page in
    let m : PageMap = pages c.args.cache.now in
    let m1 : PageMap = pages c.allocate.new.self in
    let m2 : PageMap = pages c.write_node.new.cache in
    let m3 : PageMap = pages c.write_node-2.new.cache in
    let fresh = c.in_ok-number.ensures.fresh h in
    let map1 = c.allocate.ensures.sound h in
    let live1 = is_some_from (m1 n) _ fresh.1 in
    let map2 = c.write_node.ensures.sound map1 live1 in
    let wrote = c.write_node.ensures.others map1.honest live1 in
    let differs : ¬ (page ≡ n) = λ is. there_not_missing (m page) live (ap m is ∙ fresh.0) in
    let live2 : IsSome (m2 page) = subst IsSome (sym (wrote page differs ∙ fresh.2 page differs)) live in
    let after = c.write_node-2.ensures.others map2.honest live2 in (
      c.write_node-2.ensures.sound map2 live2,
      splits_off g.row.D m m1 m2 m3 page n (content_of c.args.first.now) (content_of c.args.second.now) live
          fresh.0 fresh.2
          (c.in_ok-write_node.ensures.written map1.honest live1) wrote
          (c.in_ok-write_node-2.ensures.written map2.honest live2) after,
    )

pub returns-in_err-number-clause-other_faults : goal.returns-in_err-number-clause-other_faults
returns-in_err-number-clause-other_faults g c =
    at_error c.from_residual.result c.in_err-number.field-0.0 (IsChangeFault c.allocate.new.self)
    c.from_residual.ensures.1
    (with_full_between _ _ _ _ c.in_err-number.ensures.other_faults
    (λ is. c.in_err-number.ensures.full (ap Err is)))

pub returns-in_err-write_node-clause-other_faults : goal.returns-in_err-write_node-clause-other_faults
returns-in_err-write_node-clause-other_faults g c =
    at_error c.from_residual-in_err-write_node.result c.in_err-write_node.field-0.0 (IsChangeFault c.write_node.new.cache)
    c.from_residual-in_err-write_node.ensures.1 (one_more _ _ _ c.in_err-write_node.ensures.other_faults)

pub returns-in_err-write_node-2-clause-other_faults : goal.returns-in_err-write_node-2-clause-other_faults
returns-in_err-write_node-2-clause-other_faults g c =
    at_error c.from_residual-in_err-write_node-2.result c.in_err-write_node-2.field-0.0 (IsChangeFault c.write_node-2.new.cache)
    c.from_residual-in_err-write_node-2.ensures.1 (one_more _ _ _ c.in_err-write_node-2.ensures.other_faults)
