-- The goals of `grow` that are proved by hand.
use Rattle.std.proofs.Common.{◌≡◌, ◌∙◌, inl, ◌+◌, List, [], ◌∷◌, ◌++◌, Err, None, Some, map, ap}
use Rattle.page_cache.specs.Cache.{pages}
use Rattle.tree_node.specs.declared.node.Entry.{Entry}
use Rattle.tree_node.specs.Nodes.{NodeContent, item_of}
use Rattle.node_page.specs.Standing.{PageMap}
use Rattle.reinsert.proofs.SettledLemmas.{is_some_from}
use Rattle.page_cache.specs.Calls.{changes_and_refuses, changes_in_turn}
use Rattle.node_page.proofs.NodeLemmas.{at_error}
use Rattle.node_page.specs.Faults.{IsNoDamage, IsChangeFault}
use Rattle.reinsert.proofs.FaultLemmas.{one_more, with_full, with_full_between}
use Rattle.reinsert.proofs.grow.grow.Goals as goal

pub returns-in_err-page-clause-faults : goal.returns-in_err-page-clause-faults
returns-in_err-page-clause-faults g c = λ h low.
    at_error c.from_residual.result c.in_err-page.field-0.0 (IsNoDamage c.allocate.new.self)
    c.from_residual.ensures.1
    (with_full _ _ _ (c.in_err-page.ensures.faults h) (λ is. c.in_err-page.ensures.full (ap Err is)))

pub returns-in_err-write_node-clause-changes : goal.returns-in_err-write_node-clause-changes
returns-in_err-write_node-clause-changes g c =
    changes_and_refuses c.args.cache.now c.allocate.new.self c.write_node.new.cache
    c.in_err-write_node.field-0.0 c.from_residual-in_err-write_node.result
    c.from_residual-in_err-write_node.ensures.1
    c.in_ok-page.ensures.changes c.in_err-write_node.ensures.changes

pub returns-clause-changes : goal.returns-clause-changes
returns-clause-changes g c =
    changes_in_turn c.args.cache.now c.allocate.new.self c.write_node.new.cache None
    c.in_ok-page.ensures.changes c.in_ok-write_node.ensures.changes

pub returns-clause-grown : goal.returns-clause-grown
returns-clause-grown g c = λ h.
    let D = g.row.D in
    let n = c.in_ok-page.page in
    let m1 : PageMap = pages c.allocate.new.self in
    let a : Entry D = record { bounds = c.args.bounds; reference = c.from.result; tag = 0 } in
    let b : Entry D = c.args.beside in
    let items : c.push-2.new.self.items ≡ a ∷ b ∷ [] = c.push-2.ensures.items
    ∙ ap (λ (xs : List (Entry D)). xs ++ b ∷ [])
    (c.push.ensures.items ∙ ap (λ (xs : List (Entry D)). xs ++ a ∷ []) c.new-entries.ensures) in
    let fresh = c.in_ok-page.ensures.fresh h in
    let map1 = c.allocate.ensures.sound h in
    let live1 = is_some_from (m1 n) _ fresh.1 in (
      c.write_node.ensures.sound map1 live1,
      record {
        free = fresh.0;
        there = c.in_ok-write_node.ensures.written map1.honest live1
            ∙ ap (λ (xs : List (Entry D)). let x : NodeContent =
            record { level = c.args.root.level + 1; entries = map item_of xs } in Some x) items
            ∙ ap (λ r. let x : NodeContent =
            record {
              level = c.args.root.level + 1;
              entries = record { bounds = c.args.bounds; reference = r; tag = 0 } ∷ item_of b ∷ [];
            } in
            Some x) c.from.ensures;
        others = λ k differs. c.write_node.ensures.others map1.honest live1 k differs ∙ fresh.2 k differs;
      },
    )

pub returns-in_err-page-clause-other_faults : goal.returns-in_err-page-clause-other_faults
returns-in_err-page-clause-other_faults g c =
    at_error c.from_residual.result c.in_err-page.field-0.0 (IsChangeFault c.allocate.new.self)
    c.from_residual.ensures.1
    (with_full_between _ _ _ _ c.in_err-page.ensures.other_faults
    (λ is. c.in_err-page.ensures.full (ap Err is)))

pub returns-in_err-write_node-clause-other_faults : goal.returns-in_err-write_node-clause-other_faults
returns-in_err-write_node-clause-other_faults g c =
    at_error c.from_residual-in_err-write_node.result c.in_err-write_node.field-0.0 (IsChangeFault c.write_node.new.cache)
    c.from_residual-in_err-write_node.ensures.1 (one_more _ _ _ c.in_err-write_node.ensures.other_faults)

pub returns-clause-touched : goal.returns-clause-touched
returns-clause-touched g c = c.in_ok-write_node.ensures.changes.touched c.in_ok-page.ensures.touched

pub returns-in_err-page-clause-damaged : goal.returns-in_err-page-clause-damaged
returns-in_err-page-clause-damaged g c = λ h.
    at_error c.from_residual.result c.in_err-page.field-0.0
    _ c.from_residual.ensures.1
    (inl (with_full _ _ _ (c.in_err-page.ensures.faults h) (λ is. c.in_err-page.ensures.full (ap Err is))))

pub returns-in_err-write_node-clause-damaged : goal.returns-in_err-write_node-clause-damaged
returns-in_err-write_node-clause-damaged g c = λ h.
    let m1 : PageMap = pages c.allocate.new.self in
    let fresh = c.in_ok-page.ensures.fresh h in
    at_error c.from_residual-in_err-write_node.result c.in_err-write_node.field-0.0 _
    c.from_residual-in_err-write_node.ensures.1
    (inl (inl (c.in_err-write_node.ensures.faults (c.allocate.ensures.sound h).honest
    (is_some_from (m1 c.in_ok-page.page) _ fresh.1))))
