-- A page given out, and then written.
use Rattle.std.proofs.Common.{◌∙◌, None, List, ℕ, Option, inl, inr, refl, subst, sym, ⊎_elim}
use Rattle.std.specs.Prelude.{IsSome}
use Rattle.page_cache.specs.Calls.{changes_and_refuses, changes_in_turn}
use Rattle.node_page.proofs.NodeLemmas.{at_error}
use Rattle.node_page.specs.Faults.{IsChangeFault, IsNoDamage}
use Rattle.bulk_load.proofs.nodes.write_new.Goals as goal

pub returns-in_err-write_node-clause-changes : goal.returns-in_err-write_node-clause-changes
returns-in_err-write_node-clause-changes g c =
    changes_and_refuses c.args.cache.now c.allocate.new.self c.write_node.new.cache
    c.in_err-write_node.field-0.0 c.from_residual-in_err-write_node.result
    c.from_residual-in_err-write_node.ensures.1 c.in_ok-page.ensures.changes
    c.in_err-write_node.ensures.changes

pub returns-clause-changes : goal.returns-clause-changes
returns-clause-changes g c =
    changes_in_turn c.args.cache.now c.allocate.new.self c.write_node.new.cache None
    c.in_ok-page.ensures.changes c.in_ok-write_node.ensures.changes

pub returns-clause-others : goal.returns-clause-others
returns-clause-others g c = λ map k other.
    let given = c.in_ok-page.ensures.fresh map in
    let live = subst (λ (page : Option (List ℕ)). IsSome page) (sym given.1) refl in
    c.in_ok-write_node.ensures.others (c.in_ok-page.ensures.sound map).honest live k other ∙ given.2 k other

pub returns-in_err-page-clause-faults : goal.returns-in_err-page-clause-faults
returns-in_err-page-clause-faults g c = λ map.
    at_error c.from_residual.result c.in_err-page.field-0.0 (IsNoDamage c.allocate.new.self)
    c.from_residual.ensures.1
    (⊎_elim (λ device. inl device) (λ none. inr (none, c.in_err-page.ensures.full (cc none)))
    (c.in_err-page.ensures.faults map))

pub returns-in_err-page-clause-other_faults : goal.returns-in_err-page-clause-other_faults
returns-in_err-page-clause-other_faults g c =
    at_error c.from_residual.result c.in_err-page.field-0.0 (IsChangeFault c.allocate.new.self)
    c.from_residual.ensures.1
    (⊎_elim inl
    (λ rest. inr (⊎_elim (λ none. inl (none, c.in_err-page.ensures.full (cc none))) (λ damaged. inr damaged) rest))
    c.in_err-page.ensures.other_faults)

pub returns-in_err-write_node-clause-other_faults : goal.returns-in_err-write_node-clause-other_faults
returns-in_err-write_node-clause-other_faults g c =
    at_error c.from_residual-in_err-write_node.result c.in_err-write_node.field-0.0 (IsChangeFault c.write_node.new.cache)
    c.from_residual-in_err-write_node.ensures.1
    (⊎_elim inl (λ damaged. inr (inr damaged)) c.in_err-write_node.ensures.other_faults)
