-- A table of its kind is checked.
use Rattle.std.proofs.Common.{None}
use Rattle.page_file.specs.Fault.{IsOfDevice}
use Rattle.page_cache.specs.Cache.{given, pages}
use Rattle.page_cache.specs.Calls.{asks_and_refuses, asks_in_turn}
use Rattle.node_page.proofs.NodeLemmas.{at_error}
use Rattle.id_table.proofs.StepLemmas.{chains_checked, comes_along_chains, comes_at_once, comes_down_tree}
use Rattle.id_table.proofs.StepLemmas.{of_chains, of_tree, same_given, same_pages, tree_checked}
use Rattle.id_table.proofs.asking.check_table.Goals as goal

pub returns-in_err-kind_at-clause-damage : goal.returns-in_err-kind_at-clause-damage
returns-in_err-kind_at-clause-damage g c = λ h.
    at_error c.from_residual.result c.in_err-kind_at.field-0.0 _
    c.from_residual.ensures.1
    (comes_at_once g.row.D c.args.page (given c.args.cache.now) c.in_err-kind_at.field-0.0
    (c.in_err-kind_at.ensures.damage h))

-- ---- chains

pub returns-in_err-facts-in-Chains-clause-asks : goal.returns-in_err-facts-in-Chains-clause-asks
returns-in_err-facts-in-Chains-clause-asks g c =
    asks_and_refuses c.args.cache.now c.kind_at.new.cache c.check_table.new.cache c.in_err-facts-in-Chains.field-0.0
    c.from_residual-in_err-facts-in-Chains.result c.from_residual-in_err-facts-in-Chains.ensures.1
    c.in_ok-kind_at.ensures.asks c.in_err-facts-in-Chains.ensures.asks

pub returns-in_err-facts-in-Chains-clause-stands : goal.returns-in_err-facts-in-Chains-clause-stands
returns-in_err-facts-in-Chains-clause-stands g c = λ h t at s.
    at_error c.from_residual-in_err-facts-in-Chains.result c.in_err-facts-in-Chains.field-0.0 IsOfDevice
    c.from_residual-in_err-facts-in-Chains.ensures.1
    (of_chains g.row.D c.args.page c.args.cache.now c.kind_at.new.cache c.in_ok-kind_at.ensures.asks
    (λ t. IsOfDevice c.in_err-facts-in-Chains.field-0.0)
    h t at s c.in_ok-kind_at.field-0 (c.in_ok-kind_at.ensures.kind h t at s) c.in-Chains.is
    (λ ch there stands. c.in_err-facts-in-Chains.ensures.stands (c.in_ok-kind_at.ensures.asks.gate.honest.0 h) ch there stands))

pub returns-in_err-facts-in-Chains-clause-damage : goal.returns-in_err-facts-in-Chains-clause-damage
returns-in_err-facts-in-Chains-clause-damage g c = λ h.
    at_error c.from_residual-in_err-facts-in-Chains.result c.in_err-facts-in-Chains.field-0.0 _
    c.from_residual-in_err-facts-in-Chains.ensures.1
    (λ n is. comes_along_chains g.row.D c.args.page (given c.kind_at.new.cache) (given c.args.cache.now) n
    (same_given g.row.D c.args.page c.args.cache.now c.kind_at.new.cache c.in_ok-kind_at.ensures.asks h)
    (c.in_err-facts-in-Chains.ensures.damage (c.in_ok-kind_at.ensures.asks.gate.honest.0 h) n is))

pub returns-in_ok-facts-in-Chains-clause-asks : goal.returns-in_ok-facts-in-Chains-clause-asks
returns-in_ok-facts-in-Chains-clause-asks g c =
    asks_in_turn c.args.cache.now c.kind_at.new.cache c.check_table.new.cache None c.in_ok-kind_at.ensures.asks c.in_ok-facts-in-Chains.ensures.asks

pub returns-in_ok-facts-in-Chains-clause-table : goal.returns-in_ok-facts-in-Chains-clause-table
returns-in_ok-facts-in-Chains-clause-table g c = λ sound.
    chains_checked g.row.D c.args.page (pages c.kind_at.new.cache) (pages c.args.cache.now)
    c.in_ok-facts-in-Chains.facts.pairs.items c.in_ok-facts-in-Chains.facts.pages.items
    (same_pages g.row.D c.args.page c.args.cache.now c.kind_at.new.cache c.in_ok-kind_at.ensures.asks sound.honest)
    (c.in_ok-facts-in-Chains.ensures.table (c.in_ok-kind_at.ensures.asks.map.sound.0 sound))

pub returns-in_ok-facts-in-Chains-clause-given_table :
    goal.returns-in_ok-facts-in-Chains-clause-given_table
returns-in_ok-facts-in-Chains-clause-given_table g c = λ h.
    chains_checked g.row.D c.args.page (given c.kind_at.new.cache) (given c.args.cache.now)
    c.in_ok-facts-in-Chains.facts.pairs.items c.in_ok-facts-in-Chains.facts.pages.items
    (same_given g.row.D c.args.page c.args.cache.now c.kind_at.new.cache c.in_ok-kind_at.ensures.asks h)
    (c.in_ok-facts-in-Chains.ensures.given_table (c.in_ok-kind_at.ensures.asks.gate.honest.0 h))

-- ---- a tree

pub returns-in_err-facts-in-Tree-clause-asks : goal.returns-in_err-facts-in-Tree-clause-asks
returns-in_err-facts-in-Tree-clause-asks g c =
    asks_and_refuses c.args.cache.now c.kind_at.new.cache c.check_table-in-Tree.new.cache c.in_err-facts-in-Tree.field-0.0
    c.from_residual-in_err-facts-in-Tree.result c.from_residual-in_err-facts-in-Tree.ensures.1
    c.in_ok-kind_at.ensures.asks c.in_err-facts-in-Tree.ensures.asks

pub returns-in_err-facts-in-Tree-clause-stands : goal.returns-in_err-facts-in-Tree-clause-stands
returns-in_err-facts-in-Tree-clause-stands g c = λ h t at s.
    at_error c.from_residual-in_err-facts-in-Tree.result c.in_err-facts-in-Tree.field-0.0 IsOfDevice
    c.from_residual-in_err-facts-in-Tree.ensures.1
    (of_tree g.row.D c.args.page c.args.cache.now c.kind_at.new.cache c.in_ok-kind_at.ensures.asks
    (λ t. IsOfDevice c.in_err-facts-in-Tree.field-0.0)
    h t at s c.in_ok-kind_at.field-0 (c.in_ok-kind_at.ensures.kind h t at s) c.in-Tree.is
    (λ ch there stands. c.in_err-facts-in-Tree.ensures.stands (c.in_ok-kind_at.ensures.asks.gate.honest.0 h) ch there stands))

pub returns-in_err-facts-in-Tree-clause-damage : goal.returns-in_err-facts-in-Tree-clause-damage
returns-in_err-facts-in-Tree-clause-damage g c = λ h.
    at_error c.from_residual-in_err-facts-in-Tree.result c.in_err-facts-in-Tree.field-0.0 _
    c.from_residual-in_err-facts-in-Tree.ensures.1
    (λ n is. comes_down_tree g.row.D c.args.page (given c.kind_at.new.cache) (given c.args.cache.now) n
    (same_given g.row.D c.args.page c.args.cache.now c.kind_at.new.cache c.in_ok-kind_at.ensures.asks h)
    (c.in_err-facts-in-Tree.ensures.damage (c.in_ok-kind_at.ensures.asks.gate.honest.0 h) n is))

pub returns-in_ok-facts-in-Tree-clause-asks : goal.returns-in_ok-facts-in-Tree-clause-asks
returns-in_ok-facts-in-Tree-clause-asks g c =
    asks_in_turn c.args.cache.now c.kind_at.new.cache c.check_table-in-Tree.new.cache None c.in_ok-kind_at.ensures.asks c.in_ok-facts-in-Tree.ensures.asks

pub returns-in_ok-facts-in-Tree-clause-table : goal.returns-in_ok-facts-in-Tree-clause-table
returns-in_ok-facts-in-Tree-clause-table g c = λ sound.
    tree_checked g.row.D c.args.page (pages c.kind_at.new.cache) (pages c.args.cache.now)
    c.in_ok-facts-in-Tree.facts.pairs.items c.in_ok-facts-in-Tree.facts.pages.items
    (same_pages g.row.D c.args.page c.args.cache.now c.kind_at.new.cache c.in_ok-kind_at.ensures.asks sound.honest)
    (c.in_ok-facts-in-Tree.ensures.table (c.in_ok-kind_at.ensures.asks.map.sound.0 sound))

pub returns-in_ok-facts-in-Tree-clause-given_table :
    goal.returns-in_ok-facts-in-Tree-clause-given_table
returns-in_ok-facts-in-Tree-clause-given_table g c = λ h.
    tree_checked g.row.D c.args.page (given c.kind_at.new.cache) (given c.args.cache.now)
    c.in_ok-facts-in-Tree.facts.pairs.items c.in_ok-facts-in-Tree.facts.pages.items
    (same_given g.row.D c.args.page c.args.cache.now c.kind_at.new.cache c.in_ok-kind_at.ensures.asks h)
    (c.in_ok-facts-in-Tree.ensures.given_table (c.in_ok-kind_at.ensures.asks.gate.honest.0 h))
