-- An identifier is looked for in a table of its kind.
use Rattle.std.proofs.Common.{◌≡◌, IfErr, arith, subst}
use Rattle.std.specs.FinMap as map
use Rattle.page_cache.specs.Cache.{given}
use Rattle.page_file.specs.Fault.{IsOfDevice}
use Rattle.node_page.specs.Standing.{PageMap}
use Rattle.node_page.proofs.NodeLemmas.{at_error}
use Rattle.id_chains.specs.Table.{class_of}
use Rattle.id_tree.specs.Checked.{IsMet}
use Rattle.id_table.specs.Table.{IsSpot, objects_of}
use Rattle.id_table.specs.declared.asking.Spot.TheVariants.{InLeaf}
use Rattle.id_table.proofs.StepLemmas.{met_in_chain, met_in_tree, of_chains, of_tree, same_given}
use Rattle.id_table.proofs.asking.find.Goals as goal

pub returns-in_ok-kept-in-Chains-clause-found : goal.returns-in_ok-kept-in-Chains-clause-found
returns-in_ok-kept-in-Chains-clause-found g c = λ h t at s.
    of_chains g.row.D c.args.page c.args.cache.now c.kind_at.new.cache c.in_ok-kind_at.ensures.asks
    (λ t. c.in_ok-kept-in-Chains.kept ≡ map.get (objects_of t) c.args.id)
    h t at s c.in_ok-kind_at.field-0 (c.in_ok-kind_at.ensures.kind h t at s) c.in-Chains.is
    (λ ch there stands. c.in_ok-kept-in-Chains.ensures.found (c.in_ok-kind_at.ensures.asks.gate.honest.0 h) ch there stands)

pub returns-in_ok-sought-in-Tree-clause-found : goal.returns-in_ok-sought-in-Tree-clause-found
returns-in_ok-sought-in-Tree-clause-found g c = λ h t at s.
    of_tree g.row.D c.args.page c.args.cache.now c.kind_at.new.cache c.in_ok-kind_at.ensures.asks
    (λ t. c.in_ok-sought-in-Tree.sought.kept ≡ map.get (objects_of t) c.args.id)
    h t at s c.in_ok-kind_at.field-0 (c.in_ok-kind_at.ensures.kind h t at s) c.in-Tree.is
    (λ ch there stands. c.in_ok-sought-in-Tree.ensures.found (c.in_ok-kind_at.ensures.asks.gate.honest.0 h) ch there
    stands)

pub returns-in_ok-sought-in-Tree-clause-spot : goal.returns-in_ok-sought-in-Tree-clause-spot
returns-in_ok-sought-in-Tree-clause-spot g c = λ h t at s.
    of_tree g.row.D c.args.page c.args.cache.now c.kind_at.new.cache c.in_ok-kind_at.ensures.asks
    (λ t. IsSpot t c.args.id (InLeaf c.in_ok-sought-in-Tree.sought.at))
    h t at s c.in_ok-kind_at.field-0 (c.in_ok-kind_at.ensures.kind h t at s) c.in-Tree.is
    (λ ch there stands. c.in_ok-sought-in-Tree.ensures.place (c.in_ok-kind_at.ensures.asks.gate.honest.0 h) ch there
    stands)

pub returns-in_err-kept-in-Chains-clause-stands : goal.returns-in_err-kept-in-Chains-clause-stands
returns-in_err-kept-in-Chains-clause-stands g c = λ h t at s.
    of_chains g.row.D c.args.page c.args.cache.now c.kind_at.new.cache c.in_ok-kind_at.ensures.asks
    (λ t. IfErr c.from_residual-in_err-kept-in-Chains.result IsOfDevice)
    h t at s c.in_ok-kind_at.field-0 (c.in_ok-kind_at.ensures.kind h t at s) c.in-Chains.is
    (λ ch there stands. at_error c.from_residual-in_err-kept-in-Chains.result
    c.in_err-kept-in-Chains.field-0.0 IsOfDevice c.from_residual-in_err-kept-in-Chains.ensures.1
    (c.in_err-kept-in-Chains.ensures.stands (c.in_ok-kind_at.ensures.asks.gate.honest.0 h) ch there stands))

pub returns-in_err-sought-in-Tree-clause-stands : goal.returns-in_err-sought-in-Tree-clause-stands
returns-in_err-sought-in-Tree-clause-stands g c = λ h t at s.
    of_tree g.row.D c.args.page c.args.cache.now c.kind_at.new.cache c.in_ok-kind_at.ensures.asks
    (λ t. IfErr c.from_residual-in_err-sought-in-Tree.result IsOfDevice)
    h t at s c.in_ok-kind_at.field-0 (c.in_ok-kind_at.ensures.kind h t at s) c.in-Tree.is
    (λ ch there stands. at_error c.from_residual-in_err-sought-in-Tree.result
    c.in_err-sought-in-Tree.field-0.0 IsOfDevice c.from_residual-in_err-sought-in-Tree.ensures.1
    (c.in_err-sought-in-Tree.ensures.stands (c.in_ok-kind_at.ensures.asks.gate.honest.0 h) ch there stands))

pub returns-in_ok-sought-in-Tree-clause-met : goal.returns-in_ok-sought-in-Tree-clause-met
returns-in_ok-sought-in-Tree-clause-met g c = λ h.
    subst (λ (p : PageMap). IsMet g.row.D p c.args.page c.in_ok-sought-in-Tree.sought.at.leaf)
    (same_given g.row.D c.args.page c.args.cache.now c.kind_at.new.cache c.in_ok-kind_at.ensures.asks h)
    (c.in_ok-sought-in-Tree.ensures.comes (c.in_ok-kind_at.ensures.asks.gate.honest.0 h))

-- ---- the page that is damaged

pub returns-in_err-kept-in-Chains-clause-damage : goal.returns-in_err-kept-in-Chains-clause-damage
returns-in_err-kept-in-Chains-clause-damage g c = λ h.
    at_error c.from_residual-in_err-kept-in-Chains.result c.in_err-kept-in-Chains.field-0.0 _
    c.from_residual-in_err-kept-in-Chains.ensures.1
    (λ n is. met_in_chain g.row.D c.args.page (class_of c.args.id) (given c.kind_at.new.cache)
    (given c.args.cache.now) n (same_given g.row.D c.args.page c.args.cache.now c.kind_at.new.cache c.in_ok-kind_at.ensures.asks h)
    (omega arith)
    (c.in_err-kept-in-Chains.ensures.damage (c.in_ok-kind_at.ensures.asks.gate.honest.0 h) n is))

pub returns-in_err-sought-in-Tree-clause-damage : goal.returns-in_err-sought-in-Tree-clause-damage
returns-in_err-sought-in-Tree-clause-damage g c = λ h.
    at_error c.from_residual-in_err-sought-in-Tree.result c.in_err-sought-in-Tree.field-0.0 _
    c.from_residual-in_err-sought-in-Tree.ensures.1
    (λ n is. met_in_tree g.row.D c.args.page (given c.kind_at.new.cache) (given c.args.cache.now) n
    (same_given g.row.D c.args.page c.args.cache.now c.kind_at.new.cache c.in_ok-kind_at.ensures.asks h)
    (c.in_err-sought-in-Tree.ensures.damage (c.in_ok-kind_at.ensures.asks.gate.honest.0 h) n is))
