-- A table of its kind is freed.
use Rattle.std.proofs.Common.{IfErr, OnOk, inr}
use Rattle.page_cache.specs.Cache.{IsPageMap, given, pages}
use Rattle.page_file.specs.Fault.{IsOfDevice}
use Rattle.node_page.specs.Parts.{Moves, no_page}
use Rattle.id_table.specs.Table.{part_of}
use Rattle.id_table.proofs.StepLemmas.{moves_on, of_chains, of_tree, on_ok, same_pages}
use Rattle.node_page.proofs.NodeLemmas.{at_error, if_error}
use Rattle.id_table.proofs.StepLemmas.{met_at_once, met_in_chains, met_in_tree, same_given}
use Rattle.id_table.proofs.changing.free_all.Goals as goal

pub returns-in-Chains-clause-sound : goal.returns-in-Chains-clause-sound
returns-in-Chains-clause-sound g c = λ sound t at s.
    of_chains g.row.D c.args.page c.args.cache.now c.kind_at.new.cache c.in_ok-kind_at.ensures.asks
    (λ t. IsPageMap c.free_all.new.cache)
    sound.honest t at s c.in_ok-kind_at.field-0 (c.in_ok-kind_at.ensures.kind sound.honest t at s)
    c.in-Chains.is
    (λ ch there stands. c.free_all.ensures.sound (c.in_ok-kind_at.ensures.asks.map.sound.0 sound) ch there stands)

pub returns-in-Chains-clause-freed : goal.returns-in-Chains-clause-freed
returns-in-Chains-clause-freed g c = λ sound t at s.
    of_chains g.row.D c.args.page c.args.cache.now c.kind_at.new.cache c.in_ok-kind_at.ensures.asks
    (λ t. OnOk c.free_all.result (Moves (pages c.args.cache.now) (pages c.free_all.new.cache) (part_of t) no_page))
    sound.honest t at s c.in_ok-kind_at.field-0 (c.in_ok-kind_at.ensures.kind sound.honest t at s)
    c.in-Chains.is
    (λ ch there stands. on_ok c.free_all.result
    (moves_on
    (same_pages g.row.D c.args.page c.args.cache.now c.kind_at.new.cache c.in_ok-kind_at.ensures.asks sound.honest))
    (c.free_all.ensures.freed (c.in_ok-kind_at.ensures.asks.map.sound.0 sound) ch there stands))

pub returns-in-Chains-clause-faults : goal.returns-in-Chains-clause-faults
returns-in-Chains-clause-faults g c = λ sound t at s.
    of_chains g.row.D c.args.page c.args.cache.now c.kind_at.new.cache c.in_ok-kind_at.ensures.asks
    (λ t. IfErr c.free_all.result IsOfDevice)
    sound.honest t at s c.in_ok-kind_at.field-0 (c.in_ok-kind_at.ensures.kind sound.honest t at s)
    c.in-Chains.is
    (λ ch there stands. c.free_all.ensures.faults (c.in_ok-kind_at.ensures.asks.map.sound.0 sound) ch there stands)

pub returns-in-Tree-clause-sound : goal.returns-in-Tree-clause-sound
returns-in-Tree-clause-sound g c = λ sound t at s.
    of_tree g.row.D c.args.page c.args.cache.now c.kind_at.new.cache c.in_ok-kind_at.ensures.asks
    (λ t. IsPageMap c.free_all-in-Tree.new.cache)
    sound.honest t at s c.in_ok-kind_at.field-0 (c.in_ok-kind_at.ensures.kind sound.honest t at s)
    c.in-Tree.is
    (λ ch there stands. c.free_all-in-Tree.ensures.sound (c.in_ok-kind_at.ensures.asks.map.sound.0 sound) ch there stands)

pub returns-in-Tree-clause-freed : goal.returns-in-Tree-clause-freed
returns-in-Tree-clause-freed g c = λ sound t at s.
    of_tree g.row.D c.args.page c.args.cache.now c.kind_at.new.cache c.in_ok-kind_at.ensures.asks
    (λ t. OnOk c.free_all-in-Tree.result (Moves (pages c.args.cache.now) (pages c.free_all-in-Tree.new.cache) (part_of t) no_page))
    sound.honest t at s c.in_ok-kind_at.field-0 (c.in_ok-kind_at.ensures.kind sound.honest t at s)
    c.in-Tree.is
    (λ ch there stands. on_ok c.free_all-in-Tree.result
    (moves_on
    (same_pages g.row.D c.args.page c.args.cache.now c.kind_at.new.cache c.in_ok-kind_at.ensures.asks sound.honest))
    (c.free_all-in-Tree.ensures.freed (c.in_ok-kind_at.ensures.asks.map.sound.0 sound) ch there stands))

pub returns-in-Tree-clause-faults : goal.returns-in-Tree-clause-faults
returns-in-Tree-clause-faults g c = λ sound t at s.
    of_tree g.row.D c.args.page c.args.cache.now c.kind_at.new.cache c.in_ok-kind_at.ensures.asks
    (λ t. IfErr c.free_all-in-Tree.result IsOfDevice)
    sound.honest t at s c.in_ok-kind_at.field-0 (c.in_ok-kind_at.ensures.kind sound.honest t at s)
    c.in-Tree.is
    (λ ch there stands. c.free_all-in-Tree.ensures.faults (c.in_ok-kind_at.ensures.asks.map.sound.0 sound) ch there stands)

-- ---- the page that is damaged

pub returns-in_err-kind_at-clause-damage : goal.returns-in_err-kind_at-clause-damage
returns-in_err-kind_at-clause-damage g c = λ h quiet.
    at_error c.from_residual.result c.in_err-kind_at.field-0.0 _
    c.from_residual.ensures.1
    (met_at_once g.row.D c.args.page (given c.args.cache.now) c.in_err-kind_at.field-0.0
    (c.in_err-kind_at.ensures.damage h))

pub returns-in-Chains-clause-damage : goal.returns-in-Chains-clause-damage
returns-in-Chains-clause-damage g c = λ h quiet.
    if_error c.free_all.result _ _
    (λ f met n is. met_in_chains g.row.D c.args.page (given c.kind_at.new.cache) (given c.args.cache.now) n
    (same_given g.row.D c.args.page c.args.cache.now c.kind_at.new.cache c.in_ok-kind_at.ensures.asks h) (met n is))
    (c.free_all.ensures.damage (c.in_ok-kind_at.ensures.asks.gate.honest.0 h) (inr quiet))

pub returns-in-Tree-clause-damage : goal.returns-in-Tree-clause-damage
returns-in-Tree-clause-damage g c = λ h quiet.
    if_error c.free_all-in-Tree.result _ _
    (λ f met n is. met_in_tree g.row.D c.args.page (given c.kind_at.new.cache) (given c.args.cache.now) n
    (same_given g.row.D c.args.page c.args.cache.now c.kind_at.new.cache c.in_ok-kind_at.ensures.asks h) (met n is))
    (c.free_all-in-Tree.ensures.damage (c.in_ok-kind_at.ensures.asks.gate.honest.0 h) quiet)
