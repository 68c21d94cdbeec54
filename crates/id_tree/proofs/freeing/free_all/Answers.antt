-- The root is freed as a node.
use Rattle.std.proofs.Common.{ℕ, subst, sym}
use Rattle.page_file.specs.Fault.{IsOfDevice}
use Rattle.page_cache.specs.Cache.{pages, given}
use Rattle.page_cache.specs.Calls.{no_call_asks, asks_and_changes, asks_and_gives_up}
use Rattle.node_page.specs.Parts.{Moves, no_page}
use Rattle.node_page.proofs.NodeLemmas.{on_ok, at_error}
use Rattle.node_page.proofs.PartLemmas.{moves_from}
use Rattle.id_tree.specs.Rows.{part_at}
use Rattle.id_tree.specs.Tree.{links_of, part_of}
use Rattle.id_tree.proofs.FreeLemmas.{root_node}
use Rattle.id_tree.proofs.RootLemmas.{root_fork}
use Rattle.id_tree.proofs.ResultLemmas.{if_err}
use Rattle.id_tree.proofs.DamageLemmas.{comes_at}
use Rattle.id_tree.proofs.GivenLemmas.{comes_so}
use Rattle.id_tree.proofs.freeing.free_all.Goals as goal

pub returns-in_err-way-clause-changes : goal.returns-in_err-way-clause-changes
returns-in_err-way-clause-changes g c =
    asks_and_gives_up c.args.cache.now c.args.cache.now c.step.new.cache c.in_err-way.field-0.0
    c.from_residual.result c.from_residual.ensures.1 (no_call_asks c.args.cache.now)
    c.in_err-way.ensures.asks

pub returns-in_err-way-clause-faults : goal.returns-in_err-way-clause-faults
returns-in_err-way-clause-faults g c = λ map t at stands.
    at_error c.from_residual.result c.in_err-way.field-0.0 IsOfDevice c.from_residual.ensures.1
    (c.in_err-way.ensures.there map.honest (record { level = t.level; links = links_of t.row })
    (root_fork g.row.D (pages c.args.cache.now) c.args.root t at stands))

pub returns-clause-changes : goal.returns-clause-changes
returns-clause-changes g c = asks_and_changes c.args.cache.now c.step.new.cache c.free_node.new.cache
    c.free_node.result c.in_ok-way.ensures.asks c.free_node.ensures.changes

pub returns-in_err-way-clause-damage : goal.returns-in_err-way-clause-damage
returns-in_err-way-clause-damage g c = λ h none.
    at_error c.from_residual.result c.in_err-way.field-0.0 _ c.from_residual.ensures.1 (λ n damaged.
    comes_at g.row.D (given c.args.cache.now) c.args.root n c.in_err-way.field-0.0
    (c.in_err-way.ensures.damage h) damaged)

pub returns-clause-damage : goal.returns-clause-damage
returns-clause-damage g c = λ h none.
    let asks = c.in_ok-way.ensures.asks in
    if_err c.free_node.result _ _
    (λ f comes n damaged. comes_so g.row.D (given c.args.cache.now) (given c.step.new.cache) c.args.root n
    (asks.map.given_stay h) (comes n damaged)) (c.free_node.ensures.damage (asks.gate.honest.0 h) none)

pub returns-clause-freed : goal.returns-clause-freed
returns-clause-freed g c = λ map t at stands.
    let D = g.row.D in
    let old = pages c.args.cache.now in
    let mid = pages c.step.new.cache in
    let asks = c.in_ok-way.ensures.asks in
    let same = asks.map.pages_stay map.honest in
    let level = c.in_ok-way.ensures.level map.honest (record { level = t.level; links = links_of t.row })
    (root_fork D old c.args.root t at stands) in
    let frees = c.free_node.ensures.frees (asks.map.sound.0 map) _ t.row
    (root_node D old mid t c.args.root c.in_ok-way.way.level at level same stands) in
    let new = pages c.free_node.new.cache in
    on_ok c.free_node.result (λ moves. moves_from old mid new (part_of t) no_page same
    (subst (λ (p : ℕ). Moves mid new (part_at p t.row) no_page) (sym at) moves)) frees.freed

pub returns-clause-sound : goal.returns-clause-sound
returns-clause-sound g c = λ map t at stands.
    let D = g.row.D in
    let old = pages c.args.cache.now in
    let mid = pages c.step.new.cache in
    let asks = c.in_ok-way.ensures.asks in
    let same = asks.map.pages_stay map.honest in
    let level = c.in_ok-way.ensures.level map.honest (record { level = t.level; links = links_of t.row })
    (root_fork D old c.args.root t at stands) in
    let frees = c.free_node.ensures.frees (asks.map.sound.0 map) _ t.row
    (root_node D old mid t c.args.root c.in_ok-way.way.level at level same stands) in
    frees.sound

pub returns-clause-faults : goal.returns-clause-faults
returns-clause-faults g c = λ map t at stands.
    let D = g.row.D in
    let old = pages c.args.cache.now in
    let mid = pages c.step.new.cache in
    let asks = c.in_ok-way.ensures.asks in
    let same = asks.map.pages_stay map.honest in
    let level = c.in_ok-way.ensures.level map.honest (record { level = t.level; links = links_of t.row })
    (root_fork D old c.args.root t at stands) in
    let frees = c.free_node.ensures.frees (asks.map.sound.0 map) _ t.row
    (root_node D old mid t c.args.root c.in_ok-way.way.level at level same stands) in
    frees.faults
