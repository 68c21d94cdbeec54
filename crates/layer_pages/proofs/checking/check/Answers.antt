-- The tree is checked, the table, and what they have in common.
use Rattle.std.proofs.Common.{ℕ, None, Vec, Bor, inl, inr, sym}
use Rattle.page_file.specs.Fault.{IsOfDevice}
use Rattle.page_cache.specs.Cache.{given, pages}
use Rattle.page_cache.specs.Calls.{asks_and_refuses, asks_in_turn}
use Rattle.node_page.proofs.NodeLemmas.{at_error}
use Rattle.id_table.proofs.TableLemmas.{ids_stay}
use Rattle.layer_pages.proofs.CheckLemmas.{comes_oddly, comes_on}
use Rattle.layer_pages.proofs.CheckLemmas.{all_checked, if_err, layer_given, listed_there, pairs_there}
use Rattle.layer_pages.proofs.CheckLemmas.{quiet_asks}
use Rattle.layer_pages.proofs.CheckLemmas.{table_on}
use Rattle.layer_pages.proofs.checking.check.Goals as goal

pub returns-in_err-table-clause-asks : goal.returns-in_err-table-clause-asks
returns-in_err-table-clause-asks g c =
    asks_and_refuses c.args.cache.now c.check_tree.new.cache c.check_table.new.cache c.in_err-table.field-0.0
    c.from_residual-in_err-table.result c.from_residual-in_err-table.ensures.1 c.in_ok-tree.ensures.asks
    c.in_err-table.ensures.asks

pub returns-in_err-table-clause-stands : goal.returns-in_err-table-clause-stands
returns-in_err-table-clause-stands g c = λ h l objects is count_is.
    let a = c.in_ok-tree.ensures.asks in
    at_error c.from_residual-in_err-table.result c.in_err-table.field-0.0 IsOfDevice
    c.from_residual-in_err-table.ensures.1
    (c.in_err-table.ensures.stands (a.gate.honest.0 h) l.ids is.ids_root_is
    (ids_stay g.row.D (pages c.args.cache.now) (pages c.check_tree.new.cache) l.ids
    (λ n p. a.map.pages_stay h n) is.ids))

pub returns-clause-asks : goal.returns-clause-asks
returns-clause-asks g c =
    quiet_asks c.args.cache.now c.check_table.new.cache c.pages_of_both.result c.pages_of_both.ensures.faults
    (asks_in_turn c.args.cache.now c.check_tree.new.cache c.check_table.new.cache None
    c.in_ok-tree.ensures.asks c.in_ok-table.ensures.asks)

pub returns-clause-layer : goal.returns-clause-layer
returns-clause-layer g c = λ sound.
    let a = c.in_ok-tree.ensures.asks in
    let old = pages c.args.cache.now in
    let held = c.in_ok-tree.tree in
    let listed = c.in_ok-table.table in
    all_checked g.row.D c.args.fanout old c.args.root c.args.ids_root c.args.count held.pairs.items
    listed.pairs.items held.pages.items listed.pages.items (c.in_ok-tree.ensures.tree sound)
    (table_on g.row.D (pages c.check_tree.new.cache) old c.args.ids_root listed.pairs.items
    listed.pages.items (λ n. sym (a.map.pages_stay sound.honest n))
    (c.in_ok-table.ensures.table (a.map.sound.0 sound)))
    c.pages_of_both.result (λ (v : Vec ℕ (Bor g.row.H.Denot)). v.items) c.pages_of_both.ensures.joined

pub returns-clause-given_layer : goal.returns-clause-given_layer
returns-clause-given_layer g c = λ h.
    let a = c.in_ok-tree.ensures.asks in
    let old = given c.args.cache.now in
    let held = c.in_ok-tree.tree in
    let listed = c.in_ok-table.table in
    all_checked g.row.D c.args.fanout old c.args.root c.args.ids_root c.args.count held.pairs.items
    listed.pairs.items held.pages.items listed.pages.items (c.in_ok-tree.ensures.given_tree h)
    (table_on g.row.D (given c.check_tree.new.cache) old c.args.ids_root listed.pairs.items
    listed.pages.items (λ n. sym (a.map.given_stay h n))
    (c.in_ok-table.ensures.given_table (a.gate.honest.0 h)))
    c.pages_of_both.result (λ (v : Vec ℕ (Bor g.row.H.Denot)). v.items) c.pages_of_both.ensures.joined

pub returns-clause-stands : goal.returns-clause-stands
returns-clause-stands g c = λ h l objects is count_is.
    let a = c.in_ok-tree.ensures.asks in
    let old = given c.args.cache.now in
    let held = c.in_ok-tree.tree in
    let listed = c.in_ok-table.table in
    let given_is =
    layer_given g.row.D c.args.fanout c.args.cache.now c.args.root c.args.ids_root l objects is in
    let tree = c.in_ok-tree.ensures.given_tree h in
    let table =
    table_on g.row.D (given c.check_tree.new.cache) old c.args.ids_root listed.pairs.items
    listed.pages.items (λ n. sym (a.map.given_stay h n))
    (c.in_ok-table.ensures.given_table (a.gate.honest.0 h)) in
    if_err c.pages_of_both.result _ IsOfDevice (λ f is. inl is)
    (c.pages_of_both.ensures.stands objects count_is
    (pairs_there g.row.D c.args.fanout old c.args.root c.args.ids_root held.pairs.items listed.pairs.items
    held.pages.items listed.pages.items tree table l objects given_is)
    (listed_there g.row.D c.args.fanout old c.args.root c.args.ids_root held.pairs.items listed.pairs.items
    held.pages.items listed.pages.items tree table l objects given_is))

pub returns-in_err-tree-clause-damage : goal.returns-in_err-tree-clause-damage
returns-in_err-tree-clause-damage g c = λ h.
    at_error c.from_residual.result c.in_err-tree.field-0.0
    _ c.from_residual.ensures.1
    (λ n is. inr (inl (c.in_err-tree.ensures.damage h n is)))

pub returns-in_err-table-clause-damage : goal.returns-in_err-table-clause-damage
returns-in_err-table-clause-damage g c = λ h.
    let a = c.in_ok-tree.ensures.asks in
    at_error c.from_residual-in_err-table.result c.in_err-table.field-0.0 _
    c.from_residual-in_err-table.ensures.1
    (λ n is. inr (inr (comes_on g.row.D (given c.check_tree.new.cache) (given c.args.cache.now)
    c.args.ids_root n (λ k. a.map.given_stay h k) (c.in_err-table.ensures.damage (a.gate.honest.0 h) n is))))

pub returns-clause-damage : goal.returns-clause-damage
returns-clause-damage g c = λ h.
    comes_oddly g.row.D (given c.args.cache.now) c.args.root c.args.ids_root c.args.count
    c.in_ok-tree.tree.pairs.items c.pages_of_both.result c.pages_of_both.ensures.damage
