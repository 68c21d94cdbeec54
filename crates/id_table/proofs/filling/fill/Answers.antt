-- Objects are added to a table of its kind, in its order.
use Rattle.std.proofs.Common.{IfErr, OnOk, ◌+◌, ◌/◌, length, arith, inl, inr}
use Rattle.std.specs.FinMap as map
use Rattle.page_cache.specs.Cache.{IsPageMap, given, pages}
use Rattle.page_cache.specs.Cache.{Grows}
use Rattle.node_page.specs.Faults.{IsNoDamage}
use Rattle.id_words.specs.Objects.{AreNew, pairs_in}
use Rattle.id_table.specs.Changes.{AreInOrder, Fills, KeepsTidy, most_filled_pages}
use Rattle.id_table.specs.Table.{kind_of, objects_of}
use Rattle.id_table.specs.Table.IdTable.{treed}
use Rattle.id_table.specs.declared.kind.TableKind.TheVariants.{Chains, Tree}
use Rattle.id_table.proofs.StepLemmas.{chains_filled, of_chains, of_tree, on_ok, same_pages, so_on_ok, tree_filled}
use Rattle.node_page.proofs.NodeLemmas.{at_error, if_error}
use Rattle.id_table.proofs.StepLemmas.{tidy_on}
use Rattle.id_table.proofs.StepLemmas.{begun_or_broken, met_at_once, met_in_tree, met_or_broken, same_given}
use Rattle.id_table.proofs.filling.fill.Goals as goal

pub returns-in-Chains-clause-sound : goal.returns-in-Chains-clause-sound
returns-in-Chains-clause-sound g c = λ sound t at s new.
    of_chains g.row.D c.args.page c.args.cache.now c.kind_at.new.cache c.in_ok-kind_at.ensures.asks
    (λ t. AreNew (objects_of t) (pairs_in c.sort_by_chain.new.entries) → IsPageMap c.fill.new.cache)
    sound.honest t at s c.in_ok-kind_at.field-0 (c.in_ok-kind_at.ensures.kind sound.honest t at s)
    c.in-Chains.is
    (λ ch there stands new. c.fill.ensures.sound (c.in_ok-kind_at.ensures.asks.map.sound.0 sound) ch there stands new) new

pub returns-in-Chains-clause-filled : goal.returns-in-Chains-clause-filled
returns-in-Chains-clause-filled g c = λ sound t at s new.
    of_chains g.row.D c.args.page c.args.cache.now c.kind_at.new.cache c.in_ok-kind_at.ensures.asks
    (λ t. AreNew (objects_of t) (pairs_in c.sort_by_chain.new.entries) → OnOk c.fill.result (Fills g.row.D (pages c.args.cache.now) (pages c.fill.new.cache) t (pairs_in c.sort_by_chain.new.entries)))
    sound.honest t at s c.in_ok-kind_at.field-0 (c.in_ok-kind_at.ensures.kind sound.honest t at s)
    c.in-Chains.is
    (λ ch there stands new. on_ok c.fill.result
    (chains_filled g.row.D (pages c.args.cache.now) (pages c.kind_at.new.cache) (pages c.fill.new.cache)
    (same_pages g.row.D c.args.page c.args.cache.now c.kind_at.new.cache c.in_ok-kind_at.ensures.asks sound.honest) ch (pairs_in c.sort_by_chain.new.entries))
    (c.fill.ensures.filled (c.in_ok-kind_at.ensures.asks.map.sound.0 sound) ch there stands new)) new

pub returns-in-Chains-clause-faults : goal.returns-in-Chains-clause-faults
returns-in-Chains-clause-faults g c = λ sound t at s new.
    of_chains g.row.D c.args.page c.args.cache.now c.kind_at.new.cache c.in_ok-kind_at.ensures.asks
    (λ t. AreNew (objects_of t) (pairs_in c.sort_by_chain.new.entries) → IfErr c.fill.result (IsNoDamage c.fill.new.cache))
    sound.honest t at s c.in_ok-kind_at.field-0 (c.in_ok-kind_at.ensures.kind sound.honest t at s)
    c.in-Chains.is
    (λ ch there stands new. c.fill.ensures.faults (c.in_ok-kind_at.ensures.asks.map.sound.0 sound) ch there stands new) new

pub returns-in-Tree-clause-sound : goal.returns-in-Tree-clause-sound
returns-in-Tree-clause-sound g c = λ sound t at s new.
    of_tree g.row.D c.args.page c.args.cache.now c.kind_at.new.cache c.in_ok-kind_at.ensures.asks
    (λ t. AreNew (objects_of t) (pairs_in c.sort_by_identifier.new.entries) → IsPageMap c.fill-in-Tree.new.cache)
    sound.honest t at s c.in_ok-kind_at.field-0 (c.in_ok-kind_at.ensures.kind sound.honest t at s)
    c.in-Tree.is
    (λ ch there stands new. c.fill-in-Tree.ensures.sound (c.in_ok-kind_at.ensures.asks.map.sound.0 sound) ch there stands new) new

pub returns-in-Tree-clause-filled : goal.returns-in-Tree-clause-filled
returns-in-Tree-clause-filled g c = λ sound t at s new.
    of_tree g.row.D c.args.page c.args.cache.now c.kind_at.new.cache c.in_ok-kind_at.ensures.asks
    (λ t. AreNew (objects_of t) (pairs_in c.sort_by_identifier.new.entries) → OnOk c.fill-in-Tree.result (Fills g.row.D (pages c.args.cache.now) (pages c.fill-in-Tree.new.cache) t (pairs_in c.sort_by_identifier.new.entries)))
    sound.honest t at s c.in_ok-kind_at.field-0 (c.in_ok-kind_at.ensures.kind sound.honest t at s)
    c.in-Tree.is
    (λ ch there stands new. on_ok c.fill-in-Tree.result
    (tree_filled g.row.D (pages c.args.cache.now) (pages c.kind_at.new.cache) (pages c.fill-in-Tree.new.cache)
    (same_pages g.row.D c.args.page c.args.cache.now c.kind_at.new.cache c.in_ok-kind_at.ensures.asks sound.honest) ch (pairs_in c.sort_by_identifier.new.entries))
    (c.fill-in-Tree.ensures.filled (c.in_ok-kind_at.ensures.asks.map.sound.0 sound) ch there stands new)) new

pub returns-in-Tree-clause-faults : goal.returns-in-Tree-clause-faults
returns-in-Tree-clause-faults g c = λ sound t at s new.
    of_tree g.row.D c.args.page c.args.cache.now c.kind_at.new.cache c.in_ok-kind_at.ensures.asks
    (λ t. AreNew (objects_of t) (pairs_in c.sort_by_identifier.new.entries) → IfErr c.fill-in-Tree.result (IsNoDamage c.fill-in-Tree.new.cache))
    sound.honest t at s c.in_ok-kind_at.field-0 (c.in_ok-kind_at.ensures.kind sound.honest t at s)
    c.in-Tree.is
    (λ ch there stands new. c.fill-in-Tree.ensures.faults (c.in_ok-kind_at.ensures.asks.map.sound.0 sound) ch there stands new) new

pub returns-in-Tree-clause-grows_few : goal.returns-in-Tree-clause-grows_few
returns-in-Tree-clause-grows_few g c = λ sound t at s new.
    of_tree g.row.D c.args.page c.args.cache.now c.kind_at.new.cache c.in_ok-kind_at.ensures.asks
    (λ t. AreNew (objects_of t) (pairs_in c.sort_by_identifier.new.entries) → Grows (most_filled_pages (map.len (objects_of t) + length c.sort_by_identifier.new.entries)) c.args.cache.now c.fill-in-Tree.new.cache)
    sound.honest t at s c.in_ok-kind_at.field-0 (c.in_ok-kind_at.ensures.kind sound.honest t at s)
    c.in-Tree.is
    (λ ch there stands new.
    let few : Grows ((map.len (objects_of (treed ch)) + length c.sort_by_identifier.new.entries) / 28 + 14) c.kind_at.new.cache c.fill-in-Tree.new.cache =
    c.fill-in-Tree.ensures.grows_few (c.in_ok-kind_at.ensures.asks.map.sound.0 sound) ch there stands new in
    omega (arith, few, c.in_ok-kind_at.ensures.asks.map.next, c.in_ok-kind_at.ensures.asks.map.free_count)) new

-- ---- the order in which they are left

pub returns-in-Chains-clause-ordered : goal.returns-in-Chains-clause-ordered
returns-in-Chains-clause-ordered g c = λ h t at s.
    of_chains g.row.D c.args.page c.args.cache.now c.kind_at.new.cache c.in_ok-kind_at.ensures.asks
    (λ t. OnOk c.fill.result (AreInOrder (kind_of t) (pairs_in c.sort_by_chain.new.entries))) h t at s
    c.in_ok-kind_at.field-0 (c.in_ok-kind_at.ensures.kind h t at s) c.in-Chains.is
    (λ ch there stands. so_on_ok c.fill.result (AreInOrder Chains (pairs_in c.sort_by_chain.new.entries))
    c.sort_by_chain.ensures.ordered)

pub returns-in-Tree-clause-ordered : goal.returns-in-Tree-clause-ordered
returns-in-Tree-clause-ordered g c = λ h t at s.
    of_tree g.row.D c.args.page c.args.cache.now c.kind_at.new.cache c.in_ok-kind_at.ensures.asks
    (λ t. OnOk c.fill-in-Tree.result (AreInOrder (kind_of t) (pairs_in c.sort_by_identifier.new.entries))) h t at s
    c.in_ok-kind_at.field-0 (c.in_ok-kind_at.ensures.kind h t at s) c.in-Tree.is
    (λ ch there stands. so_on_ok c.fill-in-Tree.result (AreInOrder Tree (pairs_in c.sort_by_identifier.new.entries))
    c.sort_by_identifier.ensures.ordered)

-- ---- what stays zero

pub returns-in-Chains-clause-tidy : goal.returns-in-Chains-clause-tidy
returns-in-Chains-clause-tidy g c = λ sound t at s new.
    of_chains g.row.D c.args.page c.args.cache.now c.kind_at.new.cache c.in_ok-kind_at.ensures.asks
    (λ t. AreNew (objects_of t) (pairs_in c.sort_by_chain.new.entries) → OnOk c.fill.result (KeepsTidy g.row.D (kind_of t)
    (pages c.args.cache.now) (pages c.fill.new.cache)))
    sound.honest t at s c.in_ok-kind_at.field-0 (c.in_ok-kind_at.ensures.kind sound.honest t at s)
    c.in-Chains.is
    (λ ch there stands new. tidy_on g.row.D Chains (pages c.args.cache.now) (pages c.kind_at.new.cache)
    (pages c.fill.new.cache) c.fill.result
    (same_pages g.row.D c.args.page c.args.cache.now c.kind_at.new.cache c.in_ok-kind_at.ensures.asks sound.honest)
    (c.fill.ensures.tidy (c.in_ok-kind_at.ensures.asks.map.sound.0 sound) ch there stands new)) new

pub returns-in-Tree-clause-tidy : goal.returns-in-Tree-clause-tidy
returns-in-Tree-clause-tidy g c = λ sound t at s new.
    of_tree g.row.D c.args.page c.args.cache.now c.kind_at.new.cache c.in_ok-kind_at.ensures.asks
    (λ t. AreNew (objects_of t) (pairs_in c.sort_by_identifier.new.entries) → OnOk c.fill-in-Tree.result (KeepsTidy g.row.D (kind_of t)
    (pages c.args.cache.now) (pages c.fill-in-Tree.new.cache)))
    sound.honest t at s c.in_ok-kind_at.field-0 (c.in_ok-kind_at.ensures.kind sound.honest t at s)
    c.in-Tree.is
    (λ ch there stands new. tidy_on g.row.D Tree (pages c.args.cache.now) (pages c.kind_at.new.cache)
    (pages c.fill-in-Tree.new.cache) c.fill-in-Tree.result
    (same_pages g.row.D c.args.page c.args.cache.now c.kind_at.new.cache c.in_ok-kind_at.ensures.asks sound.honest)
    (c.fill-in-Tree.ensures.tidy (c.in_ok-kind_at.ensures.asks.map.sound.0 sound) ch there stands new)) new

-- ---- the page that is damaged

pub returns-in_err-kind_at-clause-damage : goal.returns-in_err-kind_at-clause-damage
returns-in_err-kind_at-clause-damage g c = λ h quiet.
    at_error c.from_residual.result c.in_err-kind_at.field-0.0 _
    c.from_residual.ensures.1
    (λ n is. inl (met_at_once g.row.D c.args.page (given c.args.cache.now) c.in_err-kind_at.field-0.0
    (c.in_err-kind_at.ensures.damage h) n is))

pub returns-in-Chains-clause-damage : goal.returns-in-Chains-clause-damage
returns-in-Chains-clause-damage g c = λ h quiet.
    if_error c.fill.result _ _
    (λ f met n is. begun_or_broken g.row.D c.args.page c.args.cache.now c.kind_at.new.cache
    c.in_ok-kind_at.ensures.asks h n (met n is))
    (c.fill.ensures.damage (c.in_ok-kind_at.ensures.asks.gate.honest.0 h) (inr quiet))

pub returns-in-Tree-clause-damage : goal.returns-in-Tree-clause-damage
returns-in-Tree-clause-damage g c = λ h quiet.
    if_error c.fill-in-Tree.result _ _
    (λ f met n is. met_or_broken g.row.D c.args.page c.args.cache.now c.kind_at.new.cache c.in_ok-kind_at.ensures.asks h n
    (met_in_tree g.row.D c.args.page (given c.kind_at.new.cache) (given c.args.cache.now) n
    (same_given g.row.D c.args.page c.args.cache.now c.kind_at.new.cache c.in_ok-kind_at.ensures.asks h)) (met n is))
    (c.fill-in-Tree.ensures.damage (c.in_ok-kind_at.ensures.asks.gate.honest.0 h) quiet)
