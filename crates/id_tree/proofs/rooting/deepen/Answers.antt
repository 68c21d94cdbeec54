-- What the root had is read first.
use Rattle.id_tree.proofs.WorksLemmas.{works_from, works_refused}
use Rattle.std.proofs.Common.{◌+◌, inl, inr}
use Rattle.page_cache.specs.Cache.{pages}
use Rattle.page_cache.specs.Calls.{no_call_asks, asks_and_changes, asks_and_gives_up}
use Rattle.node_page.proofs.NodeLemmas.{at_error}
use Rattle.id_tree.proofs.ResultLemmas.{if_err}
use Rattle.id_tree.proofs.RootLemmas.{names_from}
use Rattle.id_tree.proofs.SplitLemmas.{live_same}
use Rattle.id_tree.proofs.TidyLemmas.{as_tidy_on, fork_as_tidy}
use Rattle.id_tree.proofs.NodeLemmas.{fork_bytes, there_of_fork}
use Rattle.node_page.proofs.DamageLemmas.{damaged_read}
use Rattle.id_tree.proofs.DamageLemmas.{breaks_kept}
use Rattle.id_tree.proofs.rooting.deepen.Goals as goal

pub returns-in_err-bytes-clause-changes : goal.returns-in_err-bytes-clause-changes
returns-in_err-bytes-clause-changes g c =
    asks_and_gives_up c.args.cache.now c.args.cache.now c.copy_page.new.cache c.in_err-bytes.field-0.0
    c.from_residual.result c.from_residual.ensures.1 (no_call_asks c.args.cache.now)
    c.in_err-bytes.ensures.asks

pub returns-clause-changes : goal.returns-clause-changes
returns-clause-changes g c = asks_and_changes c.args.cache.now c.copy_page.new.cache c.name_new.new.cache
    c.name_new.result c.in_ok-bytes.ensures.asks c.name_new.ensures.changes

pub returns-in_err-bytes-clause-damage : goal.returns-in_err-bytes-clause-damage
returns-in_err-bytes-clause-damage g c = λ h none.
    at_error c.from_residual.result c.in_err-bytes.field-0.0 _
    c.from_residual.ensures.1
    (λ n damaged. inl
    (damaged_read c.in_err-bytes.field-0.0 c.args.root n (c.in_err-bytes.ensures.damage h) damaged))

pub returns-clause-damage : goal.returns-clause-damage
returns-clause-damage g c = λ h none.
    let asks = c.in_ok-bytes.ensures.asks in
    if_err c.name_new.result _ _
    (λ e breaks n damaged. inr
    (breaks_kept c.args.cache.now c.copy_page.new.cache n asks.map h (breaks n damaged)))
    (c.name_new.ensures.damage (asks.gate.honest.0 h) none)

pub returns-clause-touched : goal.returns-clause-touched
returns-clause-touched g c = c.name_new.ensures.touched

pub returns-in_err-bytes-clause-deepens : goal.returns-in_err-bytes-clause-deepens
returns-in_err-bytes-clause-deepens g c = λ map content fork.
    works_refused c.in_err-bytes.field-0.0 c.from_residual.ensures.1
    (c.in_err-bytes.ensures.asks.map.sound.0 map) (inl (c.in_err-bytes.ensures.there map.honest
    (there_of_fork g.row.D (pages c.args.cache.now c.args.root) content fork)))

pub returns-clause-deepens : goal.returns-clause-deepens
returns-clause-deepens g c = λ map content fork.
    let D = g.row.D in
    let root = c.args.root in
    let bytes = c.in_ok-bytes.bytes in
    let old = pages c.args.cache.now in
    let mid = pages c.copy_page.new.cache in
    let asks = c.in_ok-bytes.ensures.asks in
    let same = asks.map.pages_stay map.honest in
    let live = there_of_fork D (old root) content fork in
    let there = c.in_ok-bytes.ensures.bytes map.honest live in
    works_from (c.name_new.ensures.names (asks.map.sound.0 map) (live_same old mid root same live)
    (as_tidy_on D old mid bytes same
    (fork_as_tidy D old root bytes content there (fork_bytes D (old root) bytes content there fork)))) same
    (λ number named. record {
      bytes = bytes;
      was = there;
      named = names_from D old mid (pages c.name_new.new.cache) root (c.args.level + 1) number bytes same named;
    }) (λ f why. why)
