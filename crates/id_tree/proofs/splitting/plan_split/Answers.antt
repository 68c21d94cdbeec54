-- The fork and its child are those that stand.
use Rattle.id_tree.proofs.WorksLemmas.{finds_none}
use Rattle.std.proofs.Common.{arith, ◌≡◌, inl, inr}
use Rattle.page_cache.specs.Cache.{pages}
use Rattle.node_page.proofs.NodeLemmas.{at_error}
use Rattle.id_page.proofs.ForkReading.{count_of_fork}
use Rattle.id_tree.specs.Tree.{links_of}
use Rattle.id_tree.proofs.NodeLemmas.{fork_bytes, node_there}
use Rattle.id_tree.proofs.SplitLemmas.{may_halve_same, place_within}
use Rattle.id_tree.proofs.TidyLemmas.{both_tidy_back, fork_as_tidy}
use Rattle.id_page.specs.Fork.{ForkContent}
use Rattle.page_file.specs.declared.fault.Fault.TheVariants as fault
use Rattle.node_page.proofs.DamageLemmas.{damaged_read}
use Rattle.id_tree.proofs.DamageLemmas.{damaged_is}
use Rattle.id_tree.proofs.splitting.plan_split.Goals as goal

pub returns-in_err-fork-clause-damage : goal.returns-in_err-fork-clause-damage
returns-in_err-fork-clause-damage g c = λ h.
    at_error c.from_residual.result c.in_err-fork.field-0.0 _
    c.from_residual.ensures.1
    (λ n damaged. inl
    (damaged_read c.in_err-fork.field-0.0 c.args.page n (c.in_err-fork.ensures.damage h) damaged))

pub returns-then-count-ge-MOST_CHILDREN-clause-damage : goal.returns-then-count-ge-MOST_CHILDREN-clause-damage
returns-then-count-ge-MOST_CHILDREN-clause-damage g c =
    λ h n (damaged : fault.Damaged c.args.page ≡ fault.Damaged n). inl (damaged_is c.args.page n damaged)

pub returns-then-below-count-clause-damage : goal.returns-then-below-count-clause-damage
returns-then-below-count-clause-damage g c = λ h n (damaged : fault.Damaged c.args.page ≡ fault.Damaged n).
    inl (damaged_is c.args.page n damaged)

pub returns-in_err-cut-clause-damage : goal.returns-in_err-cut-clause-damage
returns-in_err-cut-clause-damage g c = λ h.
    let honest = c.in_ok-fork.ensures.asks.gate.honest.0 h in
    at_error c.from_residual-in_err-cut.result c.in_err-cut.field-0.0 _
    c.from_residual-in_err-cut.ensures.1
    (λ n damaged. inr
    (damaged_read c.in_err-cut.field-0.0 c.args.below.now.child n (c.in_err-cut.ensures.damage honest) damaged))

pub returns-in_err-fork-clause-plans : goal.returns-in_err-fork-clause-plans
returns-in_err-fork-clause-plans g c = λ h edge row may.
    finds_none c.in_err-fork.field-0.0 c.from_residual.ensures.1 (c.in_err-fork.ensures.there h
    (node_there g.row.D (pages c.args.cache.now) c.args.page c.args.level row may.stands.node))

pub returns-then-count-ge-MOST_CHILDREN-clause-plans : goal.returns-then-count-ge-MOST_CHILDREN-clause-plans
returns-then-count-ge-MOST_CHILDREN-clause-plans g c = λ h edge row may.
    let D = g.row.D in
    let old = pages c.args.cache.now in
    let level = c.args.level in
    let content : ForkContent = record { level = level; links = links_of row } in
    let there = c.in_ok-fork.ensures.bytes h (node_there D old c.args.page level row may.stands.node) in
    let is = fork_bytes D (old c.args.page) c.in_ok-fork.fork content there (may.stands.node.fork may.high) in
    absurd (omega (
      arith,
      count_of_fork D c.in_ok-fork.fork content is,
      may.room,
      c.count_at-count.ensures.value,
      c.if-count-ge-MOST_CHILDREN.true,
    ))

pub returns-then-below-count-clause-plans : goal.returns-then-below-count-clause-plans
returns-then-below-count-clause-plans g c = λ h edge row may.
    let D = g.row.D in
    let old = pages c.args.cache.now in
    let level = c.args.level in
    let content : ForkContent = record { level = level; links = links_of row } in
    let there = c.in_ok-fork.ensures.bytes h (node_there D old c.args.page level row may.stands.node) in
    let is = fork_bytes D (old c.args.page) c.in_ok-fork.fork content there (may.stands.node.fork may.high) in
    let within = place_within D old c.args.page level edge row c.args.id c.args.below.now.child
    c.args.below.now.place c.args.below.now.last may in
    absurd (omega (
      arith,
      count_of_fork D c.in_ok-fork.fork content is,
      within,
      c.count_at-count.ensures.value,
      c.if-below-count.true,
    ))

pub returns-in_err-cut-clause-plans : goal.returns-in_err-cut-clause-plans
returns-in_err-cut-clause-plans g c = λ h edge row may.
    let D = g.row.D in
    let old = pages c.args.cache.now in
    let level = c.args.level in
    let b = c.args.below.now in
    let mid = pages c.copy_page.new.cache in
    let asks = c.in_ok-fork.ensures.asks in
    let same = asks.map.pages_stay h in
    let halve = may_halve_same D old mid c.args.page level edge row c.args.id b.child b.place b.last same may in
    finds_none c.in_err-cut.field-0.0 c.from_residual-in_err-cut.ensures.1
    (c.in_err-cut.ensures.there (asks.gate.honest.0 h) may.way.below halve)

pub returns-clause-plans : goal.returns-clause-plans
returns-clause-plans g c = λ h edge row may.
    let D = g.row.D in
    let old = pages c.args.cache.now in
    let level = c.args.level in
    let content : ForkContent = record { level = level; links = links_of row } in
    let there = c.in_ok-fork.ensures.bytes h (node_there D old c.args.page level row may.stands.node) in
    let is = fork_bytes D (old c.args.page) c.in_ok-fork.fork content there (may.stands.node.fork may.high) in
    let b = c.args.below.now in
    let mid = pages c.copy_page.new.cache in
    let asks = c.in_ok-fork.ensures.asks in
    let same = asks.map.pages_stay h in
    let halve = may_halve_same D old mid c.args.page level edge row c.args.id b.child b.place b.last same may in
    let honest = asks.gate.honest.0 h in
    record {
      found = record {
        fork_is = is;
        fork_tidy = fork_as_tidy D old c.args.page c.in_ok-fork.fork content there is;
        cuts = c.in_ok-cut.ensures.cuts honest may.way.below halve;
        cut_tidy = both_tidy_back D old mid c.in_ok-cut.cut.first c.in_ok-cut.cut.second same
            (c.in_ok-cut.ensures.tidy honest may.way.below halve);
      };
      faults = tt;
    }
