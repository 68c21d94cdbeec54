-- The page of what both nodes have.
use Rattle.id_tree.proofs.WorksLemmas.{finds_none}
use Rattle.std.proofs.Common.{◌≡◌, ◌∙◌, ◌<◌, List, Some, ap, sym, arith, ◌++◌, inl, inr}
use Rattle.bucket_page.specs.Layout.{Entry}
use Rattle.page_cache.specs.Cache.{pages}
use Rattle.node_page.proofs.NodeLemmas.{at_error}
use Rattle.id_page.specs.Fork.{ForkContent, Link}
use Rattle.id_page.proofs.ForkReading.{count_of_fork}
use Rattle.id_page.proofs.LeafReading.{count_of_leaf}
use Rattle.id_tree.specs.Tree.{links_of, objects_in}
use Rattle.id_tree.proofs.MeetLemmas.{links-met, objects-met}
use Rattle.id_tree.proofs.NodeLemmas.{fork_bytes, leaf_bytes, node_there}
use Rattle.id_tree.proofs.SplitLemmas.{live_same}
use Rattle.id_tree.proofs.TidyLemmas.{bytes_tidy, fork_node, leaf_node, tidy_fork, tidy_leaf}
use Rattle.page_file.specs.declared.fault.Fault.TheVariants as fault
use Rattle.node_page.proofs.DamageLemmas.{damaged_read}
use Rattle.id_tree.proofs.DamageLemmas.{damaged_is}
use Rattle.id_tree.proofs.meeting.joined.Goals as goal

pub returns-in_err-one-clause-damage : goal.returns-in_err-one-clause-damage
returns-in_err-one-clause-damage g c = λ h.
    at_error c.from_residual.result c.in_err-one.field-0.0 _
    c.from_residual.ensures.1
    (λ n damaged. inl
    (damaged_read c.in_err-one.field-0.0 c.args.first n (c.in_err-one.ensures.damage h) damaged))

pub returns-in_err-two-clause-damage : goal.returns-in_err-two-clause-damage
returns-in_err-two-clause-damage g c = λ h.
    at_error c.from_residual-in_err-two.result c.in_err-two.field-0.0 _
    c.from_residual-in_err-two.ensures.1
    (λ n damaged. inr (damaged_read c.in_err-two.field-0.0 c.args.second n
    (c.in_err-two.ensures.damage (c.in_ok-one.ensures.asks.gate.honest.0 h)) damaged))

pub returns-then-not-fit_in-clause-damage : goal.returns-then-not-fit_in-clause-damage
returns-then-not-fit_in-clause-damage g c = λ h n (damaged : fault.Damaged c.args.first ≡ fault.Damaged n).
    inl (damaged_is c.args.first n damaged)

pub returns-then-not-fit_in-2-clause-damage : goal.returns-then-not-fit_in-2-clause-damage
returns-then-not-fit_in-2-clause-damage g c =
    λ h n (damaged : fault.Damaged c.args.first ≡ fault.Damaged n). inl (damaged_is c.args.first n damaged)

pub returns-in_err-one-clause-joins : goal.returns-in_err-one-clause-joins
returns-in_err-one-clause-joins g c = λ h one two node_one node_two fit.
    finds_none c.in_err-one.field-0.0 c.from_residual.ensures.1 (c.in_err-one.ensures.there h
    (node_there g.row.D (pages c.args.cache.now) c.args.first c.args.level one node_one))

pub returns-in_err-two-clause-joins : goal.returns-in_err-two-clause-joins
returns-in_err-two-clause-joins g c = λ h one two node_one node_two fit.
    let old = pages c.args.cache.now in
    let asks = c.in_ok-one.ensures.asks in
    finds_none c.in_err-two.field-0.0 c.from_residual-in_err-two.ensures.1
    (c.in_err-two.ensures.there (asks.gate.honest.0 h)
    (live_same old (pages c.copy_page.new.cache) c.args.second (asks.map.pages_stay h)
    (node_there g.row.D old c.args.second c.args.level two node_two)))

pub returns-then-not-fit_in-clause-joins : goal.returns-then-not-fit_in-clause-joins
returns-then-not-fit_in-clause-joins g c = λ h one two node_one node_two fit.
    let D = g.row.D in
    let old = pages c.args.cache.now in
    let first = c.args.first in
    let second = c.args.second in
    let level = c.args.level in
    let asks = c.in_ok-one.ensures.asks in
    let same = asks.map.pages_stay h in
    let there_one = c.in_ok-one.ensures.bytes h (node_there D old first level one node_one) in
    let there_two = sym (same second) ∙ c.in_ok-two.ensures.bytes (asks.gate.honest.0 h)
    (live_same old (pages c.copy_page.new.cache) second same (node_there D old second level two node_two)) in
    let low = c.if-level-eq0.true in
    let xs = objects_in one in
    let ys = objects_in two in
    let one_is = leaf_bytes D (old first) c.in_ok-one.one xs there_one (node_one.leaf low) in
    let two_is = leaf_bytes D (old second) c.in_ok-two.two ys there_two (node_two.leaf low) in
    let few = fit.leaf low in
    let many = c.fit_in.ensures.many c.if-not-fit_in.true in
    absurd (omega (
      arith,
      few,
      many,
      c.count_at.ensures.value,
      c.count_at-then-level-eq0.ensures.value,
      count_of_leaf D c.in_ok-one.one xs one_is,
      count_of_leaf D c.in_ok-two.two ys two_is,
      c.objects_that_fit.ensures,
    ))

pub returns-then-level-eq0-clause-joins : goal.returns-then-level-eq0-clause-joins
returns-then-level-eq0-clause-joins g c = λ h one two node_one node_two fit.
    let D = g.row.D in
    let old = pages c.args.cache.now in
    let first = c.args.first in
    let second = c.args.second in
    let level = c.args.level in
    let asks = c.in_ok-one.ensures.asks in
    let same = asks.map.pages_stay h in
    let there_one = c.in_ok-one.ensures.bytes h (node_there D old first level one node_one) in
    let there_two = sym (same second) ∙ c.in_ok-two.ensures.bytes (asks.gate.honest.0 h)
    (live_same old (pages c.copy_page.new.cache) second same (node_there D old second level two node_two)) in
    let low = c.if-level-eq0.true in
    let xs = objects_in one in
    let ys = objects_in two in
    let one_is = leaf_bytes D (old first) c.in_ok-one.one xs there_one (node_one.leaf low) in
    let two_is = leaf_bytes D (old second) c.in_ok-two.two ys there_two (node_two.leaf low) in
    let all = c.joined_leaf.ensures.all xs ys one_is two_is in
    record {
      found = (
        record {
          leaf = λ is. all ∙ ap (λ (xs : List Entry). Some xs) (sym (objects-met c.args.key one two));
          fork = λ high. absurd (omega (arith, high, low));
        },
        λ tidy. leaf_node D c.joined_leaf.result (xs ++ ys) all (c.joined_leaf.ensures.tidy
            (tidy_leaf D c.in_ok-one.one xs one_is (bytes_tidy D old first c.in_ok-one.one there_one tidy))),
      );
      faults = tt;
    }

pub returns-then-not-fit_in-2-clause-joins : goal.returns-then-not-fit_in-2-clause-joins
returns-then-not-fit_in-2-clause-joins g c = λ h one two node_one node_two fit.
    let D = g.row.D in
    let old = pages c.args.cache.now in
    let first = c.args.first in
    let second = c.args.second in
    let level = c.args.level in
    let asks = c.in_ok-one.ensures.asks in
    let same = asks.map.pages_stay h in
    let there_one = c.in_ok-one.ensures.bytes h (node_there D old first level one node_one) in
    let there_two = sym (same second) ∙ c.in_ok-two.ensures.bytes (asks.gate.honest.0 h)
    (live_same old (pages c.copy_page.new.cache) second same (node_there D old second level two node_two)) in
    let up : 0 < level = omega (arith, c.if-level-eq0.false) in
    let a : ForkContent = record { level = level; links = links_of one } in
    let b : ForkContent = record { level = level; links = links_of two } in
    let one_is = fork_bytes D (old first) c.in_ok-one.one a there_one (node_one.fork up) in
    let two_is = fork_bytes D (old second) c.in_ok-two.two b there_two (node_two.fork up) in
    let few = fit.fork up in
    let many = c.fit_in-2.ensures.many c.if-not-fit_in-2.true in
    absurd (omega (
      arith,
      few,
      many,
      c.count_at-2.ensures.value,
      c.count_at-3.ensures.value,
      count_of_fork D c.in_ok-one.one a one_is,
      count_of_fork D c.in_ok-two.two b two_is,
    ))

pub returns-clause-joins : goal.returns-clause-joins
returns-clause-joins g c = λ h one two node_one node_two fit.
    let D = g.row.D in
    let old = pages c.args.cache.now in
    let first = c.args.first in
    let second = c.args.second in
    let level = c.args.level in
    let asks = c.in_ok-one.ensures.asks in
    let same = asks.map.pages_stay h in
    let there_one = c.in_ok-one.ensures.bytes h (node_there D old first level one node_one) in
    let there_two = sym (same second) ∙ c.in_ok-two.ensures.bytes (asks.gate.honest.0 h)
    (live_same old (pages c.copy_page.new.cache) second same (node_there D old second level two node_two)) in
    let up : 0 < level = omega (arith, c.if-level-eq0.false) in
    let a : ForkContent = record { level = level; links = links_of one } in
    let b : ForkContent = record { level = level; links = links_of two } in
    let one_is = fork_bytes D (old first) c.in_ok-one.one a there_one (node_one.fork up) in
    let two_is = fork_bytes D (old second) c.in_ok-two.two b there_two (node_two.fork up) in
    let all = c.joined_fork.ensures.all D a b one_is two_is in
    record {
      found = (
        record {
          leaf = λ is. absurd (omega (arith, is, up));
          fork = λ high. all ∙ ap (λ (ls : List Link). Some (record { level = level; links = ls }))
              (sym (links-met c.args.key one two));
        },
        λ tidy. fork_node D c.joined_fork.result _ all (c.joined_fork.ensures.tidy
            (tidy_fork D c.in_ok-one.one a one_is (bytes_tidy D old first c.in_ok-one.one there_one tidy))),
      );
      faults = tt;
    }
