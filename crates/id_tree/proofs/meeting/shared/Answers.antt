-- What both nodes have is cut in the middle.
use Rattle.id_tree.proofs.WorksLemmas.{finds_none}
use Rattle.std.proofs.Common.{◌≡◌, ◌∙◌, ◌<◌, sym, subst, refl, arith, inl, inr}
use Rattle.page_cache.specs.Cache.{pages}
use Rattle.node_page.proofs.NodeLemmas.{at_error}
use Rattle.id_page.specs.Fork.{ForkContent}
use Rattle.id_page.proofs.ForkReading.{count_of_fork, fork_spells}
use Rattle.id_page.proofs.LeafReading.{count_of_leaf, leaf_spells}
use Rattle.id_tree.specs.Cutting.{CutsFork, CutsLeaf}
use Rattle.id_tree.specs.Joining.{IsBalanced, met}
use Rattle.id_tree.specs.Tree.{links_of, objects_in}
use Rattle.id_tree.proofs.CutLemmas.{cut_of_leaf, fork_cut}
use Rattle.id_tree.proofs.MeetLemmas.{links-met, met_filled, met_parted, met_stands, objects-met}
use Rattle.id_tree.proofs.NodeLemmas.{fork_bytes, leaf_bytes, node_there}
use Rattle.id_tree.proofs.SplitLemmas.{live_same}
use Rattle.id_tree.proofs.TidyLemmas.{bytes_tidy, fork_node, leaf_node, tidy_fork}
use Rattle.page_file.specs.declared.fault.Fault.TheVariants as fault
use Rattle.node_page.proofs.DamageLemmas.{damaged_read}
use Rattle.id_tree.proofs.DamageLemmas.{damaged_is}
use Rattle.id_tree.proofs.meeting.shared.Goals as goal

pub returns-in_err-one-clause-damage : goal.returns-in_err-one-clause-damage
returns-in_err-one-clause-damage g c = λ h.
    at_error c.from_residual.result c.in_err-one.field-0.0 _
    c.from_residual.ensures.1
    (λ n damaged. inl
    (damaged_read c.in_err-one.field-0.0 c.args.first n (c.in_err-one.ensures.damage h) damaged))

pub returns-in_err-two-clause-damage : goal.returns-in_err-two-clause-damage
returns-in_err-two-clause-damage g c = λ h.
    at_error c.from_residual-in_err-two.result c.in_err-two.field-0.0 _
    c.from_residual-in_err-two.ensures.1
    (λ n damaged. inr (damaged_read c.in_err-two.field-0.0 c.args.second n
    (c.in_err-two.ensures.damage (c.in_ok-one.ensures.asks.gate.honest.0 h)) damaged))

pub returns-then-not-are_many-clause-damage : goal.returns-then-not-are_many-clause-damage
returns-then-not-are_many-clause-damage g c =
    λ h n (damaged : fault.Damaged c.args.first ≡ fault.Damaged n). inl (damaged_is c.args.first n damaged)

pub returns-then-not-are_many-2-clause-damage : goal.returns-then-not-are_many-2-clause-damage
returns-then-not-are_many-2-clause-damage g c =
    λ h n (damaged : fault.Damaged c.args.first ≡ fault.Damaged n). inl (damaged_is c.args.first n damaged)

pub returns-in_err-one-clause-shares : goal.returns-in_err-one-clause-shares
returns-in_err-one-clause-shares g c = λ h edge one two n many.
    finds_none c.in_err-one.field-0.0 c.from_residual.ensures.1 (c.in_err-one.ensures.there h
    (node_there g.row.D (pages c.args.cache.now) c.args.first c.args.level one n.one_stands.node))

pub returns-in_err-two-clause-shares : goal.returns-in_err-two-clause-shares
returns-in_err-two-clause-shares g c = λ h edge one two n many.
    let old = pages c.args.cache.now in
    let asks = c.in_ok-one.ensures.asks in
    finds_none c.in_err-two.field-0.0 c.from_residual-in_err-two.ensures.1
    (c.in_err-two.ensures.there (asks.gate.honest.0 h)
    (live_same old (pages c.copy_page.new.cache) c.args.second (asks.map.pages_stay h)
    (node_there g.row.D old c.args.second c.args.level two n.two_stands.node)))

pub returns-then-not-are_many-clause-shares : goal.returns-then-not-are_many-clause-shares
returns-then-not-are_many-clause-shares g c = λ h edge one two n many.
    let D = g.row.D in
    let old = pages c.args.cache.now in
    let first = c.args.first in
    let second = c.args.second in
    let level = c.args.level in
    let asks = c.in_ok-one.ensures.asks in
    let same = asks.map.pages_stay h in
    let there_one = c.in_ok-one.ensures.bytes h (node_there D old first level one n.one_stands.node) in
    let there_two = sym (same second) ∙ c.in_ok-two.ensures.bytes (asks.gate.honest.0 h)
    (live_same old (pages c.copy_page.new.cache) second same (node_there D old second level two n.two_stands.node)) in
    let low = c.if-level-eq0.true in
    let xs = objects_in one in
    let ys = objects_in two in
    let one_is = leaf_bytes D (old first) c.in_ok-one.one xs there_one (n.one_stands.node.leaf low) in
    let two_is = leaf_bytes D (old second) c.in_ok-two.two ys there_two (n.two_stands.node.leaf low) in
    let some = many.leaf low in
    let few_one = (leaf_spells D c.in_ok-one.one xs one_is).head.few in
    let few_two = (leaf_spells D c.in_ok-two.two ys two_is).head.few in
    let yes = c.are_many.ensures.accepts
    (omega (arith, few_one, c.count_at.ensures.value, c.objects_that_fit.ensures))
    (omega (arith, few_two, c.count_at-then-level-eq0.ensures.value, c.objects_that_fit.ensures))
    (omega (
      arith,
      some,
      c.count_at.ensures.value,
      c.count_at-then-level-eq0.ensures.value,
      count_of_leaf D c.in_ok-one.one xs one_is,
      count_of_leaf D c.in_ok-two.two ys two_is,
      c.objects_that_fit.ensures,
    )) in
    absurd (cc)

pub returns-then-level-eq0-clause-shares : goal.returns-then-level-eq0-clause-shares
returns-then-level-eq0-clause-shares g c = λ h edge one two n many.
    let D = g.row.D in
    let old = pages c.args.cache.now in
    let first = c.args.first in
    let second = c.args.second in
    let level = c.args.level in
    let asks = c.in_ok-one.ensures.asks in
    let same = asks.map.pages_stay h in
    let there_one = c.in_ok-one.ensures.bytes h (node_there D old first level one n.one_stands.node) in
    let there_two = sym (same second) ∙ c.in_ok-two.ensures.bytes (asks.gate.honest.0 h)
    (live_same old (pages c.copy_page.new.cache) second same (node_there D old second level two n.two_stands.node)) in
    let low = c.if-level-eq0.true in
    let xs = objects_in one in
    let ys = objects_in two in
    let one_is = leaf_bytes D (old first) c.in_ok-one.one xs there_one (n.one_stands.node.leaf low) in
    let two_is = leaf_bytes D (old second) c.in_ok-two.two ys there_two (n.two_stands.node.leaf low) in
    let key = c.args.key in
    let r = c.shared_leaf.result in
    let s = c.shared_leaf.ensures in
    let cuts = s.cuts edge xs ys one_is two_is n.single n.lesser n.from in
    record {
      found = record {
        cuts = cut_of_leaf D old level edge (met key one two) r.key r.first r.second low
            (met_stands D old level edge first second key one two n)
            (subst (λ os. CutsLeaf D edge os r.key r.first r.second) (sym (objects-met key one two)) cuts);
        balanced = subst (λ l. IsBalanced D l r.first r.second) (sym low)
            (s.balanced xs ys one_is two_is n.single n.lesser n.from);
        roomy = λ room. s.roomy xs ys one_is two_is n.single n.lesser n.from room.few;
        tidy = record {
          first = λ tidy. leaf_node D r.first _ cuts.under s.tidy_first;
          second = λ tidy. leaf_node D r.second _ cuts.from s.tidy_second;
        };
      };
      faults = tt;
    }

pub returns-then-not-are_many-2-clause-shares : goal.returns-then-not-are_many-2-clause-shares
returns-then-not-are_many-2-clause-shares g c = λ h edge one two n many.
    let D = g.row.D in
    let old = pages c.args.cache.now in
    let first = c.args.first in
    let second = c.args.second in
    let level = c.args.level in
    let asks = c.in_ok-one.ensures.asks in
    let same = asks.map.pages_stay h in
    let there_one = c.in_ok-one.ensures.bytes h (node_there D old first level one n.one_stands.node) in
    let there_two = sym (same second) ∙ c.in_ok-two.ensures.bytes (asks.gate.honest.0 h)
    (live_same old (pages c.copy_page.new.cache) second same (node_there D old second level two n.two_stands.node)) in
    let up : 0 < level = omega (arith, c.if-level-eq0.false) in
    let a : ForkContent = record { level = level; links = links_of one } in
    let b : ForkContent = record { level = level; links = links_of two } in
    let one_is = fork_bytes D (old first) c.in_ok-one.one a there_one (n.one_stands.node.fork up) in
    let two_is = fork_bytes D (old second) c.in_ok-two.two b there_two (n.two_stands.node.fork up) in
    let some = many.fork up in
    let few_one = (fork_spells D c.in_ok-one.one a one_is).head.few in
    let few_two = (fork_spells D c.in_ok-two.two b two_is).head.few in
    let yes = c.are_many-2.ensures.accepts (omega (arith, few_one, c.count_at-2.ensures.value))
    (omega (arith, few_two, c.count_at-3.ensures.value))
    (omega (
      arith,
      some,
      c.count_at-2.ensures.value,
      c.count_at-3.ensures.value,
      count_of_fork D c.in_ok-one.one a one_is,
      count_of_fork D c.in_ok-two.two b two_is,
    )) in
    absurd (cc)

pub returns-clause-shares : goal.returns-clause-shares
returns-clause-shares g c = λ h edge one two n many.
    let D = g.row.D in
    let old = pages c.args.cache.now in
    let first = c.args.first in
    let second = c.args.second in
    let level = c.args.level in
    let asks = c.in_ok-one.ensures.asks in
    let same = asks.map.pages_stay h in
    let there_one = c.in_ok-one.ensures.bytes h (node_there D old first level one n.one_stands.node) in
    let there_two = sym (same second) ∙ c.in_ok-two.ensures.bytes (asks.gate.honest.0 h)
    (live_same old (pages c.copy_page.new.cache) second same (node_there D old second level two n.two_stands.node)) in
    let up : 0 < level = omega (arith, c.if-level-eq0.false) in
    let a : ForkContent = record { level = level; links = links_of one } in
    let b : ForkContent = record { level = level; links = links_of two } in
    let one_is = fork_bytes D (old first) c.in_ok-one.one a there_one (n.one_stands.node.fork up) in
    let two_is = fork_bytes D (old second) c.in_ok-two.two b there_two (n.two_stands.node.fork up) in
    let key = c.args.key in
    let r = c.shared_fork.result in
    let s = c.shared_fork.ensures in
    let cuts = s.cuts D edge a b one_is refl two_is refl in
    record {
      found = record {
        cuts = fork_cut D old level edge (met key one two) r.key r.first r.second up
            (met_stands D old level edge first second key one two n)
            (met_parted D old level edge first second key one two n)
            (met_filled D old level edge first second key one two n)
            (subst (λ ls. CutsFork D level edge ls r.key r.first r.second) (sym (links-met key one two)) cuts);
        balanced = s.balanced D a b one_is two_is;
        roomy = λ room. absurd (omega (arith, room.low, up));
        tidy = record {
          first = λ tidy. fork_node D r.first _ cuts.upto (s.tidy_first
              (tidy_fork D c.in_ok-one.one a one_is (bytes_tidy D old first c.in_ok-one.one there_one tidy)));
          second = λ tidy. fork_node D r.second _ cuts.beyond s.tidy_second;
        };
      };
      faults = tt;
    }
