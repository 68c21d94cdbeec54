-- The children are found to stand one after the other.
use Rattle.std.proofs.Common.{◌≡◌, ◌∙◌, ◌⊎◌, ◌<◌, ◌-◌, ◌+◌, ◌++◌, ◌∷◌, ◌&&◌, ◌==◌, [], None, inl}
use Rattle.std.proofs.Common.{get_or, length, ap, subst, sym, refl, arith}
use Rattle.page_file.specs.Fault.{IsOfDevice}
use Rattle.page_file.specs.declared.fault.Fault.TheVariants as fault
use Rattle.page_file.specs.declared.fault.Fault.{Fault}
use Rattle.page_cache.specs.Cache.{given}
use Rattle.page_cache.specs.Calls.{asks_and_refuses, asks_in_turn, no_call_asks}
use Rattle.node_page.proofs.CheckLemmas.{one_longer, quiet_visit, refuses_quietly, visit_faults}
use Rattle.node_page.proofs.DamageLemmas.{damaged_read, damaged_visit}
use Rattle.node_page.proofs.NodeLemmas.{at_error, if_error, on_ok}
use Rattle.id_page.specs.Fork.{ForkContent, Link}
use Rattle.id_page.proofs.ForkReading.{some_link}
use Rattle.id_tree.specs.Checked.{AddsNode, MayAdd}
use Rattle.id_tree.specs.Tree.{links_of, objects_in}
use Rattle.id_tree.proofs.AddLemmas.{some_links}
use Rattle.id_tree.proofs.CheckLemmas.{adds_all, adds_more, adds_none, leaf_adds, links_found, may_be_leaf}
use Rattle.id_tree.proofs.CheckLemmas.{may_on, next_may, no_zero, node_on}
use Rattle.id_tree.proofs.GivenLemmas.{comes_below, comes_here, comes_so, leaf_asks, node_given_out}
use Rattle.id_tree.proofs.NodeLemmas.{fork_bytes, leaf_bytes}
use Rattle.id_tree.proofs.check.+add_below.Goals as goal

pub returns-then-node-eq0-clause-asks : goal.returns-then-node-eq0-clause-asks
returns-then-node-eq0-clause-asks g t c = leaf_asks c.args.cache.now c.args.node.page c.add_leaf.result
    c.add_leaf.ensures.faults

pub returns-then-node-eq0-clause-found : goal.returns-then-node-eq0-clause-found
returns-then-node-eq0-clause-found g t c = λ h there.
    on_ok c.add_leaf.result
    (leaf_adds g.row.D (given c.args.cache.now) c.args.node.page c.args.node.level c.args.node.edge c.args.node.low c.args.node.top
    c.args.bytes.now c.args.pairs.now.items c.add_leaf.new.pairs.items c.args.visits.now.pages.items
    c.args.seen.now c.add_leaf.new.seen
    c.if-node-eq0.true c.requires.low_page there)
    c.add_leaf.ensures.found

pub returns-then-node-eq0-clause-stands : goal.returns-then-node-eq0-clause-stands
returns-then-node-eq0-clause-stands g t c = λ h there row may.
    let m = given c.args.cache.now in
    let is = leaf_bytes g.row.D (m c.args.node.page) c.args.bytes.now (objects_in row) there
    (may.stands.node.leaf c.if-node-eq0.true) in
    if_error c.add_leaf.result (λ (f : Fault). f ≡ fault.Memory) IsOfDevice (λ f is. inl is)
    (c.add_leaf.ensures.stands (objects_in row) is
    (may_be_leaf g.row.D m c.args.node.page c.args.node.level c.args.node.edge c.args.node.low c.args.node.top row
    c.args.visits.now.pages.items c.args.seen.now c.if-node-eq0.true may))

pub returns-then-not-is_fork_of-clause-stands : goal.returns-then-not-is_fork_of-clause-stands
returns-then-not-is_fork_of-clause-stands g t c = λ h there row may.
    let m = given c.args.cache.now in
    let high : 0 < c.args.node.level = omega (arith, c.if-node-eq0.false) in
    let content : ForkContent = record { level = c.args.node.level; links = links_of row } in
    let is = fork_bytes g.row.D (m c.args.node.page) c.args.bytes.now content there (may.stands.node.fork high) in
    let yes = c.is_fork_of.ensures.accepts (links_of row) is
    (some_links g.row.D m c.args.node.level row high may.stands.below may.stands.some)
    (λ off. (may.stands.large off).fork high) in
    absurd (cc)

pub loop-place-init : goal.loop-place-init
loop-place-init g t c = record {
  asks = no_call_asks c.args.cache.now;
  found = λ h f. adds_none g.row.D (given c.args.cache.now) c.args.node.level c.args.node.edge c.args.node.low c.args.node.top
      f.links c.args.pairs.now.items c.args.visits.now.pages.items c.args.seen.now f.some;
  numbers = refl;
  looks = omega arith;
}

pub returns-in_default-clause-stands : goal.returns-in_default-clause-stands
returns-in_default-clause-stands g t c = λ h there row may.
    let D = g.row.D in
    let level = c.args.node.level in
    let edge = c.args.node.edge in
    let low = c.args.node.low in
    let top = c.args.node.top in
    let place = c.loop-place.place in
    let inv = c.loop-place.invariant in
    let m = given c.args.cache.now in
    let high : 0 < level = omega (arith, c.if-node-eq0.false) in
    let f = c.is_fork_of.ensures.fork c.if-not-is_fork_of.false in
    let content : ForkContent = record { level = level; links = f.links } in
    let count : c.count_at-count.result ≡ length f.links = c.count_at-count.ensures.of_fork D content f.is in
    let within : place < length f.links = omega (arith, c.loop-place-test.true, count) in
    let so = inv.found h f in
    let links = links_found D m c.args.node.page level row c.args.bytes.now f.links high may.stands.node there
    f.is in
    let none = λ (other : Link). c.range_of.ensures.none c.in_default.is D content other in
    absurd (no_zero D m c.args.node.page level edge low top row f.links place c.args.pairs.now.items
    c.loop-place.pairs.items c.args.visits.now.pages.items c.loop-place.visits.pages.items c.args.seen.now
    c.loop-place.seen (get_or f.links place some_link).1
    high may links within so refl (omega (arith, (none some_link f.is count).0, count))
    (λ other. (none other f.is count).1))

pub returns-in_err-come_to-clause-asks : goal.returns-in_err-come_to-clause-asks
returns-in_err-come_to-clause-asks g t c =
    refuses_quietly c.args.cache.now c.loop-place.cache c.in_err-come_to.field-0.0 c.from_residual.result
    c.from_residual.ensures.1 c.loop-place.invariant.asks
    (quiet_visit c.in_err-come_to.field-0.0 _ c.in_err-come_to.ensures.faults)

pub returns-in_err-come_to-clause-other_faults : goal.returns-in_err-come_to-clause-other_faults
returns-in_err-come_to-clause-other_faults g t c =
    at_error c.from_residual.result c.in_err-come_to.field-0.0 _
    c.from_residual.ensures.1 (visit_faults c.in_err-come_to.field-0.0 _ c.in_err-come_to.ensures.faults)

pub returns-in_err-come_to-clause-stands : goal.returns-in_err-come_to-clause-stands
returns-in_err-come_to-clause-stands g t c = λ h there row may.
    let D = g.row.D in
    let level = c.args.node.level in
    let edge = c.args.node.edge in
    let low = c.args.node.low in
    let top = c.args.node.top in
    let place = c.loop-place.place in
    let inv = c.loop-place.invariant in
    let m = given c.args.cache.now in
    let high : 0 < level = omega (arith, c.if-node-eq0.false) in
    let f = c.is_fork_of.ensures.fork c.if-not-is_fork_of.false in
    let content : ForkContent = record { level = level; links = f.links } in
    let count : c.count_at-count.result ≡ length f.links = c.count_at-count.ensures.of_fork D content f.is in
    let within : place < length f.links = omega (arith, c.loop-place-test.true, count) in
    let so = inv.found h f in
    let p = c.page_at-child.result in
    let p_is = c.page_at-child.ensures.of_fork D content some_link f.is within in
    let range = c.in-Some.ensures.range D content f.is count in
    let links = links_found D m c.args.node.page level row c.args.bytes.now f.links high may.stands.node there
    f.is in
    let next = next_may D m c.args.node.page level edge low top row f.links place c.args.pairs.now.items
    c.loop-place.pairs.items c.args.visits.now.pages.items c.loop-place.visits.pages.items c.args.seen.now
    c.loop-place.seen p
    high may links within so p_is (c.loop-place.visits.pages.items ++ p ∷ []) c.in-Some.range.0
    c.in-Some.range.1 range refl in
    let out = node_given_out D c.args.cache.now p (level - 1) next.below next.may.stands.node in
    at_error c.from_residual.result c.in_err-come_to.field-0.0 IsOfDevice c.from_residual.ensures.1
    (inl (c.in_err-come_to.ensures.first next.may.stands.low_page next.unvisited
    (omega (arith, out.1, inv.numbers, c.requires.numbers))))

pub returns-in_err-below-clause-asks : goal.returns-in_err-below-clause-asks
returns-in_err-below-clause-asks g t c =
    asks_and_refuses c.args.cache.now c.loop-place.cache c.copy_given.new.cache c.in_err-below.field-0.0
    c.from_residual-in_err-below.result c.from_residual-in_err-below.ensures.1 c.loop-place.invariant.asks
    c.in_err-below.ensures.asks

pub returns-in_err-below-clause-looks : goal.returns-in_err-below-clause-looks
returns-in_err-below-clause-looks g t c =
    let more = one_longer c.loop-place.visits.pages.items c.come_to.new.visits.pages.items _
    c.in_ok-come_to.ensures.added in
    omega (arith, more, c.in_err-below.ensures.looks, c.loop-place.invariant.looks)

pub returns-in_err-below-clause-stands : goal.returns-in_err-below-clause-stands
returns-in_err-below-clause-stands g t c = λ h there row may.
    let D = g.row.D in
    let level = c.args.node.level in
    let edge = c.args.node.edge in
    let low = c.args.node.low in
    let top = c.args.node.top in
    let place = c.loop-place.place in
    let inv = c.loop-place.invariant in
    let m = given c.args.cache.now in
    let high : 0 < level = omega (arith, c.if-node-eq0.false) in
    let f = c.is_fork_of.ensures.fork c.if-not-is_fork_of.false in
    let content : ForkContent = record { level = level; links = f.links } in
    let count : c.count_at-count.result ≡ length f.links = c.count_at-count.ensures.of_fork D content f.is in
    let within : place < length f.links = omega (arith, c.loop-place-test.true, count) in
    let so = inv.found h f in
    let p = c.page_at-child.result in
    let p_is = c.page_at-child.ensures.of_fork D content some_link f.is within in
    let range = c.in-Some.ensures.range D content f.is count in
    let links = links_found D m c.args.node.page level row c.args.bytes.now f.links high may.stands.node there
    f.is in
    let next = next_may D m c.args.node.page level edge low top row f.links place c.args.pairs.now.items
    c.loop-place.pairs.items c.args.visits.now.pages.items c.loop-place.visits.pages.items c.args.seen.now
    c.loop-place.seen p
    high may links within so p_is (c.loop-place.visits.pages.items ++ p ∷ []) c.in-Some.range.0
    c.in-Some.range.1 range refl in
    let out = node_given_out D c.args.cache.now p (level - 1) next.below next.may.stands.node in
    at_error c.from_residual-in_err-below.result c.in_err-below.field-0.0 IsOfDevice
    c.from_residual-in_err-below.ensures.1
    (c.in_err-below.ensures.there (inv.asks.gate.honest.0 h) out.0 (omega (arith, out.1, inv.asks.map.next)))

pub returns-in_err-add_below-clause-asks : goal.returns-in_err-add_below-clause-asks
returns-in_err-add_below-clause-asks g t c =
    let a = asks_in_turn c.args.cache.now c.loop-place.cache c.copy_given.new.cache None
    c.loop-place.invariant.asks c.in_ok-below.ensures.asks in
    asks_and_refuses c.args.cache.now c.copy_given.new.cache c.add_below.new.cache
    c.in_err-add_below.field-0.0 c.from_residual-in_err-add_below.result
    c.from_residual-in_err-add_below.ensures.1 a c.in_err-add_below.ensures.asks

pub returns-in_err-add_below-clause-stands : goal.returns-in_err-add_below-clause-stands
returns-in_err-add_below-clause-stands g t c = λ h there row may.
    let D = g.row.D in
    let level = c.args.node.level in
    let edge = c.args.node.edge in
    let low = c.args.node.low in
    let top = c.args.node.top in
    let place = c.loop-place.place in
    let inv = c.loop-place.invariant in
    let m = given c.args.cache.now in
    let high : 0 < level = omega (arith, c.if-node-eq0.false) in
    let f = c.is_fork_of.ensures.fork c.if-not-is_fork_of.false in
    let content : ForkContent = record { level = level; links = f.links } in
    let count : c.count_at-count.result ≡ length f.links = c.count_at-count.ensures.of_fork D content f.is in
    let within : place < length f.links = omega (arith, c.loop-place-test.true, count) in
    let so = inv.found h f in
    let p = c.page_at-child.result in
    let p_is = c.page_at-child.ensures.of_fork D content some_link f.is within in
    let range = c.in-Some.ensures.range D content f.is count in
    let links = links_found D m c.args.node.page level row c.args.bytes.now f.links high may.stands.node there
    f.is in
    let next = next_may D m c.args.node.page level edge low top row f.links place c.args.pairs.now.items
    c.loop-place.pairs.items c.args.visits.now.pages.items c.loop-place.visits.pages.items c.args.seen.now
    c.loop-place.seen p
    high may links within so p_is c.come_to.new.visits.pages.items c.in-Some.range.0 c.in-Some.range.1 range
    c.in_ok-come_to.ensures.added in
    let a = asks_in_turn c.args.cache.now c.loop-place.cache c.copy_given.new.cache None inv.asks
    c.in_ok-below.ensures.asks in
    let there_below = sym (inv.asks.map.given_stay h p)
    ∙ c.in_ok-below.ensures.bytes (inv.asks.gate.honest.0 h) in
    let there_now = c.in_ok-below.ensures.asks.map.given_stay (inv.asks.gate.honest.0 h) p
    ∙ c.in_ok-below.ensures.bytes (inv.asks.gate.honest.0 h) in
    let last = c.is_last.ensures ∙ ap (λ k. edge && (place + 1 == k)) count in
    at_error c.from_residual-in_err-add_below.result c.in_err-add_below.field-0.0 IsOfDevice
    c.from_residual-in_err-add_below.ensures.1
    (c.in_err-add_below.ensures.stands (a.gate.honest.0 h) there_now next.below
    (subst (λ e. MayAdd D (given c.copy_given.new.cache) p (level - 1) e c.in-Some.range.0 c.in-Some.range.1
    next.below c.come_to.new.visits.pages.items c.loop-place.seen) (sym last)
    (may_on D m (given c.copy_given.new.cache) p (level - 1) (edge && (place + 1 == length f.links))
    c.in-Some.range.0 c.in-Some.range.1 next.below c.come_to.new.visits.pages.items c.loop-place.seen
    (λ n. a.map.given_stay h n) next.may)))

pub loop-place-preserved : goal.loop-place-preserved
loop-place-preserved g t c =
    let inv = c.loop-place.invariant in
    let a = asks_in_turn c.args.cache.now c.loop-place.cache c.copy_given.new.cache None inv.asks
    c.in_ok-below.ensures.asks in
    let more = one_longer c.loop-place.visits.pages.items c.come_to.new.visits.pages.items _
    c.in_ok-come_to.ensures.added in
    record {
      asks = asks_in_turn c.args.cache.now c.copy_given.new.cache c.add_below.new.cache None a
          c.in_ok-add_below.ensures.asks;
      found = λ h f.
          let D = g.row.D in
          let level = c.args.node.level in
          let edge = c.args.node.edge in
          let place = c.loop-place.place in
          let m = given c.args.cache.now in
          let p = c.page_at-child.result in
          let high : 0 < level = omega (arith, c.if-node-eq0.false) in
          let content : ForkContent = record { level = level; links = f.links } in
          let count : c.count_at-count.result ≡ length f.links =
          c.count_at-count.ensures.of_fork D content f.is in
          let within : place < length f.links = omega (arith, c.loop-place-test.true, count) in
          let p_is = c.page_at-child.ensures.of_fork D content some_link f.is within in
          let range = c.in-Some.ensures.range D content f.is count in
          let there_now = c.in_ok-below.ensures.asks.map.given_stay (inv.asks.gate.honest.0 h) p
          ∙ c.in_ok-below.ensures.bytes (inv.asks.gate.honest.0 h) in
          let last = c.is_last.ensures ∙ ap (λ k. edge && (place + 1 == k)) count in
          let node =
          subst (λ e. AddsNode D m p (level - 1) e c.in-Some.range.0 c.in-Some.range.1
          c.loop-place.pairs.items c.add_below.new.pairs.items c.come_to.new.visits.pages.items
          c.add_below.new.visits.pages.items c.loop-place.seen c.add_below.new.seen) last
          (node_on D m (given c.copy_given.new.cache) p (level - 1) c.is_last.result c.in-Some.range.0
          c.in-Some.range.1 c.loop-place.pairs.items c.add_below.new.pairs.items
          c.come_to.new.visits.pages.items c.add_below.new.visits.pages.items c.loop-place.seen
          c.add_below.new.seen (λ n. a.map.given_stay h n)
          (c.in_ok-add_below.ensures.found (a.gate.honest.0 h) there_now)) in
          adds_more D m level edge c.args.node.low c.args.node.top f.links place c.args.pairs.now.items
          c.loop-place.pairs.items c.add_below.new.pairs.items c.args.visits.now.pages.items
          c.loop-place.visits.pages.items c.come_to.new.visits.pages.items
          c.add_below.new.visits.pages.items c.args.seen.now c.loop-place.seen c.add_below.new.seen p
          c.in-Some.range.0 c.in-Some.range.1 high within (inv.found h f) node
          c.in_ok-come_to.ensures.added range p_is;
      numbers = c.in_ok-add_below.ensures.numbers ∙ c.come_to.ensures.marks ∙ inv.numbers;
      looks = omega (arith, more, c.in_ok-below.ensures.looks, inv.looks, c.in_ok-add_below.ensures.looks);
    }

pub returns-clause-found : goal.returns-clause-found
returns-clause-found g t c = λ h there.
    let D = g.row.D in
    let high : 0 < c.args.node.level = omega (arith, c.if-node-eq0.false) in
    let f = c.is_fork_of.ensures.fork c.if-not-is_fork_of.false in
    let count = c.count_at-count.ensures.of_fork D (record { level = c.args.node.level; links = f.links }) f.is in
    adds_all D (given c.args.cache.now) c.args.node.page c.args.node.level c.args.node.edge c.args.node.low c.args.node.top
    c.args.bytes.now c.loop-place.place c.args.pairs.now.items c.loop-place.pairs.items
    c.args.visits.now.pages.items c.loop-place.visits.pages.items c.args.seen.now
    c.loop-place.seen high c.requires.low_page there f (omega (arith, count, c.loop-place-test.false))
    (c.loop-place.invariant.found h f)

-- ---- what is damaged

pub returns-then-node-eq0-clause-damage : goal.returns-then-node-eq0-clause-damage
returns-then-node-eq0-clause-damage g t c = λ h there.
    if_error c.add_leaf.result (λ (f : Fault). (f ≡ fault.Memory) ⊎ (f ≡ fault.Damaged c.args.node.page)) _
    (λ f either n damaged. comes_here g.row.D (given c.args.cache.now) c.args.node.page n
    (damaged_visit f c.args.node.page n either damaged)) c.add_leaf.ensures.faults

pub returns-then-not-is_fork_of-clause-damage : goal.returns-then-not-is_fork_of-clause-damage
returns-then-not-is_fork_of-clause-damage g t c =
    λ h there n (damaged : fault.Damaged c.args.node.page ≡ fault.Damaged n). comes_here g.row.D
    (given c.args.cache.now) c.args.node.page n (cc)

pub returns-in_default-clause-damage : goal.returns-in_default-clause-damage
returns-in_default-clause-damage g t c = λ h there n (damaged : fault.Damaged c.args.node.page ≡ fault.Damaged n).
    comes_here g.row.D (given c.args.cache.now) c.args.node.page n (cc)

pub returns-in_err-come_to-clause-damage : goal.returns-in_err-come_to-clause-damage
returns-in_err-come_to-clause-damage g t c = λ h there.
    at_error c.from_residual.result c.in_err-come_to.field-0.0 _
    c.from_residual.ensures.1 (λ n damaged.
    let f = c.is_fork_of.ensures.fork c.if-not-is_fork_of.false in
    let content : ForkContent = record { level = c.args.node.level; links = f.links } in
    let count : c.count_at-count.result ≡ length f.links =
    c.count_at-count.ensures.of_fork g.row.D content f.is in
    let within : c.loop-place.place < length f.links = omega (arith, c.loop-place-test.true, count) in
    let named = λ (other : Link). c.page_at-child.ensures.of_fork g.row.D content other f.is within in
    let below = comes_below g.row.D (given c.args.cache.now) c.args.node.page c.args.node.level c.args.bytes.now f.links
    c.loop-place.place c.page_at-child.result n there f.is within named in
    below (comes_here g.row.D (given c.args.cache.now) c.page_at-child.result n
    (damaged_visit c.in_err-come_to.field-0.0 c.page_at-child.result n c.in_err-come_to.ensures.faults
    damaged)))

pub returns-in_err-below-clause-damage : goal.returns-in_err-below-clause-damage
returns-in_err-below-clause-damage g t c = λ h there.
    at_error c.from_residual-in_err-below.result c.in_err-below.field-0.0 _
    c.from_residual-in_err-below.ensures.1 (λ n damaged.
    let f = c.is_fork_of.ensures.fork c.if-not-is_fork_of.false in
    let content : ForkContent = record { level = c.args.node.level; links = f.links } in
    let count : c.count_at-count.result ≡ length f.links =
    c.count_at-count.ensures.of_fork g.row.D content f.is in
    let within : c.loop-place.place < length f.links = omega (arith, c.loop-place-test.true, count) in
    let named = λ (other : Link). c.page_at-child.ensures.of_fork g.row.D content other f.is within in
    let below = comes_below g.row.D (given c.args.cache.now) c.args.node.page c.args.node.level c.args.bytes.now f.links
    c.loop-place.place c.page_at-child.result n there f.is within named in
    below (comes_here g.row.D (given c.args.cache.now) c.page_at-child.result n
    (damaged_read c.in_err-below.field-0.0 c.page_at-child.result n
    (c.in_err-below.ensures.damage (c.loop-place.invariant.asks.gate.honest.0 h)) damaged)))

pub returns-in_err-add_below-clause-damage : goal.returns-in_err-add_below-clause-damage
returns-in_err-add_below-clause-damage g t c = λ h there.
    at_error c.from_residual-in_err-add_below.result c.in_err-add_below.field-0.0 _
    c.from_residual-in_err-add_below.ensures.1 (λ n damaged.
    let f = c.is_fork_of.ensures.fork c.if-not-is_fork_of.false in
    let content : ForkContent = record { level = c.args.node.level; links = f.links } in
    let count : c.count_at-count.result ≡ length f.links =
    c.count_at-count.ensures.of_fork g.row.D content f.is in
    let within : c.loop-place.place < length f.links = omega (arith, c.loop-place-test.true, count) in
    let named = λ (other : Link). c.page_at-child.ensures.of_fork g.row.D content other f.is within in
    let below = comes_below g.row.D (given c.args.cache.now) c.args.node.page c.args.node.level c.args.bytes.now f.links
    c.loop-place.place c.page_at-child.result n there f.is within named in
    let inv = c.loop-place.invariant in
    let a = asks_in_turn c.args.cache.now c.loop-place.cache c.copy_given.new.cache None inv.asks
    c.in_ok-below.ensures.asks in
    let there_now = c.in_ok-below.ensures.asks.map.given_stay (inv.asks.gate.honest.0 h)
    c.page_at-child.result ∙ c.in_ok-below.ensures.bytes (inv.asks.gate.honest.0 h) in
    below (comes_so g.row.D (given c.args.cache.now) (given c.copy_given.new.cache) c.page_at-child.result n
    (λ k. a.map.given_stay h k)
    (c.in_err-add_below.ensures.damage (a.gate.honest.0 h) there_now n damaged)))
