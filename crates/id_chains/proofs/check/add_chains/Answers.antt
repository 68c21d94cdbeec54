-- The goals of `add_chains` that are proved by hand: a chain more, and one that cannot come next.
use Rattle.std.proofs.Common.{◌≡◌, ◌∙◌, ◌<◌, ℕ, [], None, arith, get_or, length, refl, subst, sym}
use Rattle.page_file.specs.Fault.{IsOfDevice}
use Rattle.page_cache.specs.Cache.{given}
use Rattle.page_cache.specs.Calls.{asks_and_refuses, asks_in_turn, no_call_asks}
use Rattle.node_page.proofs.NodeLemmas.{at_error}
use Rattle.id_chains.specs.Checked.{AddsChains, ComesAlong}
use Rattle.id_chains.specs.Table.{ChainStands}
use Rattle.id_chains.proofs.CheckedLemmas.{chain_on, chains_more, chains_none, next_once}
use Rattle.id_chains.proofs.DamageLemmas.{comes_so}
use Rattle.id_chains.proofs.ReplaceLemmas.{chain_stays}
use Rattle.id_chains.proofs.check.add_chains.Goals as goal

pub loop-class-init : goal.loop-class-init
loop-class-init g c = record {
  asks = no_call_asks c.args.cache.now;
  found = λ h. chains_none g.row.D (given c.args.cache.now) c.args.directory.now c.args.pairs.now.items
      c.args.visits.now.pages.items;
  numbers = refl;
  looks = omega arith;
}

pub loop-class-preserved : goal.loop-class-preserved
loop-class-preserved g c =
    let l = c.loop-class in
    let inv = l.invariant in
    let old = c.args.cache.now in
    let added = c.in_ok-add_chain.ensures in
    record {
      asks = asks_in_turn old l.cache c.add_chain.new.cache None inv.asks added.asks;
      found = λ h. chains_more g.row.D (given old) c.args.directory.now c.args.pairs.now.items
          c.args.visits.now.pages.items l.class l.pairs.items l.visits.pages.items (inv.found h)
          c.link_of.result c.add_chain.new.pairs.items c.add_chain.new.visits.pages.items c.link_of.ensures
          (chain_on g.row.D (given l.cache) (given old) l.class c.link_of.result l.pairs.items
          c.add_chain.new.pairs.items l.visits.pages.items c.add_chain.new.visits.pages.items
          (λ n. sym (inv.asks.map.given_stay h n)) (added.found (inv.asks.gate.honest.0 h)));
      numbers = added.numbers ∙ inv.numbers;
      looks = omega (arith, inv.looks, added.looks);
    }

pub returns-in_err-add_chain-clause-asks : goal.returns-in_err-add_chain-clause-asks
returns-in_err-add_chain-clause-asks g c =
    asks_and_refuses c.args.cache.now c.loop-class.cache c.add_chain.new.cache c.in_err-add_chain.field-0.0
    c.from_residual.result c.from_residual.ensures.1 c.loop-class.invariant.asks
    c.in_err-add_chain.ensures.asks

pub returns-in_err-add_chain-clause-stands : goal.returns-in_err-add_chain-clause-stands
returns-in_err-add_chain-clause-stands g c = λ h chains many may.
    let l = c.loop-class in
    let inv = l.invariant in
    let old = c.args.cache.now in
    let lt : l.class < length chains = omega (arith, many, c.loop-class-test.true) in
    let chain = get_or chains l.class [] in
    let stands =
    subst (λ (n : ℕ). ChainStands g.row.D (given old) n chain) (sym c.link_of.ensures)
    (may.stands l.class lt) in
    at_error c.from_residual.result c.in_err-add_chain.field-0.0 IsOfDevice c.from_residual.ensures.1
    (c.in_err-add_chain.ensures.stands (inv.asks.gate.honest.0 h) chain
    (chain_stays g.row.D (given old) (given l.cache) c.link_of.result chain
    (λ n here. inv.asks.map.given_stay h n) stands) (may.filled l.class lt)
    (next_once g.row.D (given old) c.args.directory.now c.args.pairs.now.items c.args.visits.now.pages.items
    l.class l.pairs.items l.visits.pages.items (inv.found h) chains lt may))

pub returns-clause-found : goal.returns-clause-found
returns-clause-found g c = λ h.
    let l = c.loop-class in
    let all : l.class ≡ 1000 = omega (arith, c.loop-class-test.false, c.loop-class.auto) in
    subst (λ (n : ℕ). AddsChains g.row.D (given c.args.cache.now) c.args.directory.now n
    c.args.pairs.now.items l.pairs.items c.args.visits.now.pages.items l.visits.pages.items) all
    (l.invariant.found h)

pub returns-in_err-add_chain-clause-damage : goal.returns-in_err-add_chain-clause-damage
returns-in_err-add_chain-clause-damage g c = λ h.
    let l = c.loop-class in
    let inv = l.invariant in
    let m = given c.args.cache.now in
    at_error c.from_residual.result c.in_err-add_chain.field-0.0 _
    c.from_residual.ensures.1
    (λ n damaged. (
      l.class,
      omega (arith, c.loop-class-test.true),
      subst (λ (first : ℕ). ComesAlong g.row.D m first n) c.link_of.ensures
          (comes_so g.row.D m (given l.cache) c.link_of.result n (λ k. inv.asks.map.given_stay h k)
          (c.in_err-add_chain.ensures.damage (inv.asks.gate.honest.0 h) n damaged)),
    ))
