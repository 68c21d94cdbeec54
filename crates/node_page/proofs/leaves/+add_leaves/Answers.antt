-- The goals of `add_leaves` that are proved by hand.
use Rattle.std.proofs.Common.{◌≡◌, ◌∙◌, ◌<◌, ℕ, length, map, ap, sym, arith}
use Rattle.std.proofs.lemmas.List.{length-map}
use Rattle.page_file.specs.Fault.{IsOfDevice}
use Rattle.page_file.specs.declared.fault.Fault.TheVariants as fault
use Rattle.page_cache.specs.Cache.{given, looks_of}
use Rattle.page_cache.specs.Calls.{asks_and_refuses}
use Rattle.tree_node.specs.Nodes.{content_of, item_of}
use Rattle.tree_node.proofs.RowLemmas.{entry_item}
use Rattle.node_page.specs.Checked.{ComesToNone}
use Rattle.node_page.specs.Lists.{lists_of}
use Rattle.node_page.specs.Standing.{PageMap}
use Rattle.node_page.proofs.DamageLemmas.{damaged_read, entry_names, none_here, none_on, not_damaged}
use Rattle.node_page.proofs.LeafLemmas.{below_here, child_page, child_tag, entries_there, found_all}
use Rattle.node_page.proofs.LeafLemmas.{found_none, leaf_found, one_more_read}
use Rattle.node_page.proofs.NodeLemmas.{at_error, if_error, on_ok}
use Rattle.node_page.proofs.leaves.+add_leaves.Goals as goal

pub returns-then-root-eq0-clause-found : goal.returns-then-root-eq0-clause-found
returns-then-root-eq0-clause-found g t c = λ h.
    on_ok c.add_leaf.result
    (λ added. leaf_found g.row.D (given c.args.cache.now) c.args.root.page c.args.root.level
    (content_of c.in_ok-node.node) (lists_of c.args.lists.now) (lists_of c.add_leaf.new.lists)
    (looks_of c.args.cache.now) _
    c.if-root-eq0.true c.in_ok-node.ensures.level (c.in_ok-node.ensures.given_node h) added
    c.in_ok-node.ensures.looks)
    c.add_leaf.ensures.lists

pub overflow_cast-below : goal.overflow_cast-below
overflow_cast-below g t c =
    omega (
      arith,
      child_page c.in_ok-node.node.level c.in_ok-node.node.entries.items c.as_slice-entry-items.result.now
          c.loop-entry.entry-index c.entry-item.result c.in_ok-node.ensures.spellable.refers
          c.as_slice-entry-items.ensures.value (omega (arith, c.loop-entry-test.true)) c.entry-item.is
          (omega (arith, c.in_ok-node.ensures.level, c.if-root-eq0.false)),
    )

pub returns-in_err-add_leaves-clause-asks : goal.returns-in_err-add_leaves-clause-asks
returns-in_err-add_leaves-clause-asks g t c =
    asks_and_refuses c.args.cache.now c.loop-entry.cache c.add_leaves.new.cache c.in_err-add_leaves.field-0.0
    c.from_residual-in_err-add_leaves.result c.from_residual-in_err-add_leaves.ensures.1
    c.loop-entry.invariant.asks c.in_err-add_leaves.ensures.asks

pub returns-in_err-add_leaves-clause-stands : goal.returns-in_err-add_leaves-clause-stands
returns-in_err-add_leaves-clause-stands g t c = λ h row at.
    let m : PageMap = given c.args.cache.now in
    let same =
    entries_there g.row.D m c.args.root.page c.args.root.level row (content_of c.in_ok-node.node) at
    (c.in_ok-node.ensures.given_node h) ∙ ap (map item_of) (sym c.as_slice-entry-items.ensures.value) in
    let b = below_here c.loop-entry.invariant c.entry-item.result (omega (arith, c.loop-entry-test.true))
    c.entry-item.is (omega (arith, c.if-root-eq0.false)) h row same at.below in
    at_error c.from_residual-in_err-add_leaves.result c.in_err-add_leaves.field-0.0 IsOfDevice
    c.from_residual-in_err-add_leaves.ensures.1
    (c.in_err-add_leaves.ensures.stands (c.loop-entry.invariant.asks.gate.honest.0 h) b.0 b.1)

pub loop-entry-init : goal.loop-entry-init
loop-entry-init g t c = record {
  asks = c.in_ok-node.ensures.asks;
  found = λ h. found_none g.row.D (given c.args.cache.now) c.args.root.level
      (map item_of c.as_slice-entry-items.result.now) (lists_of c.args.lists.now) (looks_of c.args.cache.now)
      _ (omega (arith, c.if-root-eq0.false)) c.in_ok-node.ensures.looks;
}

pub loop-entry-preserved : goal.loop-entry-preserved
loop-entry-preserved g t c =
    one_more_read c.loop-entry.invariant c.entry-item.result (omega (arith, c.loop-entry-test.true))
    c.entry-item.is (omega (arith, c.if-root-eq0.false))
    (child_tag c.in_ok-node.node.level c.in_ok-node.node.entries.items c.as_slice-entry-items.result.now
    c.loop-entry.entry-index c.entry-item.result c.in_ok-node.ensures.spellable.refers
    c.as_slice-entry-items.ensures.value (omega (arith, c.loop-entry-test.true)) c.entry-item.is
    (omega (arith, c.in_ok-node.ensures.level, c.if-root-eq0.false)))
    c.add_leaves.new.cache (lists_of c.add_leaves.new.lists) c.in_ok-add_leaves.ensures.asks
    (λ h. c.in_ok-add_leaves.ensures.found h)

pub returns-clause-found : goal.returns-clause-found
returns-clause-found g t c = λ h.
    found_all g.row.D (given c.args.cache.now) c.args.root.level
    (map item_of c.as_slice-entry-items.result.now) (lists_of c.args.lists.now)
    (looks_of c.args.cache.now) c.args.root.page c.loop-entry.entry-index
    (content_of c.in_ok-node.node) (lists_of c.loop-entry.lists) (looks_of c.loop-entry.cache)
    (omega (arith, c.loop-entry-test.false, length-map c.as_slice-entry-items.result.now item_of))
    (c.in_ok-node.ensures.given_node h)
    c.in_ok-node.ensures.level (ap (map item_of) (sym c.as_slice-entry-items.ensures.value))
    (c.loop-entry.invariant.found h)

pub returns-in_err-node-clause-damage : goal.returns-in_err-node-clause-damage
returns-in_err-node-clause-damage g t c = λ h.
    at_error c.from_residual.result c.in_err-node.field-0.0
    (λ f. (n : ℕ) → f ≡ fault.Damaged n → ComesToNone g.row.D (given c.args.cache.now) c.args.root.page
    c.args.root.level n)
    c.from_residual.ensures.1
    (λ n damaged. none_here g.row.D (given c.args.cache.now) c.args.root.page c.args.root.level n
    (damaged_read c.in_err-node.field-0.0 c.args.root.page n (c.in_err-node.ensures.faults h) damaged)
    (λ content there same. not_damaged c.in_err-node.field-0.0 n
    (c.in_err-node.ensures.given_there h content there same) damaged))

pub returns-then-root-eq0-clause-damage : goal.returns-then-root-eq0-clause-damage
returns-then-root-eq0-clause-damage g t c = λ h.
    if_error c.add_leaf.result
    (λ f. f ≡ fault.Memory)
    (λ f. (n : ℕ) → f ≡ fault.Damaged n → ComesToNone g.row.D (given c.args.cache.now) c.args.root.page
    c.args.root.level n)
    (λ f (memory : f ≡ fault.Memory) n (damaged : f ≡ fault.Damaged n). absurd (cc))
    c.add_leaf.ensures.memory

pub returns-in_err-add_leaves-clause-damage : goal.returns-in_err-add_leaves-clause-damage
returns-in_err-add_leaves-clause-damage g t c = λ h.
    let m = given c.args.cache.now in
    let now = given c.loop-entry.cache in
    let content = content_of c.in_ok-node.node in
    let entry = c.entry-item.result in
    let items = map item_of c.as_slice-entry-items.result.now in
    let same = ap (map item_of) (sym c.as_slice-entry-items.ensures.value) in
    let within : c.loop-entry.entry-index < length items =
    omega (arith, length-map c.as_slice-entry-items.result.now item_of, c.loop-entry-test.true) in
    let here =
    entry_item c.as_slice-entry-items.result.now c.loop-entry.entry-index entry
    (omega (arith, c.loop-entry-test.true)) c.entry-item.is in
    let names =
    entry_names content items c.loop-entry.entry-index (item_of entry) same
    (omega (arith, c.in_ok-node.ensures.level, c.if-root-eq0.false)) within here in
    let asks = c.loop-entry.invariant.asks in
    at_error c.from_residual-in_err-add_leaves.result c.in_err-add_leaves.field-0.0
    (λ f. (n : ℕ) → f ≡ fault.Damaged n → ComesToNone g.row.D m c.args.root.page c.args.root.level n)
    c.from_residual-in_err-add_leaves.ensures.1
    (λ n damaged. none_on g.row.D m now c.args.root.page c.args.root.level content entry.reference n
    (c.in_ok-node.ensures.given_node h) names (omega (arith, c.if-root-eq0.false))
    (λ k. asks.map.given_stay h k) (c.in_err-add_leaves.ensures.damage (asks.gate.honest.0 h) n damaged))
