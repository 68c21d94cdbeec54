-- The goals of `add_nodes` that are proved by hand.
use Rattle.std.proofs.Common.{◌≡◌, ◌∙◌, ◌<◌, ℕ, [], length, map, ap, sym, arith}
use Rattle.std.proofs.lemmas.List.{length-map}
use Rattle.page_file.specs.Fault.{IsOfDevice}
use Rattle.page_file.specs.declared.fault.Fault.TheVariants as fault
use Rattle.page_cache.specs.Cache.{given, looks_of}
use Rattle.page_cache.specs.Calls.{asks_and_refuses}
use Rattle.tree_node.specs.Nodes.{content_of, item_of}
use Rattle.tree_node.proofs.RowLemmas.{entry_item}
use Rattle.node_page.specs.Checked.{ComesTo}
use Rattle.node_page.specs.Standing.{PageMap}
use Rattle.node_page.proofs.DamageLemmas.{comes_below_so, comes_on, damaged_read, entry_names}
use Rattle.node_page.proofs.LeafLemmas.{child_page, entries_there}
use Rattle.node_page.proofs.NodeLemmas.{at_error}
use Rattle.tree_outline.proofs.WalkLemmas.{all_listed, all_looked, begins, leaf_listed, leaf_looked}
use Rattle.tree_outline.proofs.WalkLemmas.{stands_here, went_over}
use Rattle.tree_outline.proofs.listing.+add_nodes.Goals as goal

pub returns-in_err-node-clause-damage : goal.returns-in_err-node-clause-damage
returns-in_err-node-clause-damage g t c = λ h.
    at_error c.from_residual.result c.in_err-node.field-0.0
    (λ f. (n : ℕ) → f ≡ fault.Damaged n → ComesTo g.row.D (given c.args.cache.now) c.args.root.page n)
    c.from_residual.ensures.1
    (λ n damaged. (
      [],
      damaged_read c.in_err-node.field-0.0 c.args.root.page n (c.in_err-node.ensures.faults h)
          damaged,
    ))

pub returns-then-root-eq0-clause-rows : goal.returns-then-root-eq0-clause-rows
returns-then-root-eq0-clause-rows g t c = λ h row at.
    leaf_listed g.row.D (given c.args.cache.now) c.args.root.page c.args.root.level
    (content_of c.in_ok-node.node) row c.args.rows.now.items c.add_node.new.rows.items c.if-root-eq0.true
    c.in_ok-node.ensures.level (c.in_ok-node.ensures.given_node h) at c.in_ok-node.ensures.rows

pub returns-then-root-eq0-clause-looks : goal.returns-then-root-eq0-clause-looks
returns-then-root-eq0-clause-looks g t c = λ h row at.
    leaf_looked g.row.D (given c.args.cache.now) c.args.root.page c.args.root.level row
    (looks_of c.args.cache.now) (looks_of c.add_node.new.cache) c.if-root-eq0.true at
    c.in_ok-node.ensures.looks

pub loop-entry-init : goal.loop-entry-init
loop-entry-init g t c =
    begins g.row.D c.args.cache.now c.add_node.new.cache c.args.root.page c.args.root.level
    c.as_slice-entry-items.result.now (content_of c.in_ok-node.node) c.args.rows.now.items
    c.add_node.new.rows.items c.in_ok-node.ensures.asks c.in_ok-node.ensures.level
    (ap (map item_of) c.as_slice-entry-items.ensures.value) c.in_ok-node.ensures.rows
    c.in_ok-node.ensures.looks

pub overflow_cast-below : goal.overflow_cast-below
overflow_cast-below g t c =
    omega (
      arith,
      child_page c.in_ok-node.node.level c.in_ok-node.node.entries.items c.as_slice-entry-items.result.now
          c.loop-entry.entry-index c.entry-item.result c.in_ok-node.ensures.spellable.refers
          c.as_slice-entry-items.ensures.value (omega (arith, c.loop-entry-test.true)) c.entry-item.is
          (omega (arith, c.in_ok-node.ensures.level, c.if-root-eq0.false)),
    )

pub returns-in_err-add_nodes-clause-asks : goal.returns-in_err-add_nodes-clause-asks
returns-in_err-add_nodes-clause-asks g t c =
    asks_and_refuses c.args.cache.now c.loop-entry.cache c.add_nodes.new.cache c.in_err-add_nodes.field-0.0
    c.from_residual-in_err-add_nodes.result c.from_residual-in_err-add_nodes.ensures.1
    c.loop-entry.invariant.asks c.in_err-add_nodes.ensures.asks

pub returns-in_err-add_nodes-clause-stands : goal.returns-in_err-add_nodes-clause-stands
returns-in_err-add_nodes-clause-stands g t c = λ h row at.
    let m : PageMap = given c.args.cache.now in
    let same =
    entries_there g.row.D m c.args.root.page c.args.root.level row (content_of c.in_ok-node.node) at
    (c.in_ok-node.ensures.given_node h) ∙ ap (map item_of) (sym c.as_slice-entry-items.ensures.value) in
    let b = stands_here c.loop-entry.invariant c.entry-item.result (omega (arith, c.if-root-eq0.false))
    (omega (arith, c.loop-entry-test.true)) c.entry-item.is h row same at.below in
    at_error c.from_residual-in_err-add_nodes.result c.in_err-add_nodes.field-0.0 IsOfDevice
    c.from_residual-in_err-add_nodes.ensures.1
    (c.in_err-add_nodes.ensures.stands (c.loop-entry.invariant.asks.gate.honest.0 h) b.0 b.1)

pub returns-in_err-add_nodes-clause-damage : goal.returns-in_err-add_nodes-clause-damage
returns-in_err-add_nodes-clause-damage g t c = λ h.
    let m = given c.args.cache.now in
    let now = given c.loop-entry.cache in
    let content = content_of c.in_ok-node.node in
    let entry = c.entry-item.result in
    let items = map item_of c.as_slice-entry-items.result.now in
    let same = ap (map item_of) (sym c.as_slice-entry-items.ensures.value) in
    let within : c.loop-entry.entry-index < length items =
    omega (arith, length-map c.as_slice-entry-items.result.now item_of, c.loop-entry-test.true) in
    let here =
    entry_item c.as_slice-entry-items.result.now c.loop-entry.entry-index entry
    (omega (arith, c.loop-entry-test.true)) c.entry-item.is in
    let names =
    entry_names content items c.loop-entry.entry-index (item_of entry) same
    (omega (arith, c.in_ok-node.ensures.level, c.if-root-eq0.false)) within here in
    let asks = c.loop-entry.invariant.asks in
    at_error c.from_residual-in_err-add_nodes.result c.in_err-add_nodes.field-0.0
    (λ f. (n : ℕ) → f ≡ fault.Damaged n → ComesTo g.row.D m c.args.root.page n)
    c.from_residual-in_err-add_nodes.ensures.1
    (λ n damaged. comes_on g.row.D m c.args.root.page content n (c.in_ok-node.ensures.given_node h)
    (comes_below_so g.row.D m now content n (λ k. asks.map.given_stay h k)
    (entry.reference, names, c.in_err-add_nodes.ensures.damage (asks.gate.honest.0 h) n damaged)))

pub loop-entry-preserved : goal.loop-entry-preserved
loop-entry-preserved g t c =
    went_over c.loop-entry.invariant c.entry-item.result (omega (arith, c.if-root-eq0.false))
    (omega (arith, c.loop-entry-test.true)) c.entry-item.is c.add_nodes.new.cache c.add_nodes.new.rows.items
    c.in_ok-add_nodes.ensures.asks (λ h row at. c.in_ok-add_nodes.ensures.rows h row at)
    (λ h row at. c.in_ok-add_nodes.ensures.looks h row at)

pub returns-clause-rows : goal.returns-clause-rows
returns-clause-rows g t c = λ h row at.
    let same =
    entries_there g.row.D (given c.args.cache.now) c.args.root.page c.args.root.level row
    (content_of c.in_ok-node.node) at (c.in_ok-node.ensures.given_node h)
    ∙ ap (map item_of) (sym c.as_slice-entry-items.ensures.value) in
    all_listed c.loop-entry.invariant (omega (arith, c.loop-entry-test.false)) h row same at.below

pub returns-clause-looks : goal.returns-clause-looks
returns-clause-looks g t c = λ h row at.
    let same =
    entries_there g.row.D (given c.args.cache.now) c.args.root.page c.args.root.level row
    (content_of c.in_ok-node.node) at (c.in_ok-node.ensures.given_node h)
    ∙ ap (map item_of) (sym c.as_slice-entry-items.ensures.value) in
    all_looked c.loop-entry.invariant (omega (arith, c.loop-entry-test.false)) h row same at.below
