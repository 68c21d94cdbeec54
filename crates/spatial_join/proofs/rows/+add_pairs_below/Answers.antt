-- The goals of `add_pairs_below` that are proved by hand.
use Rattle.std.proofs.Common.{◌-◌, [], arith, refl}
use Rattle.box_math.specs.Measures.{near_test}
use Rattle.page_file.specs.Fault.{IsOfDevice}
use Rattle.page_cache.specs.Cache.{given, pages}
use Rattle.page_cache.specs.Calls.{asks_and_refuses}
use Rattle.tree_node.specs.Nodes.{content_of}
use Rattle.node_page.proofs.DamageLemmas.{damaged_read}
use Rattle.node_page.proofs.NodeLemmas.{at_error}
use Rattle.node_page.specs.Standing.{PageMap}
use Rattle.spatial_join.proofs.DescentLemmas.{page_fits}
use Rattle.spatial_join.proofs.RowsLemmas.{all_added, all_looked, comes_by_child, leaf_gains, near_encloses}
use Rattle.spatial_join.proofs.RowsLemmas.{near_gains, near_has, near_nodes, near_row, objects_in_least, stands_here}
use Rattle.spatial_join.proofs.RowsLemmas.{went_below}
use Rattle.spatial_join.proofs.rows.+add_pairs_below.Goals as goal

pub overflow_cast-below : goal.overflow_cast-below
overflow_cast-below g t c = record {
  fits = page_fits c.find_near.new.children.items c.as_slice-child-items.result.now c.loop-child.child-index
      c.child-item.result c.in_ok-find_near.ensures.fit c.as_slice-child-items.ensures.value
      (omega (arith, c.loop-child-test.true)) c.child-item.is;
}

-- ---- a leaf below the node

pub returns-in_err-add_leaf_pairs-clause-asks : goal.returns-in_err-add_leaf_pairs-clause-asks
returns-in_err-add_leaf_pairs-clause-asks g t c =
    asks_and_refuses c.args.cache.now c.loop-child.cache c.add_leaf_pairs.new.cache
    c.in_err-add_leaf_pairs.field-0.0 c.from_residual-in_err-add_leaf_pairs.result
    c.from_residual-in_err-add_leaf_pairs.ensures.1 c.loop-child.invariant.asks c.in_err-add_leaf_pairs.ensures.asks

pub returns-in_err-add_leaf_pairs-clause-stands : goal.returns-in_err-add_leaf_pairs-clause-stands
returns-in_err-add_leaf_pairs-clause-stands g t c = λ h row at.
    let m : PageMap = pages c.args.cache.now in
    let test = near_test g.row.D c.args.reach.limit c.args.bounds.now in
    let has =
    near_has m c.args.right.page c.args.right.level test row c.find_near.new.children.items _ at
    c.as_slice-child-items.ensures.value (c.in_ok-find_near.ensures.children h _ at.node refl) in
    let b =
    stands_here c.loop-child.invariant c.child-item.result (omega (arith, c.loop-child-test.true)) c.child-item.is
    c.requires.above h (near_row test row) has in
    at_error c.from_residual-in_err-add_leaf_pairs.result c.in_err-add_leaf_pairs.field-0.0 IsOfDevice
    c.from_residual-in_err-add_leaf_pairs.ensures.1
    (c.in_err-add_leaf_pairs.ensures.there (c.loop-child.invariant.asks.gate.honest.0 h) _ b.1.node
    c.if-below-eq0.true)

pub returns-in_err-add_leaf_pairs-clause-damage : goal.returns-in_err-add_leaf_pairs-clause-damage
returns-in_err-add_leaf_pairs-clause-damage g t c = λ h.
    let asks = c.loop-child.invariant.asks in
    let node = c.in_ok-find_near.ensures.named h in
    at_error c.from_residual-in_err-add_leaf_pairs.result c.in_err-add_leaf_pairs.field-0.0 _
    c.from_residual-in_err-add_leaf_pairs.ensures.1
    (λ n damaged. comes_by_child (given c.args.cache.now) (given c.loop-child.cache) c.args.right.page node.0
    c.find_near.new.children.items c.as_slice-child-items.result.now c.loop-child.child-index c.child-item.result n
    node.1 node.2 c.as_slice-child-items.ensures.value (omega (arith, c.loop-child-test.true)) c.child-item.is
    (λ k. asks.map.given_stay h k) (
      [],
      damaged_read c.in_err-add_leaf_pairs.field-0.0 c.child-item.result.reference n
          (c.in_err-add_leaf_pairs.ensures.faults (asks.gate.honest.0 h)) damaged,
    ))

pub loop-child-preserved-then-below-eq0 : goal.loop-child-preserved-then-below-eq0
loop-child-preserved-then-below-eq0 g t c =
    let e = c.child-item.result in
    went_below c.loop-child.invariant e (omega (arith, c.loop-child-test.true)) c.child-item.is c.requires.above
    c.add_leaf_pairs.new.cache c.add_leaf_pairs.new.pairs.items c.in_ok-add_leaf_pairs.ensures.asks
    (λ h s u first at within encloses. leaf_gains g.row.D c.args.reach.limit (pages c.loop-child.cache)
    (content_of c.args.left.now.node.now) e.reference (c.args.right.level - 1) e.bounds s u
    c.loop-child.pairs.items c.add_leaf_pairs.new.pairs.items c.requires.leaf c.if-below-eq0.true first at within
    (λ k there leaf all. c.in_ok-add_leaf_pairs.ensures.pairs h k there leaf all))
    (λ h u at. omega (arith, c.in_ok-add_leaf_pairs.ensures.looks))

-- ---- a node above the leaves

pub returns-in_err-add_pairs_below-clause-asks : goal.returns-in_err-add_pairs_below-clause-asks
returns-in_err-add_pairs_below-clause-asks g t c =
    asks_and_refuses c.args.cache.now c.loop-child.cache c.add_pairs_below.new.cache
    c.in_err-add_pairs_below.field-0.0 c.from_residual-in_err-add_pairs_below.result
    c.from_residual-in_err-add_pairs_below.ensures.1 c.loop-child.invariant.asks
    c.in_err-add_pairs_below.ensures.asks

pub returns-in_err-add_pairs_below-clause-stands : goal.returns-in_err-add_pairs_below-clause-stands
returns-in_err-add_pairs_below-clause-stands g t c = λ h row at.
    let m : PageMap = pages c.args.cache.now in
    let test = near_test g.row.D c.args.reach.limit c.args.bounds.now in
    let has =
    near_has m c.args.right.page c.args.right.level test row c.find_near.new.children.items _ at
    c.as_slice-child-items.ensures.value (c.in_ok-find_near.ensures.children h _ at.node refl) in
    let b =
    stands_here c.loop-child.invariant c.child-item.result (omega (arith, c.loop-child-test.true)) c.child-item.is
    c.requires.above h (near_row test row) has in
    at_error c.from_residual-in_err-add_pairs_below.result c.in_err-add_pairs_below.field-0.0 IsOfDevice
    c.from_residual-in_err-add_pairs_below.ensures.1
    (c.in_err-add_pairs_below.ensures.stands (c.loop-child.invariant.asks.gate.honest.0 h) b.0 b.1)

pub returns-in_err-add_pairs_below-clause-damage : goal.returns-in_err-add_pairs_below-clause-damage
returns-in_err-add_pairs_below-clause-damage g t c = λ h.
    let asks = c.loop-child.invariant.asks in
    let node = c.in_ok-find_near.ensures.named h in
    at_error c.from_residual-in_err-add_pairs_below.result c.in_err-add_pairs_below.field-0.0 _
    c.from_residual-in_err-add_pairs_below.ensures.1
    (λ n damaged. comes_by_child (given c.args.cache.now) (given c.loop-child.cache) c.args.right.page node.0
    c.find_near.new.children.items c.as_slice-child-items.result.now c.loop-child.child-index c.child-item.result n
    node.1 node.2 c.as_slice-child-items.ensures.value (omega (arith, c.loop-child-test.true)) c.child-item.is
    (λ k. asks.map.given_stay h k)
    (c.in_err-add_pairs_below.ensures.damage (asks.gate.honest.0 h) n damaged))

pub loop-child-preserved : goal.loop-child-preserved
loop-child-preserved g t c =
    went_below c.loop-child.invariant c.child-item.result (omega (arith, c.loop-child-test.true)) c.child-item.is
    c.requires.above c.add_pairs_below.new.cache c.add_pairs_below.new.pairs.items
    c.in_ok-add_pairs_below.ensures.asks
    (λ h s u first at within encloses. c.in_ok-add_pairs_below.ensures.pairs h s u first at encloses)
    (λ h u at. c.in_ok-add_pairs_below.ensures.looks h u at)

-- ---- all of them

pub returns-clause-pairs : goal.returns-clause-pairs
returns-clause-pairs g t c = λ h s row first at encloses.
    let m : PageMap = pages c.args.cache.now in
    let test = near_test g.row.D c.args.reach.limit c.args.bounds.now in
    let left = content_of c.args.left.now.node.now in
    let has =
    near_has m c.args.right.page c.args.right.level test row c.find_near.new.children.items _ at
    c.as_slice-child-items.ensures.value (c.in_ok-find_near.ensures.children h _ at.node refl) in
    near_gains g.row.D c.args.reach.limit s c.args.bounds.now row c.args.pairs.now.items c.loop-child.pairs.items
    (objects_in_least g.row.D m left c.args.bounds.now s c.requires.leaf c.requires.bounds first) encloses
    (all_added c.loop-child.invariant (omega (arith, c.loop-child-test.false)) h s (near_row test row) first has
    (near_encloses g.row.D test row encloses))

pub returns-clause-looks : goal.returns-clause-looks
returns-clause-looks g t c = λ h row at.
    let m : PageMap = pages c.args.cache.now in
    let test = near_test g.row.D c.args.reach.limit c.args.bounds.now in
    let has =
    near_has m c.args.right.page c.args.right.level test row c.find_near.new.children.items _ at
    c.as_slice-child-items.ensures.value (c.in_ok-find_near.ensures.children h _ at.node refl) in
    omega (
      arith,
      all_looked c.loop-child.invariant h (near_row test row) has,
      near_nodes test row,
    )
