-- The goals of `join_rows` that are proved by hand.
use Rattle.std.proofs.Common.{◌≡◌, ◌∙◌, ◌+◌, ◌-◌, arith, length, min, subst}
use Rattle.std.proofs.lemmas.List.{length-drop}
use Rattle.page_file.specs.Fault.{IsOfDevice}
use Rattle.page_cache.specs.Cache.{given}
use Rattle.page_cache.specs.Calls.{asks_and_refuses}
use Rattle.tree_node.specs.Nodes.{items_of}
use Rattle.node_page.specs.Checked.{pairs_of as objects_of}
use Rattle.node_page.proofs.DamageLemmas.{comes_so}
use Rattle.node_page.proofs.NodeLemmas.{at_error}
use Rattle.spatial_join.specs.Rows.{IsRowsAnswer}
use Rattle.spatial_join.proofs.RowsLemmas.{Gone, group_gone, group_is, objects_length, others_are, rows_answered}
use Rattle.spatial_join.proofs.RowsLemmas.{slice_objects, still_there}
use Rattle.spatial_join.proofs.rows.join_rows.Goals as goal

pub returns-in_err-add_pairs_of_group-clause-asks : goal.returns-in_err-add_pairs_of_group-clause-asks
returns-in_err-add_pairs_of_group-clause-asks g c =
    asks_and_refuses c.args.cache.now c.group.cache c.add_pairs_of_group.new.cache
    c.in_err-add_pairs_of_group.field-0.0 c.from_residual.result c.from_residual.ensures.1
    c.group.invariant.gone.asks c.in_err-add_pairs_of_group.ensures.asks

pub returns-in_err-add_pairs_of_group-clause-stands : goal.returns-in_err-add_pairs_of_group-clause-stands
returns-in_err-add_pairs_of_group-clause-stands g c = λ h t most is.
    at_error c.from_residual.result c.in_err-add_pairs_of_group.field-0.0 IsOfDevice c.from_residual.ensures.1
    (c.in_err-add_pairs_of_group.ensures.stands (c.group.invariant.gone.asks.gate.honest.0 h) t.row
    (still_there c.group.invariant.gone h t most is))

pub returns-in_err-add_pairs_of_group-clause-damage : goal.returns-in_err-add_pairs_of_group-clause-damage
returns-in_err-add_pairs_of_group-clause-damage g c = λ h.
    let asks = c.group.invariant.gone.asks in
    at_error c.from_residual.result c.in_err-add_pairs_of_group.field-0.0 _ c.from_residual.ensures.1
    (λ n damaged. comes_so g.row.D (given c.args.cache.now) (given c.group.cache) c.args.root.page n
    (λ k. asks.map.given_stay h k)
    (c.in_err-add_pairs_of_group.ensures.damage (asks.gate.honest.0 h) n damaged))

pub group-preserved : goal.group-preserved
group-preserved g c =
    let entries = c.args.rows.now in
    let rows = objects_of (items_of entries) in
    let from = c.group.from in
    let to = c.min-to.result in
    let many = objects_length entries in
    let is : to ≡ min (length rows) (from + 64) = omega (arith, c.min-to.ensures, many) in
    record {
      gone = subst
          (λ left. Gone g.row.D c.of-reach.result.limit c.args.cache.now c.add_pairs_of_group.new.cache
          c.args.root rows left c.add_pairs_of_group.new.pairs.items)
          (others_are rows from to is)
          (group_gone c.group.invariant.gone c.add_pairs_of_group.new.cache c.add_pairs_of_group.new.pairs.items _
          (omega (arith, c.group-test.true, length-drop from rows, many))
          (slice_objects entries (to - from) from ∙ group_is rows from to (omega (arith, c.group-test.true, many)) is)
          c.in_ok-add_pairs_of_group.ensures.asks
          (λ h row at encloses. c.in_ok-add_pairs_of_group.ensures.pairs h row at encloses)
          (λ h row at. c.in_ok-add_pairs_of_group.ensures.looks h row at));
      within = omega (arith, c.min-to.ensures);
    }

pub returns-clause-pairs : goal.returns-clause-pairs
returns-clause-pairs g c = λ h t most is.
    let rows = objects_of (items_of c.args.rows.now) in
    subst (λ limit. IsRowsAnswer g.row.D limit rows t c.sort_unstable.new.self.items) c.of-reach.ensures
    (rows_answered c.group.invariant.gone
    (omega (arith, c.group-test.false, length-drop c.group.from rows, objects_length c.args.rows.now))
    c.sort_unstable.new.self.items c.sort_unstable.ensures.permutation c.sort_unstable.ensures.sorted h t most is)
