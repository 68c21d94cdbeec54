-- The goals of `add_pairs_of_group` that are proved by hand.
use Rattle.std.proofs.Common.{◌∙◌, ap, arith, subst}
use Rattle.box_math.specs.Bounds.{Bounds}
use Rattle.box_math.specs.Measures.{near_test}
use Rattle.page_cache.specs.Cache.{pages}
use Rattle.tree_node.specs.Boxes.{least_box}
use Rattle.tree_node.specs.Nodes.{content_of, items_of}
use Rattle.tree_node.specs.Searches.{reached}
use Rattle.node_page.proofs.NodeLemmas.{on_ok}
use Rattle.node_page.specs.Standing.{PageMap, StandsAt}
use Rattle.spatial_join.proofs.RowsLemmas.{group_gains, leaf_has}
use Rattle.spatial_join.proofs.rows.add_pairs_of_group.Goals as goal

pub returns-then-root-eq0-clause-pairs : goal.returns-then-root-eq0-clause-pairs
returns-then-root-eq0-clause-pairs g c = λ h row at encloses.
    let m : PageMap = pages c.args.cache.now in
    let group = content_of c.leaf_of-group.result in
    on_ok c.add_pairs_with_leaf.result
    (λ gains. group_gains g.row.D c.args.reach.limit group.entries (items_of c.args.rows.now) row
    c.args.pairs.now.items c.add_pairs_with_leaf.new.pairs.items c.leaf_of-group.ensures.entries gains)
    (c.add_pairs_with_leaf.ensures.pairs h _ row (leaf_has g.row.D m group c.leaf_of-group.ensures.level)
    (subst (λ l. StandsAt g.row.D m c.args.root.page l row) c.if-root-eq0.true at))

pub returns-then-root-eq0-clause-looks : goal.returns-then-root-eq0-clause-looks
returns-then-root-eq0-clause-looks g c = λ h row at.
    let m : PageMap = pages c.args.cache.now in
    on_ok c.add_pairs_with_leaf.result (λ looked. omega (arith, looked))
    (c.add_pairs_with_leaf.ensures.looks h row
    (subst (λ l. StandsAt g.row.D m c.args.root.page l row) c.if-root-eq0.true at))

pub returns-then-root-eq0-clause-stands : goal.returns-then-root-eq0-clause-stands
returns-then-root-eq0-clause-stands g c = λ h row at.
    let m : PageMap = pages c.args.cache.now in
    c.add_pairs_with_leaf.ensures.stands h row
    (subst (λ l. StandsAt g.row.D m c.args.root.page l row) c.if-root-eq0.true at)

pub returns-clause-pairs : goal.returns-clause-pairs
returns-clause-pairs g c = λ h row at encloses.
    let m : PageMap = pages c.args.cache.now in
    let group = content_of c.columns_of-columns.result.node.now in
    let same = c.columns_of-columns.ensures in
    on_ok c.add_pairs_below.result
    (λ gains. group_gains g.row.D c.args.reach.limit group.entries (items_of c.args.rows.now) row
    c.args.pairs.now.items c.add_pairs_below.new.pairs.items
    (ap (λ n. items_of n.entries.items) same ∙ c.leaf_of-group.ensures.entries) gains)
    (c.add_pairs_below.ensures.pairs h _ row
    (leaf_has g.row.D m group (ap (λ n. n.level) same ∙ c.leaf_of-group.ensures.level)) at encloses)

pub returns-clause-looks : goal.returns-clause-looks
returns-clause-looks g c = λ h row at.
    let is = c.least-bounds.ensures ∙ ap (λ es. least_box g.row.D (items_of es)) c.as_slice.ensures.value
    ∙ ap (least_box g.row.D) c.leaf_of-group.ensures.entries in
    on_ok c.add_pairs_below.result
    (λ looked. omega (
      arith,
      looked,
      ap (λ (b : Bounds). reached (near_test g.row.D c.args.reach.limit b) row) is,
    ))
    (c.add_pairs_below.ensures.looks h row at)
