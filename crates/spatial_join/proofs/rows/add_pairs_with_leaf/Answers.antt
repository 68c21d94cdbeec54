-- The goals of `add_pairs_with_leaf` that are proved by hand.
use Rattle.std.proofs.Common.{[], arith, refl, subst, ⊎_elim}
use Rattle.page_file.specs.Fault.{IsOfDevice}
use Rattle.page_cache.specs.Cache.{given, pages}
use Rattle.page_cache.specs.Calls.{asks_in_turn, fault_in}
use Rattle.tree_node.specs.Nodes.{content_of}
use Rattle.node_page.specs.Checked.{ComesBelow}
use Rattle.node_page.specs.Standing.{PageMap, RowStands}
use Rattle.node_page.proofs.DamageLemmas.{damaged_read}
use Rattle.node_page.proofs.NodeLemmas.{at_error, if_error, on_ok}
use Rattle.node_page.proofs.StandingLemmas.{page_of_node}
use Rattle.spatial_join.proofs.DescentLemmas.{still_has}
use Rattle.spatial_join.proofs.RowsLemmas.{leaf_encloses, leaf_has, leaf_read, no_pairs_below}
use Rattle.spatial_join.proofs.rows.add_pairs_with_leaf.Goals as goal

pub returns-in_err-leaf-clause-stands : goal.returns-in_err-leaf-clause-stands
returns-in_err-leaf-clause-stands g c = λ h t at.
    at_error c.from_residual.result c.in_err-leaf.field-0.0 IsOfDevice c.from_residual.ensures.1
    (c.in_err-leaf.ensures.there h _ at.node refl)

pub returns-in_err-leaf-clause-damage : goal.returns-in_err-leaf-clause-damage
returns-in_err-leaf-clause-damage g c = λ h.
    at_error c.from_residual.result c.in_err-leaf.field-0.0 _ c.from_residual.ensures.1
    (λ n damaged. (
      [],
      damaged_read c.in_err-leaf.field-0.0 c.args.page n (c.in_err-leaf.ensures.faults h) damaged,
    ))

pub returns-clause-asks : goal.returns-clause-asks
returns-clause-asks g c =
    asks_in_turn c.args.cache.now c.read_node.new.cache c.add_pairs.new.cache (fault_in c.add_pairs.result)
    c.in_ok-leaf.ensures.asks c.add_pairs.ensures.asks

pub returns-clause-pairs : goal.returns-clause-pairs
returns-clause-pairs g c = λ h s t first at.
    let m : PageMap = pages c.args.cache.now in
    let left = content_of c.args.left.now in
    let asks = c.in_ok-leaf.ensures.asks in
    let read = c.in_ok-leaf.ensures.node h (page_of_node g.row.D (m c.args.page) _ at.node) in
    let has = still_has c.args.cache.now c.read_node.new.cache left s asks h first in
    let right =
    leaf_read c.args.cache.now c.read_node.new.cache c.args.page (content_of c.in_ok-leaf.leaf) t asks h
    c.in_ok-leaf.ensures.level at read in
    c.add_pairs.ensures.pairs (asks.gate.honest.0 h) s t has right
    (leaf_encloses g.row.D m s (subst (λ l. RowStands g.row.D m l s) c.requires.leaf first.below))
    (leaf_encloses g.row.D m t at.below)

pub returns-clause-looks : goal.returns-clause-looks
returns-clause-looks g c = λ h t at.
    let m : PageMap = pages c.args.cache.now in
    let left = content_of c.args.left.now in
    let asks = c.in_ok-leaf.ensures.asks in
    let read = c.in_ok-leaf.ensures.node h (page_of_node g.row.D (m c.args.page) _ at.node) in
    let right =
    leaf_read c.args.cache.now c.read_node.new.cache c.args.page (content_of c.in_ok-leaf.leaf) t asks h
    c.in_ok-leaf.ensures.level at read in
    let has = leaf_has g.row.D (pages c.read_node.new.cache) left c.requires.leaf in
    let none =
    no_pairs_below g.row.D c.args.reach.limit (pages c.read_node.new.cache) left _ t c.requires.leaf has in
    on_ok c.add_pairs.result (λ looked. omega (arith, looked, c.in_ok-leaf.ensures.looks, none))
    (c.add_pairs.ensures.looks (asks.gate.honest.0 h) _ t has right)

pub returns-clause-stands : goal.returns-clause-stands
returns-clause-stands g c = λ h t at.
    let m : PageMap = pages c.args.cache.now in
    let left = content_of c.args.left.now in
    let asks = c.in_ok-leaf.ensures.asks in
    let read = c.in_ok-leaf.ensures.node h (page_of_node g.row.D (m c.args.page) _ at.node) in
    let right =
    leaf_read c.args.cache.now c.read_node.new.cache c.args.page (content_of c.in_ok-leaf.leaf) t asks h
    c.in_ok-leaf.ensures.level at read in
    c.add_pairs.ensures.stands (asks.gate.honest.0 h) _ t
    (leaf_has g.row.D (pages c.read_node.new.cache) left c.requires.leaf) right

pub returns-clause-damage : goal.returns-clause-damage
returns-clause-damage g c = λ h.
    let now = given c.read_node.new.cache in
    if_error c.add_pairs.result _ _
    (λ f either n damaged. ⊎_elim
    (λ (walk : ComesBelow g.row.D now (content_of c.args.left.now) n). absurd
    (omega (arith, walk.1.0, c.requires.leaf)))
    (λ (walk : ComesBelow g.row.D now (content_of c.in_ok-leaf.leaf) n). absurd
    (omega (arith, walk.1.0, c.in_ok-leaf.ensures.level)))
    (either n damaged))
    (c.add_pairs.ensures.damage (c.in_ok-leaf.ensures.asks.gate.honest.0 h))
