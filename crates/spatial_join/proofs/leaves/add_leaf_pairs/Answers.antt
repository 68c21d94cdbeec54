-- The goals of `add_leaf_pairs` that are proved by hand.
use Rattle.std.proofs.Common.{All, List, ap, rules, subst, sym}
use Rattle.box_math.specs.Bounds.{Within}
use Rattle.page_cache.specs.Cache.{pages}
use Rattle.tree_node.specs.Nodes.{Item, items_of}
use Rattle.node_page.specs.Standing.{PageMap}
use Rattle.node_bytes.specs.Views.{content_in}
use Rattle.node_page.proofs.StandingLemmas.{page_of_node, same_content}
use Rattle.spatial_join.specs.Pairs.{GainsItems}
use Rattle.spatial_join.proofs.DescentLemmas.{asks_and_runs_out}
use Rattle.spatial_join.proofs.leaves.add_leaf_pairs.Goals as goal

pub returns-in_err-push_near-clause-asks : goal.returns-in_err-push_near-clause-asks
returns-in_err-push_near-clause-asks g c =
    asks_and_runs_out c.args.cache.now c.view_node.follows.lender-at-none c.in_err-push_near.field-0.0
    c.from_residual-in_err-push_near.result c.from_residual-in_err-push_near.ensures.1
    c.in_err-push_near.ensures.memory (search rules)

pub returns-clause-pairs : goal.returns-clause-pairs
returns-clause-pairs g c = λ h content there level all.
    let m : PageMap = pages c.args.cache.now in
    let live = page_of_node g.row.D (m c.args.page) content there in
    let same =
    ap (λ x. x.entries)
    (same_content g.row.D m c.args.page (content_in c.in_ok-right.right) content
    (c.in_ok-right.ensures.node h live) there) in
    subst (λ (others : List Item). GainsItems g.row.D c.args.reach.limit
    (items_of c.args.left.now.node.now.entries.items) others c.args.pairs.now.items
    c.push_near.new.pairs.items) same
    (c.in_ok-push_near.ensures.pairs
    (subst (All (λ (item : Item). Within g.row.D item.bounds c.args.bounds.now)) (sym same) all))
