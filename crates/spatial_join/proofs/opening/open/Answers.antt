-- The goals of `open` that are proved by hand.
use Rattle.std.proofs.Common.{◌∙◌, Some, ap, refl}
use Rattle.std.proofs.lemmas.Result.{IfOk-weaker}
use Rattle.page_cache.specs.Cache.{given, pages}
use Rattle.tree_node.specs.Nodes.{content_of}
use Rattle.tree_node.specs.Trees.{row_items}
use Rattle.node_page.specs.Standing.{PageMap}
use Rattle.node_page.proofs.DamageLemmas.{comes_on}
use Rattle.node_page.proofs.LeafLemmas.{entries_there}
use Rattle.node_page.proofs.StandingLemmas.{page_of_node}
use Rattle.spatial_join.proofs.DamageLemmas.{below_lone}
use Rattle.spatial_join.proofs.OpeningLemmas.{has_pages, opened_here}
use Rattle.spatial_join.proofs.opening.open.Goals as goal

pub returns-then-other-node-clause-entries : goal.returns-then-other-node-clause-entries
returns-then-other-node-clause-entries g c = λ h row at.
    let m : PageMap = pages c.args.cache.now in
    IfOk-weaker c.read_node.result _ _
    (λ node there. ap row_items
    (opened_here c.args.node.level c.args.other c.args.bounds.now c.args.node.page row
    c.if-other-node.true)
    ∙ entries_there g.row.D m c.args.node.page c.args.node.level row (content_of node) at there)
    (c.read_node.ensures.node h (page_of_node g.row.D (m c.args.node.page) _ at.node))

pub returns-then-other-node-clause-references : goal.returns-then-other-node-clause-references
returns-then-other-node-clause-references g c =
    IfOk-weaker c.read_node.result _ _ (λ node spellable. has_pages (content_of node) spellable)
    c.read_node.ensures.spellable

pub returns-then-other-node-clause-stands : goal.returns-then-other-node-clause-stands
returns-then-other-node-clause-stands g c =
    λ h row at. c.read_node.ensures.there h (record { level = c.args.node.level; entries = row_items row })
    at.node refl

pub returns-then-other-node-clause-walks : goal.returns-then-other-node-clause-walks
returns-then-other-node-clause-walks g c = λ h.
    IfOk-weaker c.read_node.result _ _
    (λ node there n below. comes_on g.row.D (given c.args.cache.now) c.args.node.page (content_of node) n
    there below)
    (c.read_node.ensures.given_node h)

pub returns-clause-walks : goal.returns-clause-walks
returns-clause-walks g c = λ h n below.
    below_lone g.row.D (given c.args.cache.now) (content_of c.above.result) (Some c.args.bounds.now)
    c.args.node.page n c.above.ensures.entries below
