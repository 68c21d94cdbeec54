-- The goals of `look_at_objects` that are proved by hand.
use Rattle.std.proofs.Common.{◌≡◌, ◌∙◌, ℕ, List, map, ap}
use Rattle.box_math.specs.Bounds.{Bounds}
use Rattle.box_math.specs.Measures.{point_dist2_of}
use Rattle.page_cache.specs.Cache.{pages}
use Rattle.tree_node.specs.Nodes.{NodeContent, Item}
use Rattle.node_page.specs.Standing.{PageMap}
use Rattle.node_bytes.specs.Views.{content_in}
use Rattle.node_page.proofs.NodeLemmas.{on_ok}
use Rattle.node_page.proofs.StandingLemmas.{page_of_node, same_content}
use Rattle.nearest.specs.Candidates.{offered, row_at}
use Rattle.nearest.proofs.search.look_at_objects.Goals as goal

pub returns-clause-best : goal.returns-clause-best
returns-clause-best g c = λ h content there level.
    let m : PageMap = pages c.args.cache.now in
    let far : Bounds → ℕ = λ b. point_dist2_of g.row.D b c.args.point.now in
    let live = page_of_node g.row.D (m c.args.page) content there in
    let read = c.in_ok-view.ensures.node h live in
    let same =
    ap (λ (x : NodeContent). x.entries)
    (same_content g.row.D m c.args.page (content_in c.in_ok-view.view) content read there) in
    on_ok c.offer_objects.result
    (λ (is : c.offer_objects.new.best ≡ offered c.args.k c.args.best.now
    (map (row_at far) (content_in c.in_ok-view.view).entries)).
    is ∙ ap (λ (items : List Item). offered c.args.k c.args.best.now (map (row_at far) items)) same)
    c.offer_objects.ensures.offered
