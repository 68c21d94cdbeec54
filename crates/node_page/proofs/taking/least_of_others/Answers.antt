-- The node that is viewed is that of the page.
use Rattle.std.proofs.Common.{ap, arith, length, refl}
use Rattle.page_cache.specs.Cache.{pages}
use Rattle.tree_node.specs.Nodes.{NodeContent}
use Rattle.node_page.specs.Standing.{PageMap}
use Rattle.node_bytes.specs.Views.{content_in}
use Rattle.node_page.proofs.StandingLemmas.{page_of_node, same_content}
use Rattle.node_page.proofs.taking.least_of_others.Goals as goal

pub returns-clause-room : goal.returns-clause-room
returns-clause-room g c = λ h content there.
    let m : PageMap = pages c.args.cache.now in
    let live = page_of_node g.row.D (m c.args.page) content there in
    let same =
    ap (λ (x : NodeContent). length x.entries)
    (same_content g.row.D m c.args.page (content_in c.in_ok-node.node) content
    (c.in_ok-node.ensures.node h live) there) in (
      λ is. (
        omega (arith, c.if-place-len.false, c.len.ensures.count, same),
        omega (arith, c.if-len-fewest.false, c.len-else-place-len.ensures.count, same),
      ),
      λ both. refl,
    )
