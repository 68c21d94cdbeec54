-- The node that is viewed is that of the page.
use Rattle.std.proofs.Common.{◌≡◌, ◌∙◌, ◌<◌, ap, arith, length, refl, subst, sym}
use Rattle.page_cache.specs.Cache.{pages}
use Rattle.box_math.specs.Bounds.{Bounds, join_of}
use Rattle.tree_node.specs.Nodes.{NodeContent, item_of}
use Rattle.tree_node.proofs.LeastBoxes.{least_box-more}
use Rattle.tree_node.specs.Boxes.{least_box}
use Rattle.node_bytes.specs.Layout.{pushed}
use Rattle.node_page.specs.Standing.{PageMap}
use Rattle.node_bytes.specs.Views.{content_in}
use Rattle.node_page.proofs.StandingLemmas.{page_of_node, same_content}
use Rattle.node_page.proofs.adding.least_with.Goals as goal
use Rattle.node_page.proofs.adding.least_with.Goals.{then-len-eq0-via-then-len-eq0}
use Rattle.node_page.proofs.adding.least_with.Goals.{then-len-eq0-via-else-len-eq0+then-len-most}

-- ---- the node has no entry, or the most

pub returns-then-len-eq0-clause-room : goal.returns-then-len-eq0-clause-room
returns-then-len-eq0-clause-room g c = λ h content there.
    let m : PageMap = pages c.args.cache.now in
    let live = page_of_node g.row.D (m c.args.page) content there in
    let same =
    ap (λ (x : NodeContent). length x.entries)
    (same_content g.row.D m c.args.page (content_in c.in_ok-node.node) content
    (c.in_ok-node.ensures.node h live) there) in (
      λ never. absurd (cc),
      λ both. elim c.then-len-eq0.branch [
        | then-len-eq0-via-then-len-eq0 w ↦ absurd
            (omega (arith, w.if-len-eq0, c.len.ensures.count, same, both.0))
        | then-len-eq0-via-else-len-eq0+then-len-most w ↦ absurd
            (omega (arith, w.if-len-most, w.len-else-len-eq0.ensures.count, same, both.1))
      ],
    )

pub returns-then-len-eq0-clause-level : goal.returns-then-len-eq0-clause-level
returns-then-len-eq0-clause-level g c = λ h content there.
    let m : PageMap = pages c.args.cache.now in
    let live = page_of_node g.row.D (m c.args.page) content there in
    sym (ap (λ (x : NodeContent). x.level)
    (same_content g.row.D m c.args.page (content_in c.in_ok-node.node) content
    (c.in_ok-node.ensures.node h live) there)) ∙ c.in_ok-node.ensures.level

-- ---- it has room

pub returns-clause-room : goal.returns-clause-room
returns-clause-room g c = λ h content there.
    let m : PageMap = pages c.args.cache.now in
    let live = page_of_node g.row.D (m c.args.page) content there in
    let same =
    ap (λ (x : NodeContent). length x.entries)
    (same_content g.row.D m c.args.page (content_in c.in_ok-node.node) content
    (c.in_ok-node.ensures.node h live) there) in (
      λ is. (
        omega (arith, c.if-len-eq0.false, c.len.ensures.count, same),
        omega (arith, c.if-len-most.false, c.len-else-len-eq0.ensures.count, same),
      ),
      λ both. refl,
    )

pub returns-clause-level : goal.returns-clause-level
returns-clause-level g c = λ h content there.
    let m : PageMap = pages c.args.cache.now in
    let live = page_of_node g.row.D (m c.args.page) content there in
    sym (ap (λ (x : NodeContent). x.level)
    (same_content g.row.D m c.args.page (content_in c.in_ok-node.node) content
    (c.in_ok-node.ensures.node h live) there)) ∙ c.in_ok-node.ensures.level

pub returns-clause-least : goal.returns-clause-least
returns-clause-least g c = λ h content there.
    let D = g.row.D in
    let m : PageMap = pages c.args.cache.now in
    let item = item_of c.args.entry.now in
    let view = content_in c.in_ok-node.node in
    let live = page_of_node D (m c.args.page) content there in
    let some : 0 < length view.entries = omega (arith, c.if-len-eq0.false, c.len.ensures.count) in
    let bounds = c.join.ensures.value
    ∙ ap (λ (b : Bounds). join_of D b c.args.entry.now.bounds) c.least.ensures
    ∙ sym (least_box-more D view.entries item some) in
    subst (λ (x : NodeContent). c.join.result ≡ least_box D (pushed x item).entries)
    (same_content D m c.args.page view content (c.in_ok-node.ensures.node h live) there) bounds

pub returns-then-len-eq0-clause-given_node : goal.returns-then-len-eq0-clause-given_node
returns-then-len-eq0-clause-given_node g c = λ h.
    (content_in c.in_ok-node.node, c.in_ok-node.ensures.given_node h, c.in_ok-node.ensures.level)

pub returns-clause-given_node : goal.returns-clause-given_node
returns-clause-given_node g c = λ h.
    (content_in c.in_ok-node.node, c.in_ok-node.ensures.given_node h, c.in_ok-node.ensures.level)
