-- The goals of `only_child` that are proved by hand.
use Rattle.std.proofs.Common.{◌≡◌, ◌∙◌, length, get_or, ap, subst, arith}
use Rattle.std.proofs.lemmas.List.{get_or_default}
use Rattle.page_cache.specs.Cache.{pages}
use Rattle.tree_node.specs.Nodes.{Item, NodeContent, item_of}
use Rattle.node_page.specs.Standing.{PageMap}
use Rattle.node_bytes.specs.Views.{content_in}
use Rattle.node_page.proofs.StandingLemmas.{page_of_node, same_content}
use Rattle.condense.proofs.lower.only_child.Goals as goal

pub returns-clause-child : goal.returns-clause-child
returns-clause-child g c = λ h content there.
    let m : PageMap = pages c.args.cache.now in
    let live = page_of_node g.row.D (m c.args.at.page) content there in
    let view : NodeContent = content_in c.in_ok-node.node in
    let one : length view.entries ≡ 1 = omega (arith, c.len.ensures.count, c.if-len-ne1.false) in
    let same = same_content g.row.D m c.args.at.page view content (c.in_ok-node.ensures.node h live) there in
    subst (λ (x : NodeContent). (length x.entries ≡ 1)
    × ((d : Item) → c.entry.result.reference ≡ (get_or x.entries 0 d).reference)) same (
      one,
      λ d. ap (λ (x : Item). x.reference)
          (c.entry.ensures ∙ get_or_default view.entries 0 (item_of c.entry.result) d (omega (arith, one))),
    )

pub returns-then-len-ne1-clause-given_node : goal.returns-then-len-ne1-clause-given_node
returns-then-len-ne1-clause-given_node g c = λ h.
    (content_in c.in_ok-node.node, c.in_ok-node.ensures.given_node h)

pub returns-clause-given_node : goal.returns-clause-given_node
returns-clause-given_node g c = λ h. (content_in c.in_ok-node.node, c.in_ok-node.ensures.given_node h)
