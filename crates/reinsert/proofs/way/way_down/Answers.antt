-- The page that is viewed is that of the node.
use Rattle.std.proofs.Common.{◌≡◌, ◌∙◌, ◌<◌, get_or, length, ap, refl, subst, arith}
use Rattle.std.proofs.lemmas.List.{get_or_default}
use Rattle.page_cache.specs.Cache.{pages}
use Rattle.tree_node.specs.Boxes.{no_item}
use Rattle.tree_node.specs.Nodes.{Item, NodeContent, item_of}
use Rattle.node_page.specs.Standing.{PageMap}
use Rattle.node_bytes.specs.Views.{content_in}
use Rattle.node_page.proofs.DamageLemmas.{entry_names}
use Rattle.node_page.proofs.StandingLemmas.{page_of_node, same_content}
use Rattle.choose_subtree.specs.Choice.{IsChosenChild}
use Rattle.reinsert.specs.Placed.{IsWay}
use Rattle.reinsert.specs.declared.way.Way.{Way}
use Rattle.reinsert.proofs.way.way_down.Goals as goal

pub returns-then-len-entries-clause-faults : goal.returns-then-len-entries-clause-faults
returns-then-len-entries-clause-faults g c = λ h content there level few.
    let m : PageMap = pages c.args.cache.now in
    let live = page_of_node g.row.D (m c.args.at.page) content there in
    let same =
    same_content g.row.D m c.args.at.page (content_in c.in_ok-node.node) content
    (c.in_ok-node.ensures.node h live) there in
    absurd (omega (
      arith,
      ap (λ (x : NodeContent). length x.entries) same,
      few,
      c.if-len-entries.true,
      c.entries.ensures,
      c.len.ensures.count,
    ))

pub returns-clause-way : goal.returns-clause-way
returns-clause-way g c = λ h content there level.
    let D = g.row.D in
    let m : PageMap = pages c.args.cache.now in
    let view = content_in c.in_ok-node.node in
    let live = page_of_node D (m c.args.at.page) content there in
    let same = same_content D m c.args.at.page view content (c.in_ok-node.ensures.node h live) there in
    let place = c.choose-place.result in
    let child = c.entry-child.result in
    let item : item_of child ≡ get_or view.entries place no_item = c.entry-child.ensures
    ∙ get_or_default view.entries place (item_of child) no_item c.choose-place.ensures.within in
    let way : Way D =
    record { place = place; page = child.reference; bounds = child.bounds; least = c.least.result } in
    subst (λ items. IsWay D c.args.fanout.most c.args.at.level items c.args.bounds.now way)
    (ap (λ (x : NodeContent). x.entries) same) (record {
      few = omega (arith, c.if-len-entries.false, c.len.ensures.count, c.entries.ensures);
      chosen =
          subst (λ l. IsChosenChild D l view.entries c.args.bounds.now place) c.in_ok-node.ensures.level
          c.choose-place.ensures.chosen;
      page = ap (λ (x : Item). x.reference) item;
      bounds = ap (λ (x : Item). x.bounds) item;
      least = c.least.ensures;
    })

pub returns-clause-named : goal.returns-clause-named
returns-clause-named g c = λ h.
    let view = content_in c.in_ok-node.node in
    let above : 0 < view.level = omega (arith, c.requires.above, c.in_ok-node.ensures.level) in (
      view,
      c.in_ok-node.ensures.given_node h,
      entry_names view view.entries c.choose-place.result (item_of c.entry-child.result) refl above
          c.choose-place.ensures.within c.entry-child.ensures,
    )
