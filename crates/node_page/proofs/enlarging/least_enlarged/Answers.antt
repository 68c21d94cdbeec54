-- The node that is viewed is that of the page.
use Rattle.std.proofs.Common.{◌≡◌, ◌∙◌, ◌<◌, ap, arith, length, refl, subst, sym}
use Rattle.box_math.specs.Bounds.{Bounds, Within, join_of}
use Rattle.page_cache.specs.Cache.{pages}
use Rattle.tree_node.specs.Boxes.{box_at, least_box}
use Rattle.tree_node.specs.Nodes.{NodeContent, item_of}
use Rattle.node_bytes.specs.Enlarged.{CanEnlarge, set_box}
use Rattle.node_page.specs.Standing.{PageMap}
use Rattle.node_bytes.specs.Views.{content_in}
use Rattle.node_bytes.proofs.BoxedLemmas.{box_read, least_box-set_box}
use Rattle.node_page.proofs.StandingLemmas.{page_of_node, same_content}
use Rattle.node_page.proofs.enlarging.least_enlarged.Goals as goal

-- ---- the entry's box is not held

pub returns-then-not-encloses-clause-room : goal.returns-then-not-encloses-clause-room
returns-then-not-encloses-clause-room g c = λ h content there.
    let m : PageMap = pages c.args.cache.now in
    let b = c.args.bounds.now in
    let view = content_in c.in_ok-node.node in
    let live = page_of_node g.row.D (m c.args.page) content there in
    let same = same_content g.row.D m c.args.page view content (c.in_ok-node.ensures.node h live) there in
    let within : c.args.place < length view.entries = omega (arith, c.if-place-len.false, c.len.ensures.count)
    in (
      λ never. absurd (cc),
      λ can.
          let grows : Within g.row.D (box_at view.entries c.args.place) b =
          subst (λ (x : NodeContent). Within g.row.D (box_at x.entries c.args.place) b) (sym same) can.grows in
          let held =
          c.encloses.ensures.encloses.1
          (subst (λ (a : Bounds). Within g.row.D a b)
          (box_read view.entries c.args.place (item_of c.entry.result) within c.entry.ensures) grows) in
          let is = c.if-not-encloses.true in absurd (cc),
    )

pub returns-then-not-encloses-clause-given_node : goal.returns-then-not-encloses-clause-given_node
returns-then-not-encloses-clause-given_node g c = λ h.
    (content_in c.in_ok-node.node, c.in_ok-node.ensures.given_node h, c.in_ok-node.ensures.level)

-- ---- it is

-- the box that was read lies within the greater one
grows_there : (g : _) (c : goal.After-join g)
    → Within g.row.D (box_at (content_in c.in_ok-node.node).entries c.args.place) c.args.bounds.now
grows_there g c =
    let view = content_in c.in_ok-node.node in
    let within : c.args.place < length view.entries = omega (arith, c.if-place-len.false, c.len.ensures.count)
    in
    subst (λ (a : Bounds). Within g.row.D a c.args.bounds.now)
    (sym (box_read view.entries c.args.place (item_of c.entry.result) within c.entry.ensures))
    (c.encloses.ensures.encloses.0 c.if-not-encloses.false)

pub returns-clause-room : goal.returns-clause-room
returns-clause-room g c = λ h content there.
    let m : PageMap = pages c.args.cache.now in
    let view = content_in c.in_ok-node.node in
    let live = page_of_node g.row.D (m c.args.page) content there in
    let same = same_content g.row.D m c.args.page view content (c.in_ok-node.ensures.node h live) there in
    let can : CanEnlarge g.row.D c.args.most c.args.place c.args.bounds.now view = record {
      few = omega (arith, c.if-len-most.false, c.len-else-place-len.ensures.count);
      there = omega (arith, c.if-place-len.false, c.len.ensures.count);
      grows = grows_there g c;
    } in (
      λ is. subst (λ (x : NodeContent). CanEnlarge g.row.D c.args.most c.args.place c.args.bounds.now x) same can,
      λ both. refl,
    )

pub returns-clause-least : goal.returns-clause-least
returns-clause-least g c = λ h content there.
    let D = g.row.D in
    let m : PageMap = pages c.args.cache.now in
    let b = c.args.bounds.now in
    let view = content_in c.in_ok-node.node in
    let live = page_of_node D (m c.args.page) content there in
    let within : c.args.place < length view.entries = omega (arith, c.if-place-len.false, c.len.ensures.count)
    in
    subst (λ (x : NodeContent). c.join.result ≡ least_box D (set_box x.entries c.args.place b))
    (same_content D m c.args.page view content (c.in_ok-node.ensures.node h live) there)
    (c.join.ensures.value ∙ ap (λ (a : Bounds). join_of D a b) c.least.ensures
    ∙ sym (least_box-set_box D view.entries c.args.place b within c.low.ensures.is_box (grows_there g c)))
