-- The goals of `find_near` that are proved by hand.
use Rattle.std.proofs.Common.{◌∙◌, ◌<◌, ◌^◌, [], ap, arith}
use Rattle.std.specs.List.{filter}
use Rattle.std.proofs.lemmas.List.{map_push}
use Rattle.box_math.specs.Measures.{near_test}
use Rattle.page_cache.specs.Cache.{pages}
use Rattle.tree_node.specs.Nodes.{item_of, items_of}
use Rattle.node_bytes.specs.Views.{content_in}
use Rattle.node_page.specs.Checked.{Names}
use Rattle.node_page.specs.Standing.{PageMap}
use Rattle.node_page.proofs.StandingLemmas.{page_of_node, same_content}
use Rattle.spatial_join.proofs.LeafJoin.{item_read}
use Rattle.spatial_join.proofs.LeafPairs.{all_written, next_pushed}
use Rattle.spatial_join.proofs.OpeningLemmas.{has_pages}
use Rattle.spatial_join.proofs.RowsLemmas.{all_named, all_near}
use Rattle.spatial_join.proofs.rows.find_near.Goals as goal

pub entry-preserved : goal.entry-preserved
entry-preserved g c =
    let items = (content_in c.in_ok-view.view).entries in
    let set = c.in-Some.ensures.set.2 in
    let within = c.mask_in-mask.ensures.within c.in-Some.place set in
    let x = item_of c.entry-in-Some.result in
    let named = item_read items c.in-Some.place x within c.entry-in-Some.ensures in
    let pushed = ap items_of c.push.ensures.items
    ∙ map_push item_of c.entry.children.items c.entry-in-Some.result in (
      next_pushed (λ item. item) (near_test g.row.D c.args.reach.limit c.args.bounds.now) items []
          (items_of c.entry.children.items) c.mask_in-mask.result c.mask_in-mask.ensures c.entry.from
          c.entry.invariant.0 c.in-Some.place c.in-Some.ensures.set.0 set c.in-Some.ensures.first x named
          (items_of c.push.new.self.items) pushed,
      omega (arith, within),
      omega (arith, c.entry.invariant.2, c.in-Some.ensures.set.0, c.push.ensures.len),
    )

pub returns-clause-children : goal.returns-clause-children
returns-clause-children g c = λ h content there level.
    let m : PageMap = pages c.args.cache.now in
    let items = (content_in c.in_ok-view.view).entries in
    let test = near_test g.row.D c.args.reach.limit c.args.bounds.now in
    let live = page_of_node g.row.D (m c.args.node.page) content there in
    let same =
    ap (λ x. x.entries)
    (same_content g.row.D m c.args.node.page (content_in c.in_ok-view.view) content
    (c.in_ok-view.ensures.node h live) there) in
    all_written test items (items_of c.entry.children.items) c.mask_in-mask.result c.mask_in-mask.ensures
    c.entry.from c.entry.invariant.0 c.entry.invariant.1 c.in_default.ensures.none
    ∙ ap (filter (λ item. test item.bounds)) same

pub returns-clause-named : goal.returns-clause-named
returns-clause-named g c = λ h.
    let content = content_in c.in_ok-view.view in
    let test = near_test g.row.D c.args.reach.limit c.args.bounds.now in
    let found =
    all_written test content.entries (items_of c.entry.children.items) c.mask_in-mask.result
    c.mask_in-mask.ensures c.entry.from c.entry.invariant.0 c.entry.invariant.1 c.in_default.ensures.none in (
      content,
      c.in_ok-view.ensures.given_node h,
      all_near (λ item. Names content item.reference) test content.entries (items_of c.entry.children.items) found
          (all_named content (omega (arith, c.requires.above, c.in_ok-view.ensures.level))),
    )

pub returns-clause-fit : goal.returns-clause-fit
returns-clause-fit g c =
    let content = content_in c.in_ok-view.view in
    let test = near_test g.row.D c.args.reach.limit c.args.bounds.now in
    let found =
    all_written test content.entries (items_of c.entry.children.items) c.mask_in-mask.result
    c.mask_in-mask.ensures c.entry.from c.entry.invariant.0 c.entry.invariant.1 c.in_default.ensures.none in
    all_near (λ item. item.reference < 2 ^ 32) test content.entries (items_of c.entry.children.items) found
    (has_pages content c.in_ok-view.ensures.spellable (omega (arith, c.requires.above, c.in_ok-view.ensures.level)))
