-- The node is that of the page, without the entry in its place.
use Rattle.std.proofs.Common.{◌≡◌, ◌∙◌, ◌<◌, ap, arith, IfSome, is_some, length, List, Option, Some, subst, sym}
use Rattle.std.specs.Prelude.{ℕ, IsSomeAnd}
use Rattle.page_cache.specs.Cache.{IsHonest, pages}
use Rattle.page_cache.specs.Laws.{a_live_page_is_given}
use Rattle.tree_node.specs.Boxes.{least_box}
use Rattle.tree_node.specs.Nodes.{NodeContent}
use Rattle.node_bytes.specs.Layout.{IsPageOfNode, IsTidy, node_at}
use Rattle.node_bytes.specs.Taken.{without_entry}
use Rattle.node_page.proofs.NodeLemmas.{bytes_of_node, node_of_page}
use Rattle.node_bytes.proofs.TidyLemmas.{Left, at_page}
use Rattle.node_page.proofs.ReadLemmas.{edit_refused_after}
use Rattle.node_page.proofs.taking.take_entry.Goals as goal

-- the bytes that the edit left at the page
left : (g : _) (c : goal.In_ok-edit_node g) → IsHonest c.args.cache.now → (content : NodeContent) (was : List ℕ)
    → pages c.args.cache.now c.args.page ≡ Some was → node_at g.row.D was ≡ Some content
    → Left g.row.D (pages c.edit_node.new.self c.args.page) was (without_entry content c.args.place)
left g c h content was at is =
    let D = g.row.D in
    let page = c.args.page in
    let mid = c.least_of_others.new.cache in
    let after : NodeContent = without_entry content c.args.place in
    let asks = c.in_ok-least.ensures.asks in
    let there = node_of_page D (pages c.args.cache.now page) was (Some content) at is in
    let live : pages mid page ≡ Some was = asks.map.pages_stay h page ∙ at in
    let did =
    c.in_ok-edit_node.ensures.edited (asks.gate.honest.0 h) was (a_live_page_is_given mid page was live) in
    let ran = did.3 in
    let spelled : node_at D ran.shown.now ≡ Some content = ap (node_at D) ran.shows ∙ is in
    let room = (c.in_ok-least.ensures.room h content there).0 (ap is_some c.in-Some.is) in
    let more : 1 < length content.entries = omega (arith, room.1, c.requires.fewest) in
    record {
      now = did.0;
      there = did.2 (ap is_some live);
      spelled = ap (node_at D) (sym ran.leaves) ∙ ran.met.0 content spelled room.0 more;
      is_page =
          λ tidy. subst (λ bytes. IsPageOfNode D bytes after) {y = did.0} ran.leaves
          (ran.met.1.0 (subst (IsTidy D) (sym ran.shows) tidy) content spelled room.0 more);
    }

pub returns-clause-taken : goal.returns-clause-taken
returns-clause-taken g c = λ h content there.
    let D = g.row.D in
    let after = without_entry content c.args.place in
    let was = bytes_of_node D (pages c.args.cache.now c.args.page) content there in
    let l = left g c h content was.0 was.1 was.2 in (
      node_of_page D (pages c.edit_node.new.self c.args.page) l.now (Some after) l.there l.spelled,
      subst (λ o. IfSome o (λ least. least ≡ least_box D after.entries)) c.in-Some.is
          (c.in_ok-least.ensures.least h content there),
    )

pub returns-clause-is_page : goal.returns-clause-is_page
returns-clause-is_page g c = λ h content there tidy.
    let D = g.row.D in
    let was = bytes_of_node D (pages c.args.cache.now c.args.page) content there in
    let l = left g c h content was.0 was.1 was.2 in
    at_page D (pages c.edit_node.new.self c.args.page) l.now (without_entry content c.args.place) l.there
    (l.is_page (subst (λ (o : Option (List ℕ)). IsSomeAnd o (IsTidy D)) was.1 tidy))

pub returns-in_err-edit_node-clause-refused : goal.returns-in_err-edit_node-clause-refused
returns-in_err-edit_node-clause-refused g c =
    edit_refused_after c.args.cache.now c.least_of_others.new.cache c.edit_node.new.self c.args.page c.in_err-edit_node.field-0.0
    c.from_residual-in_err-edit_node.result c.from_residual-in_err-edit_node.ensures.1 c.in_ok-least.ensures.asks
    c.in_err-edit_node.ensures
