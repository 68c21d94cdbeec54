-- The node is that of the page, with the entry after the others.
use Rattle.std.proofs.Common.{inl}
use Rattle.std.proofs.Common.{◌≡◌, ◌∙◌, ℕ, ◌<◌, ap, arith, IfSome, is_some, length, true, List, Option, None}
use Rattle.std.proofs.Common.{Some, subst, sym}
use Rattle.std.specs.Prelude.{IsSomeAnd}
use Rattle.page_file.specs.Fault.{IsOfDevice}
use Rattle.page_cache.specs.Cache.{IsHonest, pages}
use Rattle.page_cache.specs.Calls.{asks_changes, changes_and_refuses, changes_in_turn}
use Rattle.page_cache.specs.Laws.{a_live_page_is_given, a_live_page_was_given_out}
use Rattle.tree_node.specs.Boxes.{least_box}
use Rattle.tree_node.specs.Nodes.{NodeContent, item_of}
use Rattle.node_bytes.specs.Layout.{IsOfLevel, IsPageOfNode, IsTidy, node_at, pushed}
use Rattle.node_page.proofs.GivenLemmas.{node_was_given_out}
use Rattle.node_page.proofs.NodeLemmas.{at_error, bytes_of_node, node_of_page}
use Rattle.node_page.proofs.ReadLemmas.{edit_refused_after}
use Rattle.node_bytes.proofs.TidyLemmas.{Left, at_page}
use Rattle.node_page.proofs.adding.add_entry.Goals as goal

-- the bytes that the edit left at the page
left : (g : _) (c : goal.In_ok-edit_node g) → IsHonest c.args.cache.now → (content : NodeContent) (was : List ℕ)
    → pages c.args.cache.now c.args.page ≡ Some was → node_at g.row.D was ≡ Some content
    → Left g.row.D (pages c.edit_node.new.self c.args.page) was (pushed content (item_of c.args.entry.now))
left g c h content was at is =
    let D = g.row.D in
    let page = c.args.page in
    let mid = c.least_with.new.cache in
    let after : NodeContent = pushed content (item_of c.args.entry.now) in
    let asks = c.in_ok-bounds.ensures.asks in
    let there = node_of_page D (pages c.args.cache.now page) was (Some content) at is in
    let live : pages mid page ≡ Some was = asks.map.pages_stay h page ∙ at in
    let did =
    c.in_ok-edit_node.ensures.edited (asks.gate.honest.0 h) was (a_live_page_is_given mid page was live) in
    let room = (c.in_ok-bounds.ensures.room h content there) in
    let level = c.in_ok-bounds.ensures.level h content there in
    let ran = did.3 in
    let spelled : node_at D ran.shown.now ≡ Some content = ap (node_at D) ran.shows ∙ is in
    let few : length content.entries < 100 =
    omega (arith, (room.0 (ap is_some c.in-Some.is)).1, c.requires.most) in
    let refers : IsOfLevel content.level c.args.entry.now.reference c.args.entry.now.tag =
    subst (λ l. IsOfLevel l c.args.entry.now.reference c.args.entry.now.tag) (sym level)
    c.requires.refers in
    record {
      now = did.0;
      there = did.2 (ap is_some live);
      spelled = ap (node_at D) (sym ran.leaves) ∙ ran.met.0 content spelled few refers;
      is_page =
          λ tidy. subst (λ bytes. IsPageOfNode D bytes after) {y = did.0} ran.leaves
          (ran.met.1.0 (subst (IsTidy D) (sym ran.shows) tidy) content spelled few refers);
    }

pub returns-clause-added : goal.returns-clause-added
returns-clause-added g c = λ h content there.
    let D = g.row.D in
    let item = item_of c.args.entry.now in
    let was = bytes_of_node D (pages c.args.cache.now c.args.page) content there in
    let l = left g c h content was.0 was.1 was.2 in (
      node_of_page D (pages c.edit_node.new.self c.args.page) l.now (Some (pushed content item)) l.there l.spelled,
      subst (λ o. IfSome o (λ bounds. bounds ≡ least_box D (pushed content item).entries)) c.in-Some.is
          (c.in_ok-bounds.ensures.least h content there),
    )

pub returns-clause-is_page : goal.returns-clause-is_page
returns-clause-is_page g c = λ h content there tidy.
    let D = g.row.D in
    let was = bytes_of_node D (pages c.args.cache.now c.args.page) content there in
    let l = left g c h content was.0 was.1 was.2 in
    at_page D (pages c.edit_node.new.self c.args.page) l.now (pushed content (item_of c.args.entry.now)) l.there
    (l.is_page (subst (λ (o : Option (List ℕ)). IsSomeAnd o (IsTidy D)) was.1 tidy))

pub returns-clause-changes : goal.returns-clause-changes
returns-clause-changes g c =
    changes_in_turn c.args.cache.now c.least_with.new.cache c.edit_node.new.self None
    (asks_changes c.args.cache.now c.least_with.new.cache None c.in_ok-bounds.ensures.asks)
    c.in_ok-edit_node.ensures.changes

pub returns-in_err-edit_node-clause-faults : goal.returns-in_err-edit_node-clause-faults
returns-in_err-edit_node-clause-faults g c = λ h content there level.
    let asks = c.in_ok-bounds.ensures.asks in
    let was = bytes_of_node g.row.D (pages c.args.cache.now c.args.page) content there in
    let live : pages c.least_with.new.cache c.args.page ≡ Some was.0 = asks.map.pages_stay h c.args.page
    ∙ was.1 in
    let out = a_live_page_was_given_out c.least_with.new.cache c.args.page (ap is_some live) in
    at_error c.from_residual-in_err-edit_node.result c.in_err-edit_node.field-0.0 IsOfDevice
    c.from_residual-in_err-edit_node.ensures.1 (c.in_err-edit_node.ensures.faults (asks.gate.honest.0 h) out.0 out.1)

pub returns-in_err-edit_node-clause-changes : goal.returns-in_err-edit_node-clause-changes
returns-in_err-edit_node-clause-changes g c =
    changes_and_refuses c.args.cache.now c.least_with.new.cache c.edit_node.new.self c.in_err-edit_node.field-0.0
    c.from_residual-in_err-edit_node.result c.from_residual-in_err-edit_node.ensures.1
    (asks_changes c.args.cache.now c.least_with.new.cache None c.in_ok-bounds.ensures.asks)
    c.in_err-edit_node.ensures.changes

pub returns-clause-room : goal.returns-clause-room
returns-clause-room g c = λ h content there level.
    subst (λ o. ((is_some o ≡ true) → (0 < length content.entries) × (length content.entries < c.args.most))
    × ((0 < length content.entries) × (length content.entries < c.args.most) → is_some o ≡ true)) c.in-Some.is
    (c.in_ok-bounds.ensures.room h content there)

pub returns-clause-others : goal.returns-clause-others
returns-clause-others g c = λ h live k other.
    let asks = c.in_ok-bounds.ensures.asks in
    c.in_ok-edit_node.ensures.others (asks.gate.honest.0 h) (ap is_some (asks.map.pages_stay h c.args.page) ∙ live) k
    other ∙ asks.map.pages_stay h k

pub returns-in_default-clause-given_node : goal.returns-in_default-clause-given_node
returns-in_default-clause-given_node g c = λ h. c.in_ok-bounds.ensures.given_node h

pub returns-clause-given_node : goal.returns-clause-given_node
returns-clause-given_node g c = λ h. c.in_ok-bounds.ensures.given_node h

pub returns-in_err-edit_node-clause-named : goal.returns-in_err-edit_node-clause-named
returns-in_err-edit_node-clause-named g c = λ h.
    let asks = c.in_ok-bounds.ensures.asks in
    let node = c.in_ok-bounds.ensures.given_node h in
    let out = node_was_given_out g.row.D c.args.cache.now c.args.page node.0 node.1 in
    at_error c.from_residual-in_err-edit_node.result c.in_err-edit_node.field-0.0
    _ c.from_residual-in_err-edit_node.ensures.1
    (inl (c.in_err-edit_node.ensures.faults (asks.gate.honest.0 h) out.0 (omega (arith, out.1, asks.map.next))))

pub returns-in_err-edit_node-clause-held : goal.returns-in_err-edit_node-clause-held
returns-in_err-edit_node-clause-held g c = λ was held.
    let no = c.in_err-edit_node.ensures.held (c.in_ok-bounds.ensures.asks.gate.gate ∙ was)
    c.in_ok-bounds.ensures.holds in absurd (cc)

pub returns-in_err-edit_node-clause-refused : goal.returns-in_err-edit_node-clause-refused
returns-in_err-edit_node-clause-refused g c =
    edit_refused_after c.args.cache.now c.least_with.new.cache c.edit_node.new.self c.args.page c.in_err-edit_node.field-0.0
    c.from_residual-in_err-edit_node.result c.from_residual-in_err-edit_node.ensures.1 c.in_ok-bounds.ensures.asks
    c.in_err-edit_node.ensures
