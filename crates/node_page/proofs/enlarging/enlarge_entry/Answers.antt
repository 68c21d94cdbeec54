-- The node is that of the page, with the greater box in its place.
use Rattle.std.proofs.Common.{◌≡◌, ap, IfSome, is_some, subst, true}
use Rattle.tree_node.specs.Boxes.{least_box}
use Rattle.node_bytes.specs.Enlarged.{CanEnlarge, set_box}
use Rattle.node_page.proofs.BoxedPages.{node_boxed, page_boxed}
use Rattle.node_page.proofs.ReadLemmas.{edit_refused_after}
use Rattle.node_page.proofs.enlarging.enlarge_entry.Goals as goal

pub returns-clause-room : goal.returns-clause-room
returns-clause-room g c = λ h content there.
    subst (λ o. ((is_some o ≡ true) → CanEnlarge g.row.D c.args.most c.args.place c.args.bounds.now content)
    × (CanEnlarge g.row.D c.args.most c.args.place c.args.bounds.now content → is_some o ≡ true)) c.in-Some.is
    (c.in_ok-least.ensures.room h content there)

pub returns-clause-enlarged : goal.returns-clause-enlarged
returns-clause-enlarged g c = λ h content there.
    let D = g.row.D in
    let b = c.args.bounds.now in
    let asks = c.in_ok-least.ensures.asks in
    let can = (c.in_ok-least.ensures.room h content there).0 (ap is_some c.in-Some.is) in (
      node_boxed D c.args.place c.args.page b c.args.cache.now c.least_enlarged.new.cache c.edit_box.new.cache
          c.in_ok-edit_box.field-0 (asks.map.pages_stay h c.args.page) (asks.gate.honest.0 h)
          c.in_ok-edit_box.ensures content there can.there,
      subst (λ o. IfSome o (λ least. least ≡ least_box D (set_box content.entries c.args.place b))) c.in-Some.is
          (c.in_ok-least.ensures.least h content there),
    )

pub returns-clause-is_page : goal.returns-clause-is_page
returns-clause-is_page g c = λ h content there tidy.
    let asks = c.in_ok-least.ensures.asks in
    let can = (c.in_ok-least.ensures.room h content there).0 (ap is_some c.in-Some.is) in
    page_boxed g.row.D c.args.place c.args.page c.args.bounds.now c.args.cache.now c.least_enlarged.new.cache
    c.edit_box.new.cache c.in_ok-edit_box.field-0 (asks.map.pages_stay h c.args.page) (asks.gate.honest.0 h)
    c.in_ok-edit_box.ensures content there can.there tidy

pub returns-in_err-edit_box-clause-refused : goal.returns-in_err-edit_box-clause-refused
returns-in_err-edit_box-clause-refused g c =
    edit_refused_after c.args.cache.now c.least_enlarged.new.cache c.edit_box.new.cache c.args.page c.in_err-edit_box.field-0.0
    c.from_residual-in_err-edit_box.result c.from_residual-in_err-edit_box.ensures.1 c.in_ok-least.ensures.asks
    c.in_err-edit_box.ensures
