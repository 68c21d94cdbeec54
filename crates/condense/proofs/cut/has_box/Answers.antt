-- The goals of `has_box` that are proved by hand.
use Rattle.std.proofs.Common.{◌≡◌, ◌∙◌, ◌<◌, length, ap, sym, arith}
use Rattle.std.specs.Cmp.Rules.{signed_items}
use Rattle.std.proofs.lemmas.Bool.{true≢false}
use Rattle.std.proofs.lemmas.Bool.Decides.{Decides-and}
use Rattle.std.proofs.lemmas.List.{get_or_default}
use Rattle.box_math.specs.Bounds.{Bounds}
use Rattle.tree_node.specs.Boxes.{no_item}
use Rattle.tree_node.specs.Nodes.{Item, NodeContent, item_of}
use Rattle.node_bytes.specs.Views.{content_in}
use Rattle.condense.proofs.CutLemmas.{same_box}
use Rattle.condense.proofs.cut.has_box.Goals as goal

pub returns-then-place-len-clause-yes : goal.returns-then-place-len-clause-yes
returns-then-place-len-clause-yes g c = λ yes.
    let view : NodeContent = content_in c.args.node.now in
    let e = c.entry.result in
    let b : Bounds = c.args.bounds.now in
    let within : c.args.place < length view.entries = omega (arith, c.if-place-len.true, c.len.ensures.count) in
    let both =
    (Decides-and _ _ (signed_items e.bounds.low b.low) (signed_items e.bounds.high b.high)).0
    (sym c.eq.ensures ∙ yes) in (
      within,
      ap (λ (x : Item). x.bounds)
          (sym (c.entry.ensures ∙ get_or_default view.entries c.args.place (item_of e) no_item within))
          ∙ same_box e.bounds b both.0 both.1,
    )

pub returns-then-place-len-clause-no : goal.returns-then-place-len-clause-no
returns-then-place-len-clause-no g c = λ no within is.
    let view : NodeContent = content_in c.args.node.now in
    let e = c.entry.result in
    let b : Bounds = c.args.bounds.now in
    let box : (item_of e).bounds ≡ b =
    ap (λ (x : Item). x.bounds)
    (c.entry.ensures ∙ get_or_default view.entries c.args.place (item_of e) no_item within) ∙ is in
    let both =
    (Decides-and _ _ (signed_items e.bounds.low b.low) (signed_items e.bounds.high b.high)).1
    (ap (λ (x : Bounds). x.low) box, ap (λ (x : Bounds). x.high) box) in
    true≢false (sym (c.eq.ensures ∙ both) ∙ no)
