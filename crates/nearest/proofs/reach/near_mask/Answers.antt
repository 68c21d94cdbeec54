-- The goals of `near_mask` that are proved by hand.
use Rattle.std.proofs.Common.{◌≡◌, ◌∙◌, get_or, sym, subst}
use Rattle.std.proofs.lemmas.List.Elements.{All-get_or}
use Rattle.std.proofs.lemmas.Option.{get_or_from_slice_get, slice_get_within}
use Rattle.box_math.specs.Bounds.{IsBox}
use Rattle.tree_node.specs.Boxes.{no_item}
use Rattle.tree_node.specs.Nodes.{Item}
use Rattle.node_bytes.specs.Views.{content_in}
use Rattle.nearest.proofs.reach.near_mask.Goals as goal

pub returns : goal.returns
returns g c = λ place item there unset.
    let items = (content_in c.args.view.now).entries in
    let here : get_or items place no_item ≡ item = get_or_from_slice_get items place item no_item there in
    let box : IsBox g.row.D item.bounds = subst (λ (x : Item). IsBox g.row.D x.bounds) here
    (All-get_or (λ (x : Item). IsBox g.row.D x.bounds) items place no_item
    (slice_get_within items place item there) c.requires.boxes) in
    c.reach.ensures item.bounds box (sym (c.mask.ensures.met place item there) ∙ unset)
