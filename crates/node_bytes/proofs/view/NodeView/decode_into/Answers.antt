-- The entries that the view lends, one after the other, are those of the node.
use Rattle.std.proofs.Common.{◌≡◌, ◌++◌, ◌∷◌, [], ℕ, List, map, take, ap, sym, ◌∙◌, arith}
use Rattle.std.proofs.lemmas.List.{map-append, take_all, take_more}
use Rattle.tree_node.specs.Nodes.{Item, NodeContent, item_of}
use Rattle.node_bytes.specs.Views.{content_in}
use Rattle.node_bytes.proofs.view.NodeView.decode_into.Goals as goal

pub loop-place-preserved : goal.loop-place-preserved
loop-place-preserved g c =
    let inv = c.loop-place.invariant in
    let place = c.loop-place.place in
    let view = c.args.self.now in
    let all : List Item = (content_in view).entries in
    let items = c.loop-place.node.entries.items in
    let x : Item = item_of c.entry.result in
    record {
      read = ap (map item_of) c.push.ensures.items ∙ map-append item_of items (c.entry.result ∷ [])
          ∙ ap (λ (xs : List Item). xs ++ x ∷ []) inv.read
          ∙ ap (λ (y : Item). take place all ++ y ∷ []) c.entry.ensures
          ∙ sym (take_more all place x
          (omega (arith, c.loop-place-test.true, c.len-place-end.ensures.count)));
      many = omega (arith, c.push.ensures.len, inv.many);
      level = inv.level;
    }

pub returns : goal.returns
returns g c =
    let inv = c.loop-place.invariant in
    let view = c.args.self.now in
    let all : List Item = (content_in view).entries in
    let read : map item_of c.loop-place.node.entries.items ≡ all = inv.read
    ∙ take_all c.loop-place.place all
    (omega (arith, c.loop-place-test.false, c.len-place-end.ensures.count)) in
    ap (λ (n : ℕ). let x : NodeContent =
    record { level = n; entries = map item_of c.loop-place.node.entries.items } in x) inv.level
    ∙ ap (λ (xs : List Item). let x : NodeContent = record { level = view.level; entries = xs } in x) read
