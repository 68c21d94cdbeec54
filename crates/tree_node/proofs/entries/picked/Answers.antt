use Rattle.std.proofs.Common.{arith, ◌∙◌, ap, ◌++◌, ◌∷◌, []}
use Rattle.tree_node.proofs.PickLemmas.{pick-more}
use Rattle.tree_node.proofs.entries.picked.Goals as goal

pub loop-i-preserved : goal.loop-i-preserved
loop-i-preserved g c =
    let e = c.args.entries.now in
    let i = c.loop-i.i in
    let x = c.index-entries-places.result in record {
      value = c.push.ensures.items ∙ ap (λ ys. ys ++ x ∷ []) c.loop-i.invariant.value
          ∙ pick-more e c.args.places.now i x c.loop-i-test.true (c.requires.below i c.loop-i-test.true)
          c.index-entries-places.is;
      count = omega (arith, c.push.ensures.len);
    }
