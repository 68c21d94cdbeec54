-- Both pages are made of the objects on their sides of a key with so many below it.
use Rattle.std.proofs.Common.{arith}
use Rattle.id_page.proofs.LeafReading.{count_of_leaf}
use Rattle.id_tree.proofs.CutLemmas.{least_some}
use Rattle.id_tree.proofs.HalvingLemmas.{both_lengths}
use Rattle.id_tree.proofs.halving.cut_leaf.Goals as goal

pub returns-clause-cuts : goal.returns-clause-cuts
returns-clause-cuts g c = λ objects is single.
    let key = c.key_with-key.result in
    let kept = c.objects_kept-many.ensures in
    let count = count_of_leaf g.row.D c.args.page.now objects is in
    let both = both_lengths key objects in
    let under = c.key_with-key.ensures.parts objects is single (omega (arith, least_some g.row.D, kept.large))
    (omega (arith, count, c.requires.full, kept.some)) in
    record {
      under = c.leaf_under.ensures.under objects is;
      from = c.leaf_from.ensures.from objects is;
      large = omega (arith, under, kept.large);
      some = omega (arith, under, both, count, c.requires.full, kept.some);
      rest = λ off. let rest = kept.rest off in omega (arith, under, both, count, c.requires.full, rest);
    }
