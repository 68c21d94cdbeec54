-- Two fifths are more than a node has to have.
use Rattle.std.proofs.Common.{◌<◌, arith}
use Rattle.page_cache.specs.Cache.{pages}
use Rattle.id_tree.proofs.AddLemmas.{fork_counted, leaf_counted}
use Rattle.id_tree.proofs.CutLemmas.{least_some, sizes}
use Rattle.id_page.proofs.LeafReading.{leaf_spells}
use Rattle.id_page.proofs.ObjectPlaces.{few_objects}
use Rattle.id_tree.specs.Tree.{objects_in}
use Rattle.id_tree.proofs.NodeLemmas.{leaf_bytes, there_bytes}
use Rattle.node_page.proofs.NodeLemmas.{at_error}
use Rattle.id_tree.proofs.joining.is_ample.Goals as goal

pub are_two_fifths-requires : goal.are_two_fifths-requires
are_two_fifths-requires g c = omega (arith, c.objects_that_fit.ensures, few_objects g.row.D)

pub returns-then-level-eq0-clause-ample : goal.returns-then-level-eq0-clause-ample
returns-then-level-eq0-clause-ample g c = λ h edge row node yes.
    let D = g.row.D in
    let old = pages c.args.cache.now in
    let low = c.if-level-eq0.true in
    let there = there_bytes D old c.args.number c.args.level row node in
    let count = c.in_ok-count.ensures.count h there.0 there.1 in
    let long = leaf_counted D old c.args.number c.args.level row there.0 node low there.1 in
    let leaf = leaf_bytes D (old c.args.number) there.0 (objects_in row) there.1 (node.leaf low) in
    let size = sizes D (leaf_spells D there.0 (objects_in row) leaf).head.axes in
    let many = c.are_two_fifths.ensures.yes yes in
    record {
      leaf = λ is. omega (arith, many, count, long, c.objects_that_fit.ensures, size.ample, least_some D);
      fork = λ up. absurd (omega (arith, up, low));
      large_leaf = λ is off. omega (arith, many, count, long, c.objects_that_fit.ensures, size.ample);
      large_fork = λ up off. absurd (omega (arith, up, low));
    }

pub returns-clause-ample : goal.returns-clause-ample
returns-clause-ample g c = λ h edge row node yes.
    let D = g.row.D in
    let old = pages c.args.cache.now in
    let up : 0 < c.args.level = omega (arith, c.if-level-eq0.false) in
    let there = there_bytes D old c.args.number c.args.level row node in
    let count = c.in_ok-count.ensures.count h there.0 there.1 in
    let long = fork_counted D old c.args.number c.args.level row there.0 node up there.1 in
    let many = c.are_two_fifths-2.ensures.yes yes in
    record {
      leaf = λ low. absurd (omega (arith, low, up));
      fork = λ high. omega (arith, many, count, long);
      large_leaf = λ low off. absurd (omega (arith, low, up));
      large_fork = λ high off. omega (arith, many, count, long);
    }

pub returns-then-level-eq0-clause-much : goal.returns-then-level-eq0-clause-much
returns-then-level-eq0-clause-much g c = λ h row node yes.
    let D = g.row.D in
    let old = pages c.args.cache.now in
    let low = c.if-level-eq0.true in
    let there = there_bytes D old c.args.number c.args.level row node in
    let count = c.in_ok-count.ensures.count h there.0 there.1 in
    let long = leaf_counted D old c.args.number c.args.level row there.0 node low there.1 in
    let many = c.are_two_fifths.ensures.yes yes in
    record {
      leaf = λ is. omega (arith, many, count, long, c.objects_that_fit.ensures);
      fork = λ up. absurd (omega (arith, up, low));
    }

pub returns-clause-much : goal.returns-clause-much
returns-clause-much g c = λ h row node yes.
    let D = g.row.D in
    let old = pages c.args.cache.now in
    let up : 0 < c.args.level = omega (arith, c.if-level-eq0.false) in
    let there = there_bytes D old c.args.number c.args.level row node in
    let count = c.in_ok-count.ensures.count h there.0 there.1 in
    let long = fork_counted D old c.args.number c.args.level row there.0 node up there.1 in
    let many = c.are_two_fifths-2.ensures.yes yes in
    record {
      leaf = λ low. absurd (omega (arith, low, up));
      fork = λ high. omega (arith, many, count, long);
    }

pub returns-then-level-eq0-clause-little : goal.returns-then-level-eq0-clause-little
returns-then-level-eq0-clause-little g c = λ h row node no ample.
    let D = g.row.D in
    let old = pages c.args.cache.now in
    let low = c.if-level-eq0.true in
    let there = there_bytes D old c.args.number c.args.level row node in
    let count = c.in_ok-count.ensures.count h there.0 there.1 in
    let long = leaf_counted D old c.args.number c.args.level row there.0 node low there.1 in
    let few = c.are_two_fifths.ensures.no no in
    omega (arith, few, count, long, c.objects_that_fit.ensures, ample.leaf low)

pub returns-clause-little : goal.returns-clause-little
returns-clause-little g c = λ h row node no ample.
    let D = g.row.D in
    let old = pages c.args.cache.now in
    let up : 0 < c.args.level = omega (arith, c.if-level-eq0.false) in
    let there = there_bytes D old c.args.number c.args.level row node in
    let count = c.in_ok-count.ensures.count h there.0 there.1 in
    let long = fork_counted D old c.args.number c.args.level row there.0 node up there.1 in
    let few = c.are_two_fifths-2.ensures.no no in
    omega (arith, few, count, long, ample.fork up)

pub returns-in_err-count-clause-damage : goal.returns-in_err-count-clause-damage
returns-in_err-count-clause-damage g c = λ h.
    at_error c.from_residual.result c.in_err-count.field-0.0
    _ c.from_residual.ensures.1
    (c.in_err-count.ensures.damage h)
