-- The leaf takes as many objects as it has fewer than fit.
use Rattle.std.proofs.Common.{arith, refl}
use Rattle.page_cache.specs.Cache.{pages}
use Rattle.id_tree.proofs.AddLemmas.{leaf_counted}
use Rattle.id_tree.proofs.NodeLemmas.{there_bytes}
use Rattle.id_tree.proofs.runs.run_at.Goals as goal

pub returns-clause-room : goal.returns-clause-room
returns-clause-room g c = λ h row node some.
    let old = pages c.args.cache.now in
    let there = there_bytes g.row.D old c.args.page 0 row node in
    let count = c.in_ok-count.ensures.count h there.0 there.1 in
    let long = leaf_counted g.row.D old c.args.page 0 row there.0 node refl there.1 in
    omega (arith, some, count, long, c.objects_that_fit.ensures, c.saturating_sub.ensures)
