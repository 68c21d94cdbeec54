-- The count in the page is that of the node.
use Rattle.std.proofs.Common.{◌≡◌, ◌<◌, ◌≤◌, arith}
use Rattle.std.proofs.lemmas.Bool.Decides.{nat_tests}
use Rattle.std.proofs.Common.{ℕ, true, false, nat_lt}
use Rattle.page_cache.specs.Cache.{pages}
use Rattle.id_tree.proofs.AddLemmas.{fork_counted, leaf_counted}
use Rattle.id_tree.proofs.NodeLemmas.{there_bytes}
use Rattle.node_page.proofs.NodeLemmas.{at_error}
use Rattle.id_tree.proofs.below.has_room.Goals as goal

less_than : (a b : ℕ) → nat_lt a b ≡ true → a < b
less_than a b h = grind (arith, nat_tests)

not_less : (a b : ℕ) → nat_lt a b ≡ false → b ≤ a
not_less a b h = grind (arith, nat_tests)

pub returns-then-level-eq0-clause-room : goal.returns-then-level-eq0-clause-room
returns-then-level-eq0-clause-room g c = λ h row node yes.
    let old = pages c.args.cache.now in
    let low = c.if-level-eq0.true in
    let there = there_bytes g.row.D old c.args.number c.args.level row node in
    let count = c.in_ok-count.ensures.count h there.0 there.1 in
    let long = leaf_counted g.row.D old c.args.number c.args.level row there.0 node low there.1 in
    let less = less_than c.in_ok-count.count c.objects_that_fit.result yes in
    record {
      leaf = λ is. omega (arith, less, count, long, c.objects_that_fit.ensures);
      fork =
          λ high. absurd (omega (arith, high, low));
    }

pub returns-then-level-eq0-clause-full : goal.returns-then-level-eq0-clause-full
returns-then-level-eq0-clause-full g c = λ h row node no.
    let old = pages c.args.cache.now in
    let low = c.if-level-eq0.true in
    let there = there_bytes g.row.D old c.args.number c.args.level row node in
    let count = c.in_ok-count.ensures.count h there.0 there.1 in
    let long = leaf_counted g.row.D old c.args.number c.args.level row there.0 node low there.1 in
    let least = not_less c.in_ok-count.count c.objects_that_fit.result no in
    record {
      leaf = λ is. omega (arith, least, count, long, c.objects_that_fit.ensures);
      fork =
          λ high. absurd (omega (arith, high, low));
    }

pub returns-clause-room : goal.returns-clause-room
returns-clause-room g c = λ h row node yes.
    let old = pages c.args.cache.now in
    let up : 0 < c.args.level = omega (arith, c.if-level-eq0.false) in
    let there = there_bytes g.row.D old c.args.number c.args.level row node in
    let count = c.in_ok-count.ensures.count h there.0 there.1 in
    let long = fork_counted g.row.D old c.args.number c.args.level row there.0 node up there.1 in
    let less = less_than c.in_ok-count.count 340 yes in
    record { leaf = λ low. absurd (omega (arith, low, up)); fork = λ high. omega (arith, less, count, long) }

pub returns-clause-full : goal.returns-clause-full
returns-clause-full g c = λ h row node no.
    let old = pages c.args.cache.now in
    let up : 0 < c.args.level = omega (arith, c.if-level-eq0.false) in
    let there = there_bytes g.row.D old c.args.number c.args.level row node in
    let count = c.in_ok-count.ensures.count h there.0 there.1 in
    let long = fork_counted g.row.D old c.args.number c.args.level row there.0 node up there.1 in
    let least = not_less c.in_ok-count.count 340 no in
    record { leaf = λ low. absurd (omega (arith, low, up)); fork = λ high. omega (arith, least, count, long) }

pub returns-in_err-count-clause-damage : goal.returns-in_err-count-clause-damage
returns-in_err-count-clause-damage g c = λ h.
    at_error c.from_residual.result c.in_err-count.field-0.0 _
    c.from_residual.ensures.1 (c.in_err-count.ensures.damage h)
