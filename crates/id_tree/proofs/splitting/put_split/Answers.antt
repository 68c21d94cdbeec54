-- The half where the identifier is has room.
use Rattle.id_tree.proofs.WorksLemmas.{works_handed}
use Rattle.std.proofs.Common.{arith}
use Rattle.page_cache.specs.Cache.{pages}
use Rattle.id_tree.proofs.NodeLemmas.{node_there}
use Rattle.id_tree.proofs.SplitLemmas.{child_live, room_left, room_right}
use Rattle.id_tree.proofs.WayLemmas.{page_apart}
use Rattle.node_page.proofs.NodeLemmas.{at_error}
use Rattle.id_tree.proofs.splitting.put_split.Goals as goal

pub returns-in_err-number-clause-damage : goal.returns-in_err-number-clause-damage
returns-in_err-number-clause-damage g c = λ h none.
    at_error c.from_residual.result c.in_err-number.field-0.0 _
    c.from_residual.ensures.1 (c.in_err-number.ensures.damage h none)

pub returns-then-id-plan-clause-touched : goal.returns-then-id-plan-clause-touched
returns-then-id-plan-clause-touched g c = c.in_ok-number.ensures.touched

pub returns-clause-touched : goal.returns-clause-touched
returns-clause-touched g c = c.in_ok-number.ensures.touched

pub returns-in_err-number-clause-splits : goal.returns-in_err-number-clause-splits
returns-in_err-number-clause-splits g c = λ map level edge row may plan.
    let D = g.row.D in
    let old = pages c.args.cache.now in
    let page = c.args.page in
    let id = c.args.id in
    let b = c.args.below.now in
    let live = node_there D old page level row may.stands.node in
    let there = child_live D old page level edge row id b.child b.place b.last may in
    let apart = page_apart D old page level edge id b.child row may.high may.stands may.way in
    works_handed (c.in_err-number.ensures.splits map there live apart _ plan.fork_is plan.fork_tidy
    plan.cut_tidy) c.from_residual.ensures.1 (λ why. why)

pub returns-then-id-plan-clause-splits : goal.returns-then-id-plan-clause-splits
returns-then-id-plan-clause-splits g c = λ map level edge row may plan.
    let D = g.row.D in
    let old = pages c.args.cache.now in
    let page = c.args.page in
    let id = c.args.id in
    let b = c.args.below.now in
    let live = node_there D old page level row may.stands.node in
    let there = child_live D old page level edge row id b.child b.place b.last may in
    let apart = page_apart D old page level edge id b.child row may.high may.stands may.way in
    let s = c.in_ok-number.ensures.splits map there live apart _ plan.fork_is plan.fork_tidy plan.cut_tidy in
    record {
      sound = s.sound;
      tidy = s.tidy;
      made = room_left D old s.made.mid (pages c.put_cut.new.cache) page level edge row id b.child b.place b.last
          c.args.plan.now.cut.key c.in_ok-number.number _ _ may plan.cuts s.made.given c.args.plan.now.fork
          plan.fork_is s.made.others s.made.named c.if-id-plan.true;
      faults = tt;
    }

pub returns-clause-splits : goal.returns-clause-splits
returns-clause-splits g c = λ map level edge row may plan.
    let D = g.row.D in
    let old = pages c.args.cache.now in
    let page = c.args.page in
    let id = c.args.id in
    let b = c.args.below.now in
    let live = node_there D old page level row may.stands.node in
    let there = child_live D old page level edge row id b.child b.place b.last may in
    let apart = page_apart D old page level edge id b.child row may.high may.stands may.way in
    let s = c.in_ok-number.ensures.splits map there live apart _ plan.fork_is plan.fork_tidy plan.cut_tidy in
    record {
      sound = s.sound;
      tidy = s.tidy;
      made = room_right D old s.made.mid (pages c.put_cut.new.cache) page level edge row id b.child b.place b.last
          c.args.plan.now.cut.key c.in_ok-number.number _ _ may plan.cuts s.made.given c.args.plan.now.fork
          plan.fork_is s.made.others s.made.named (omega (arith, c.if-id-plan.false));
      faults = tt;
    }
