-- The page that was given out has these bytes.
use Rattle.std.proofs.Common.{◌∙◌, ◌≤◌, arith}
use Rattle.page_cache.specs.Cache.{pages}
use Rattle.id_tree.proofs.NodeLemmas.{is_there}
use Rattle.id_tree.proofs.TidyLemmas.{tidy_written}
use Rattle.id_words.proofs.BreakLemmas.{may_break, no_damage, refused_breaks}
use Rattle.node_page.proofs.NodeLemmas.{at_error}
use Rattle.id_tree.proofs.giving.give_page.Goals as goal

pub returns-clause-given : goal.returns-clause-given
returns-clause-given g c = λ map.
    let fresh = c.in_ok-number.ensures.fresh map in
    let honest = (c.in_ok-number.ensures.sound map).honest in
    let live = is_there (pages c.allocate.new.self c.in_ok-number.number) _ fresh.1 in
    record {
      low = c.in_ok-number.ensures.number.0;
      fresh = fresh.0;
      others = λ k off. c.put.ensures.others honest live k off ∙ fresh.2 k off;
      there = c.in_ok-put.ensures.written honest live;
    }

pub returns-clause-tidy : goal.returns-clause-tidy
returns-clause-tidy g c = λ map dims node.
    let fresh = c.in_ok-number.ensures.fresh map in
    let map1 = c.in_ok-number.ensures.sound map in
    let live = is_there (pages c.allocate.new.self c.in_ok-number.number) _ fresh.1 in
    tidy_written dims (pages c.args.cache.now) (pages c.put.new.self) c.in_ok-number.number c.args.bytes.now
    (λ k off. c.put.ensures.others map1.honest live k off ∙ fresh.2 k off)
    (c.in_ok-put.ensures.written map1.honest live) node

pub returns-in_err-number-clause-damage : goal.returns-in_err-number-clause-damage
returns-in_err-number-clause-damage g c = λ h.
    let old = c.args.cache.now in
    let f = c.in_err-number.field-0.0 in
    at_error c.from_residual.result f _
    c.from_residual.ensures.1 (λ n damaged. (
      refused_breaks old c.allocate.new.self f n (c.in_err-number.ensures.damaged h) damaged,
      may_break old c.allocate.new.self f n (λ map. c.in_err-number.ensures.faults map)
          (c.in_err-number.ensures.damaged h) damaged,
    ))

pub returns-in_err-put-clause-damage : goal.returns-in_err-put-clause-damage
returns-in_err-put-clause-damage g c = λ h.
    let old = c.args.cache.now in
    let f = c.in_err-put.field-0.0 in
    let number = c.in_ok-number.ensures.number in
    let low : 2 ≤ c.in_ok-number.number = omega (arith, number.0) in
    at_error c.from_residual-in_err-put.result f _
    c.from_residual-in_err-put.ensures.1 (λ n damaged. absurd (no_damage f n
    (c.in_err-put.ensures.faults (c.in_ok-number.ensures.changes.honest.0 h) low number.1) damaged))

pub returns-clause-touched : goal.returns-clause-touched
returns-clause-touched g c = c.put.ensures.changes.touched c.in_ok-number.ensures.touched
