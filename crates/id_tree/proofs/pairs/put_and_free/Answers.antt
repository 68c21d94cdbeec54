-- Each of the two pages is written or freed, and the other one stays.
use Rattle.id_tree.proofs.WorksLemmas.{works_refused}
use Rattle.page_cache.specs.Laws.{a_live_page_was_given_out}
use Rattle.std.proofs.Common.{◌≡◌, ◌∙◌, ◌<◌, ℕ, IsSome, subst, sym, arith}
use Rattle.page_cache.specs.Cache.{pages, touched_of, next_of}
use Rattle.node_page.proofs.NodeLemmas.{on_ok, at_error, page_refused}
use Rattle.id_tree.proofs.TidyLemmas.{tidy_freed, tidy_written}
use Rattle.id_words.proofs.WriteLemmas.{not_both, touched_so}
use Rattle.id_words.proofs.Results.{on_done}
use Rattle.id_tree.proofs.pairs.put_and_free.Goals as goal

differs : (n : ℕ) → 2 < n → ¬ (n ≡ 2)
differs n low is = omega (arith, low, is)

pub returns-in_err-put-clause-damage : goal.returns-in_err-put-clause-damage
returns-in_err-put-clause-damage g c = λ h none.
    let n = c.args.first in
    at_error c.from_residual.result c.in_err-put.field-0.0 _
    c.from_residual.ensures.1
    (page_refused n (next_of c.args.cache.now) c.in_err-put.field-0.0 (c.in_err-put.ensures.faults h)
    (λ out. let is = (c.in_err-put.ensures.outside out).0 in cc))

pub returns-clause-damage : goal.returns-clause-damage
returns-clause-damage g c =
    λ h none. absurd
    (not_both (touched_of c.free.new.self)
    (c.free.ensures.changes.touched
    (touched_so (touched_of c.args.cache.now) (touched_of c.put.new.self)
    c.in_ok-put.ensures.in_memory.touched)) none)

pub returns-clause-touched : goal.returns-clause-touched
returns-clause-touched g c = on_done c.free.result
    (λ x done. c.free.ensures.changes.touched
    (touched_so (touched_of c.args.cache.now) (touched_of c.put.new.self)
    c.in_ok-put.ensures.in_memory.touched))

pub returns-in_err-put-clause-puts : goal.returns-in_err-put-clause-puts
returns-in_err-put-clause-puts g c = λ map may dims node.
    let out = a_live_page_was_given_out c.args.cache.now c.args.first may.first_live in
    works_refused c.in_err-put.field-0.0 c.from_residual.ensures.1 (c.put.ensures.sound map may.first_live)
    (c.in_err-put.ensures.faults map.honest out.0 out.1)

pub returns-clause-puts : goal.returns-clause-puts
returns-clause-puts g c = λ map may dims node.
    let old = pages c.args.cache.now in
    let mid = pages c.put.new.self in
    let others = c.put.ensures.others map.honest may.first_live in
    let map1 = c.put.ensures.sound map may.first_live in
    let written = c.in_ok-put.ensures.written map.honest may.first_live in
    let live = subst IsSome (sym (others c.args.second (λ is. may.apart (sym is)))) may.second_live in
    let away = c.free.ensures.others map1.honest live in
    let freed = c.free.ensures.freed map1.honest live in
    record {
      sound = c.free.ensures.sound map1 live;
      tidy = on_ok c.free.result (λ gone. tidy_freed dims old mid (pages c.free.new.self) c.args.second
          (tidy_written dims old mid c.args.first c.args.bytes.now others written node) away gone) freed;
      made = on_ok c.free.result (λ gone. record {
        others = λ n off other. away n other ∙ others n off;
        there = away c.args.first may.apart ∙ written;
        gone = gone;
      }) freed;
      faults = c.free.ensures.faults map1 live (differs c.args.second may.low);
    }
