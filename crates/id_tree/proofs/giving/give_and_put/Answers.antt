-- The page given out is not the one that is put.
use Rattle.std.proofs.Common.{inl, ◌∙◌}
use Rattle.page_cache.specs.Laws.{a_live_page_was_given_out}
use Rattle.id_tree.proofs.WorksLemmas.{works_refused}
use Rattle.page_cache.specs.Cache.{pages, touched_of}
use Rattle.id_tree.proofs.WriteLemmas.{gives_apart, still_live}
use Rattle.id_tree.proofs.TidyLemmas.{tidy_put}
use Rattle.id_words.proofs.WriteLemmas.{not_both}
use Rattle.node_page.proofs.NodeLemmas.{at_error}
use Rattle.id_tree.proofs.giving.give_and_put.Goals as goal

pub returns-in_err-number-clause-damage : goal.returns-in_err-number-clause-damage
returns-in_err-number-clause-damage g c = λ h none.
    at_error c.from_residual.result c.in_err-number.field-0.0 _
    c.from_residual.ensures.1 (λ n damaged. (c.in_err-number.ensures.damage h n damaged).1)

pub returns-in_err-put-clause-damage : goal.returns-in_err-put-clause-damage
returns-in_err-put-clause-damage g c = λ h none. absurd
    (not_both (touched_of c.put.new.self) (c.put.ensures.changes.touched c.in_ok-number.ensures.touched) none)

pub returns-clause-touched : goal.returns-clause-touched
returns-clause-touched g c = c.put.ensures.changes.touched c.in_ok-number.ensures.touched

pub returns-in_err-number-clause-gives : goal.returns-in_err-number-clause-gives
returns-in_err-number-clause-gives g c = λ map live dims node.
    works_refused c.in_err-number.field-0.0 c.from_residual.ensures.1 (c.give_page.ensures.sound map)
    (c.in_err-number.ensures.faults map)

pub returns-in_err-put-clause-gives : goal.returns-in_err-put-clause-gives
returns-in_err-put-clause-gives g c = λ map live dims node.
    let map1 = c.give_page.ensures.sound map in
    let there = still_live (pages c.args.cache.now) (pages c.give_page.new.cache) c.in_ok-number.number
    c.args.page c.args.second.now (c.in_ok-number.ensures.given map) live in
    let out = a_live_page_was_given_out c.give_page.new.cache c.args.page there in
    works_refused c.in_err-put.field-0.0 c.from_residual-in_err-put.ensures.1 (c.put.ensures.sound map1 there)
    (inl (c.in_err-put.ensures.faults map1.honest out.0 out.1))

pub returns-clause-gives : goal.returns-clause-gives
returns-clause-gives g c = λ map live dims node.
    let old = pages c.args.cache.now in
    let mid = pages c.give_page.new.cache in
    let given = c.in_ok-number.ensures.given map in
    let map1 = c.give_page.ensures.sound map in
    let apart = gives_apart old mid c.in_ok-number.number c.args.page c.args.second.now given live in
    let there = still_live old mid c.in_ok-number.number c.args.page c.args.second.now given live in
    let others = c.put.ensures.others map1.honest there in
    let written = c.in_ok-put.ensures.written map1.honest there in
    record {
      sound = c.put.ensures.sound map1 there;
      tidy = tidy_put dims old mid (pages c.put.new.self) c.args.page c.args.first.now
          (c.in_ok-number.ensures.tidy map dims node.second) others written node.first;
      made = record {
        low = given.low;
        fresh = given.fresh;
        apart = apart;
        others = λ n off other. others n other ∙ given.others n off;
        there_first = written;
        there_second = others c.in_ok-number.number apart ∙ given.there;
      };
      faults = tt;
    }
