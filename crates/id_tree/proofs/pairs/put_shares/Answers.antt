-- The fork is written once both children are.
use Rattle.id_tree.proofs.WorksLemmas.{works_handed}
use Rattle.std.proofs.Common.{◌∙◌, IsSome, ap, subst, sym}
use Rattle.page_cache.specs.Cache.{pages, touched_of}
use Rattle.page_cache.specs.Laws.{a_live_page_was_given_out}
use Rattle.node_page.proofs.NodeLemmas.{on_ok, at_error}
use Rattle.id_tree.specs.Tree.{fork_in}
use Rattle.id_tree.proofs.TidyLemmas.{fork_node, node_fork, tidy_put}
use Rattle.id_page.proofs.ForkReading.{some_link}
use Rattle.id_words.proofs.WriteLemmas.{not_both}
use Rattle.id_words.proofs.Results.{on_done}
use Rattle.id_tree.proofs.pairs.put_shares.Goals as goal

pub returns-in_err-put_both-clause-damage : goal.returns-in_err-put_both-clause-damage
returns-in_err-put_both-clause-damage g c = λ h none.
    at_error c.from_residual.result c.in_err-put_both.field-0.0 _
    c.from_residual.ensures.1 (c.in_err-put_both.ensures.damage h none)

pub returns-clause-damage : goal.returns-clause-damage
returns-clause-damage g c =
    λ h none. absurd
    (not_both (touched_of c.put.new.self) (c.put.ensures.changes.touched c.in_ok-put_both.ensures.touched)
    none)

pub returns-clause-touched : goal.returns-clause-touched
returns-clause-touched g c = on_done c.put.result
    (λ x done. c.put.ensures.changes.touched c.in_ok-put_both.ensures.touched)

pub returns-in_err-put_both-clause-puts : goal.returns-in_err-put_both-clause-puts
returns-in_err-put_both-clause-puts g c = λ map apart content is within fork cut.
    works_handed (c.in_err-put_both.ensures.puts map apart.both g.row.D cut) c.from_residual.ensures.1
    (λ why. why)

pub returns-clause-puts : goal.returns-clause-puts
returns-clause-puts g c = λ map apart content is within fork cut.
    let D = g.row.D in
    let old = pages c.args.cache.now in
    let mid = pages c.put_both.new.cache in
    let puts = c.in_ok-put_both.ensures.puts map apart.both D cut in
    let live = subst IsSome (sym (puts.made.others c.args.page apart.not_first apart.not_second)) apart.live
    in
    let out = a_live_page_was_given_out c.put_both.new.cache c.args.page live in
    let others = c.put.ensures.others puts.sound.honest live in
    let written = c.put.ensures.written puts.sound.honest live in
    let named = c.with_key_at-named.result in
    record {
      sound = c.put.ensures.sound puts.sound live;
      tidy = on_ok c.put.result (λ there. tidy_put D old mid (pages c.put.new.self) c.args.page named puts.tidy
          others there (λ tidy. fork_node D named _
          (c.with_key_at-named.ensures.keyed D content some_link is within)
          (c.with_key_at-named.ensures.tidy c.requires.within
          (node_fork D c.args.pair.now.fork content is (fork tidy))))) written;
      made = on_ok c.put.result (λ there. record {
        mid = mid;
        puts = puts.made;
        rest = others;
        named = λ content other is within. ap (fork_in D) there
            ∙ c.with_key_at-named.ensures.keyed D content other is within;
      }) written;
      faults = c.put.ensures.faults puts.sound.honest out.0 out.1;
    }
