-- The fork is written once both children are.
use Rattle.id_tree.proofs.WorksLemmas.{works_handed}
use Rattle.std.proofs.Common.{◌∙◌, IsSome, ap, subst, sym}
use Rattle.page_cache.specs.Cache.{pages, touched_of}
use Rattle.page_cache.specs.Laws.{a_live_page_was_given_out}
use Rattle.node_page.proofs.NodeLemmas.{on_ok, at_error}
use Rattle.id_tree.specs.Tree.{fork_in}
use Rattle.id_tree.proofs.TidyLemmas.{fork_node, node_fork, tidy_put}
use Rattle.id_words.proofs.WriteLemmas.{not_both}
use Rattle.id_words.proofs.Results.{on_done}
use Rattle.id_tree.proofs.pairs.put_joined.Goals as goal

pub returns-in_err-put_and_free-clause-damage : goal.returns-in_err-put_and_free-clause-damage
returns-in_err-put_and_free-clause-damage g c = λ h none.
    at_error c.from_residual.result c.in_err-put_and_free.field-0.0 _
    c.from_residual.ensures.1 (c.in_err-put_and_free.ensures.damage h none)

pub returns-clause-damage : goal.returns-clause-damage
returns-clause-damage g c =
    λ h none. absurd
    (not_both (touched_of c.put.new.self) (c.put.ensures.changes.touched c.in_ok-put_and_free.ensures.touched)
    none)

pub returns-clause-touched : goal.returns-clause-touched
returns-clause-touched g c = on_done c.put.result
    (λ x done. c.put.ensures.changes.touched c.in_ok-put_and_free.ensures.touched)

pub returns-in_err-put_and_free-clause-puts : goal.returns-in_err-put_and_free-clause-puts
returns-in_err-put_and_free-clause-puts g c = λ map apart content is fork node.
    works_handed (c.in_err-put_and_free.ensures.puts map apart.both g.row.D node) c.from_residual.ensures.1
    (λ why. why)

pub returns-clause-puts : goal.returns-clause-puts
returns-clause-puts g c = λ map apart content is fork node.
    let D = g.row.D in
    let old = pages c.args.cache.now in
    let mid = pages c.put_and_free.new.cache in
    let puts = c.in_ok-put_and_free.ensures.puts map apart.both D node in
    let live = subst IsSome (sym (puts.made.others c.args.page apart.not_first apart.not_second)) apart.live
    in
    let out = a_live_page_was_given_out c.put_and_free.new.cache c.args.page live in
    let others = c.put.ensures.others puts.sound.honest live in
    let written = c.put.ensures.written puts.sound.honest live in
    let named = c.without_link-named.result in
    record {
      sound = c.put.ensures.sound puts.sound live;
      tidy = on_ok c.put.result (λ there. tidy_put D old mid (pages c.put.new.self) c.args.page named puts.tidy
          others there (λ tidy. fork_node D named _ (c.without_link-named.ensures.removed D content is)
          (c.without_link-named.ensures.tidy (node_fork D c.args.pair.now.fork content is (fork tidy)))))
          written;
      made = on_ok c.put.result (λ there. record {
        mid = mid;
        puts = puts.made;
        rest = others;
        named = λ content is. ap (fork_in D) there ∙ c.without_link-named.ensures.removed D content is;
      }) written;
      faults = c.put.ensures.faults puts.sound.honest out.0 out.1;
    }
