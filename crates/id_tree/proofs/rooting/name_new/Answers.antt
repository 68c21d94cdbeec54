-- The page given out is not that of the root.
use Rattle.std.proofs.Common.{inl, ◌∙◌, ap, ◌∷◌, []}
use Rattle.page_cache.specs.Laws.{a_live_page_was_given_out}
use Rattle.id_tree.proofs.WorksLemmas.{works_refused}
use Rattle.page_cache.specs.Cache.{pages, touched_of}
use Rattle.id_tree.specs.Tree.{fork_in}
use Rattle.id_tree.proofs.WriteLemmas.{gives_apart, still_live}
use Rattle.id_tree.proofs.TidyLemmas.{fork_node, tidy_put}
use Rattle.id_words.proofs.WriteLemmas.{not_both}
use Rattle.node_page.proofs.NodeLemmas.{at_error}
use Rattle.id_tree.proofs.rooting.name_new.Goals as goal

pub returns-in_err-number-clause-damage : goal.returns-in_err-number-clause-damage
returns-in_err-number-clause-damage g c = λ h none.
    at_error c.from_residual.result c.in_err-number.field-0.0 _
    c.from_residual.ensures.1 (λ n damaged. (c.in_err-number.ensures.damage h n damaged).1)

pub returns-in_err-put-clause-damage : goal.returns-in_err-put-clause-damage
returns-in_err-put-clause-damage g c = λ h none. absurd
    (not_both (touched_of c.put.new.self) (c.put.ensures.changes.touched c.in_ok-number.ensures.touched) none)

pub returns-clause-touched : goal.returns-clause-touched
returns-clause-touched g c = c.put.ensures.changes.touched c.in_ok-number.ensures.touched

pub returns-in_err-number-clause-names : goal.returns-in_err-number-clause-names
returns-in_err-number-clause-names g c = λ map live node.
    works_refused c.in_err-number.field-0.0 c.from_residual.ensures.1 (c.give_page.ensures.sound map)
    (c.in_err-number.ensures.faults map)

pub returns-in_err-put-clause-names : goal.returns-in_err-put-clause-names
returns-in_err-put-clause-names g c = λ map live node.
    let map1 = c.give_page.ensures.sound map in
    let there = still_live (pages c.args.cache.now) (pages c.give_page.new.cache) c.in_ok-number.number
    c.args.root c.args.bytes.now (c.in_ok-number.ensures.given map) live in
    let out = a_live_page_was_given_out c.give_page.new.cache c.args.root there in
    works_refused c.in_err-put.field-0.0 c.from_residual-in_err-put.ensures.1 (c.put.ensures.sound map1 there)
    (inl (c.in_err-put.ensures.faults map1.honest out.0 out.1))

pub returns-clause-names : goal.returns-clause-names
returns-clause-names g c = λ map live node.
    let D = g.row.D in
    let old = pages c.args.cache.now in
    let mid = pages c.give_page.new.cache in
    let number = c.in_ok-number.number in
    let fork = c.only_child-fork.result in
    let given = c.in_ok-number.ensures.given map in
    let map1 = c.give_page.ensures.sound map in
    let apart = gives_apart old mid number c.args.root c.args.bytes.now given live in
    let there = still_live old mid number c.args.root c.args.bytes.now given live in
    let others = c.put.ensures.others map1.honest there in
    let written = c.in_ok-put.ensures.written map1.honest there in
    record {
      sound = c.put.ensures.sound map1 there;
      tidy = tidy_put D old mid (pages c.put.new.self) c.args.root fork (c.in_ok-number.ensures.tidy map D node)
          others written (λ tidy. fork_node D fork
          (record { level = c.args.level; links = (0, number) ∷ [] }) c.only_child-fork.ensures.spelled
          c.only_child-fork.ensures.tidy);
      made = record {
        low = given.low;
        fresh = given.fresh;
        apart = apart;
        others = λ n off other. others n other ∙ given.others n off;
        there = others number apart ∙ given.there;
        named = ap (fork_in D) written ∙ c.only_child-fork.ensures.spelled;
      };
      faults = tt;
    }
