-- The fork is named once both halves are put.
use Rattle.std.proofs.Common.{inl, ◌∙◌, ap}
use Rattle.page_cache.specs.Laws.{a_live_page_was_given_out}
use Rattle.id_tree.proofs.WorksLemmas.{works_handed, works_refused}
use Rattle.page_cache.specs.Cache.{pages, touched_of}
use Rattle.id_tree.specs.Tree.{fork_in}
use Rattle.id_tree.proofs.SplitLemmas.{given_live}
use Rattle.id_tree.proofs.TidyLemmas.{fork_node, node_fork, tidy_put}
use Rattle.id_words.proofs.WriteLemmas.{not_both}
use Rattle.node_page.proofs.NodeLemmas.{at_error}
use Rattle.id_tree.proofs.splitting.put_cut.Goals as goal

pub returns-in_err-number-clause-damage : goal.returns-in_err-number-clause-damage
returns-in_err-number-clause-damage g c = λ h none.
    at_error c.from_residual.result c.in_err-number.field-0.0 _
    c.from_residual.ensures.1 (c.in_err-number.ensures.damage h none)

pub returns-in_err-put-clause-damage : goal.returns-in_err-put-clause-damage
returns-in_err-put-clause-damage g c = λ h none. absurd
    (not_both (touched_of c.put.new.self) (c.put.ensures.changes.touched c.in_ok-number.ensures.touched) none)

pub returns-clause-touched : goal.returns-clause-touched
returns-clause-touched g c = c.put.ensures.changes.touched c.in_ok-number.ensures.touched

pub returns-in_err-number-clause-splits : goal.returns-in_err-number-clause-splits
returns-in_err-number-clause-splits g c = λ map live_child live_page apart content is node cut.
    works_handed (c.in_err-number.ensures.gives map live_child g.row.D cut) c.from_residual.ensures.1
    (λ why. why)

pub returns-in_err-put-clause-splits : goal.returns-in_err-put-clause-splits
returns-in_err-put-clause-splits g c = λ map live_child live_page apart content is node cut.
    let gives = c.in_ok-number.ensures.gives map live_child g.row.D cut in
    let there = given_live (pages c.args.cache.now) (pages c.give_and_put.new.cache) c.args.child
    c.in_ok-number.number c.args.page _ _ gives.made live_page apart in
    let out = a_live_page_was_given_out c.give_and_put.new.cache c.args.page there in
    works_refused c.in_err-put.field-0.0 c.from_residual-in_err-put.ensures.1
    (c.put.ensures.sound gives.sound there) (inl (c.in_err-put.ensures.faults gives.sound.honest out.0 out.1))

pub returns-clause-splits : goal.returns-clause-splits
returns-clause-splits g c = λ map live_child live_page apart content is node cut.
    let D = g.row.D in
    let old = pages c.args.cache.now in
    let mid = pages c.give_and_put.new.cache in
    let gives = c.in_ok-number.ensures.gives map live_child D cut in
    let there = given_live old mid c.args.child c.in_ok-number.number c.args.page _ _ gives.made live_page apart
    in
    let others = c.put.ensures.others gives.sound.honest there in
    let written = c.in_ok-put.ensures.written gives.sound.honest there in
    let named = c.with_link-named.result in
    record {
      sound = c.put.ensures.sound gives.sound there;
      tidy = tidy_put D old mid (pages c.put.new.self) c.args.page named gives.tidy others written
          (λ tidy. fork_node D named _ (c.with_link-named.ensures.linked D content is)
          (c.with_link-named.ensures.tidy (node_fork D c.args.fork.now content is (node tidy))));
      made = record {
        mid = mid;
        given = gives.made;
        others = others;
        named = λ content is. ap (fork_in D) written ∙ c.with_link-named.ensures.linked D content is;
      };
      faults = tt;
    }
