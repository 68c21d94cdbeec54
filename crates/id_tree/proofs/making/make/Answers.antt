-- The page that is given out is a table of no objects.
use Rattle.page_cache.specs.Cache.{pages}
use Rattle.id_tree.proofs.ResultLemmas.{if_ok, if_err}
use Rattle.id_tree.proofs.RootLemmas.{made}
use Rattle.id_tree.proofs.TidyLemmas.{fork_node}
use Rattle.std.proofs.Common.{[]}
use Rattle.id_tree.proofs.making.make.Goals as goal

pub returns-clause-made : goal.returns-clause-made
returns-clause-made g c = λ map.
    let old = pages c.args.cache.now in
    let new = pages c.give_page.new.cache in
    if_ok c.give_page.result _ _
    (λ root given. made g.row.D old new root c.no_child.result given c.no_child.ensures.spelled)
    (c.give_page.ensures.given map)

pub returns-clause-tidy : goal.returns-clause-tidy
returns-clause-tidy g c = λ map. c.give_page.ensures.tidy map g.row.D
    (λ tidy. fork_node g.row.D c.no_child.result (record { level = 1; links = [] }) c.no_child.ensures.spelled
    c.no_child.ensures.tidy)

pub returns-clause-damage : goal.returns-clause-damage
returns-clause-damage g c = λ h.
    if_err c.give_page.result _ _
    (λ f breaks n damaged. (breaks n damaged).0)
    (c.give_page.ensures.damage h)
