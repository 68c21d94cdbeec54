-- The pages of a tree that stands are there, so they are live.
use Rattle.page_cache.specs.Cache.{pages}
use Rattle.page_cache.specs.Laws.{a_live_page_was_given_out}
use Rattle.node_page.proofs.StandingLemmas.{pages_are_there}
use Rattle.node_page.proofs.laws.pages_of_a_tree_were_given_out.Goals as goal

pub returns : goal.returns
returns g c = λ dims n t stands some.
    let live = pages_are_there dims (pages c.args.cache.now) t n stands some in
    let given = a_live_page_was_given_out c.args.cache.now n live in (live, given.0, given.1, given.2)
