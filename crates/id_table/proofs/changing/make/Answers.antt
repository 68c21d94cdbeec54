-- A table of its kind is made.
use Rattle.page_cache.specs.Cache.{pages}
use Rattle.id_table.specs.declared.kind.TableKind.TheVariants.{Chains, Tree}
use Rattle.id_table.proofs.StepLemmas.{chains_made, if_made, tidy_of, tree_made}
use Rattle.id_table.proofs.changing.make.Goals as goal

pub returns-in-Chains-clause-made : goal.returns-in-Chains-clause-made
returns-in-Chains-clause-made g c = λ sound.
    if_made c.make.result
    (λ page. chains_made g.row.D (pages c.args.cache.now) (pages c.make.new.cache) c.args.kind page c.in-Chains.is)
    (c.make.ensures.made sound)

pub returns-in-Tree-clause-made : goal.returns-in-Tree-clause-made
returns-in-Tree-clause-made g c = λ sound.
    if_made c.make-in-Tree.result
    (λ page. tree_made g.row.D (pages c.args.cache.now) (pages c.make-in-Tree.new.cache) c.args.kind page c.in-Tree.is)
    (c.make-in-Tree.ensures.made sound)

pub returns-in-Chains-clause-tidy : goal.returns-in-Chains-clause-tidy
returns-in-Chains-clause-tidy g c = λ sound.
    tidy_of g.row.D c.args.kind Chains (pages c.args.cache.now) (pages c.make.new.cache) c.make.result
    c.in-Chains.is (c.make.ensures.tidy sound)

pub returns-in-Tree-clause-tidy : goal.returns-in-Tree-clause-tidy
returns-in-Tree-clause-tidy g c = λ sound.
    tidy_of g.row.D c.args.kind Tree (pages c.args.cache.now) (pages c.make-in-Tree.new.cache) c.make-in-Tree.result
    c.in-Tree.is (c.make-in-Tree.ensures.tidy sound)
