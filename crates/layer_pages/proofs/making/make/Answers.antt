-- An empty leaf, and then an empty table, are a layer of no objects.
use Rattle.std.proofs.Common.{None}
use Rattle.page_cache.specs.Cache.{pages}
use Rattle.page_cache.specs.Calls.{changes_and_refuses, changes_in_turn}
use Rattle.layer_pages.proofs.MadeLemmas.{layer_made}
use Rattle.layer_pages.proofs.making.make.Goals as goal

pub returns-clause-made : goal.returns-clause-made
returns-clause-made g c = λ sound most.
    layer_made g.row.D most (pages c.args.cache.now) (pages c.make_leaf.new.cache) (pages c.make.new.cache)
    c.in_ok-page.page c.in_ok-ids_root.ids_root (c.in_ok-page.ensures.fresh sound)
    (c.in_ok-page.ensures.leaf sound) (c.in_ok-page.ensures.others sound) c.args.kind
    (c.in_ok-ids_root.ensures.made (c.in_ok-page.ensures.sound sound))

pub returns-in_err-ids_root-clause-changes : goal.returns-in_err-ids_root-clause-changes
returns-in_err-ids_root-clause-changes g c =
    changes_and_refuses c.args.cache.now c.make_leaf.new.cache c.make.new.cache c.in_err-ids_root.field-0.0
    c.from_residual-in_err-ids_root.result c.from_residual-in_err-ids_root.ensures.1
    c.in_ok-page.ensures.changes c.in_err-ids_root.ensures.changes

pub returns-clause-changes : goal.returns-clause-changes
returns-clause-changes g c =
    changes_in_turn c.args.cache.now c.make_leaf.new.cache c.make.new.cache None
    c.in_ok-page.ensures.changes c.in_ok-ids_root.ensures.changes
