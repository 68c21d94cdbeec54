-- A page is given out, and then written.
use Rattle.std.proofs.Common.{None}
use Rattle.page_cache.specs.Calls.{changes_and_refuses, changes_in_turn}
use Rattle.layer_pages.proofs.making.make_leaf.Goals as goal

pub returns-clause-changes : goal.returns-clause-changes
returns-clause-changes g c =
    changes_in_turn c.args.cache.now c.allocate.new.self c.write_node.new.cache None
    c.in_ok-page.ensures.changes c.in_ok-write_node.ensures.changes

pub returns-in_err-write_node-clause-changes : goal.returns-in_err-write_node-clause-changes
returns-in_err-write_node-clause-changes g c =
    changes_and_refuses c.args.cache.now c.allocate.new.self c.write_node.new.cache
    c.in_err-write_node.field-0.0 c.from_residual-in_err-write_node.result
    c.from_residual-in_err-write_node.ensures.1 c.in_ok-page.ensures.changes c.in_err-write_node.ensures.changes
