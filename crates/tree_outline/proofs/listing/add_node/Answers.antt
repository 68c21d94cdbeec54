-- The goals of `add_node` that are proved by hand.
use Rattle.std.proofs.Common.{refl}
use Rattle.page_file.specs.Fault.{IsOfDevice}
use Rattle.page_file.specs.declared.fault.Fault.TheVariants as fault
use Rattle.node_page.proofs.NodeLemmas.{at_error}
use Rattle.tree_outline.proofs.WalkLemmas.{asks_and_refuses_memory}
use Rattle.tree_outline.proofs.listing.add_node.Goals as goal

pub returns-in_err-node-clause-given_there : goal.returns-in_err-node-clause-given_there
returns-in_err-node-clause-given_there g c = λ h content there level.
    at_error c.from_residual.result c.in_err-node.field-0.0 IsOfDevice c.from_residual.ensures.1
    (c.in_err-node.ensures.given_there h content there level)

pub returns-in_err-push-clause-asks : goal.returns-in_err-push-clause-asks
returns-in_err-push-clause-asks g c =
    asks_and_refuses_memory c.args.cache.now c.read_node.new.cache fault.Memory
    c.from_residual-in_err-push.result c.from_residual-in_err-push.ensures.1 refl c.in_ok-node.ensures.asks
