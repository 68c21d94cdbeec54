-- The goals of `a_replaced_node_stands` that are proved by hand.
use Rattle.node_page.proofs.StandingLemmas.{a_replaced_node_stands}
use Rattle.node_page.proofs.laws.a_replaced_node_stands.Goals as goal

pub returns : goal.returns
returns c = a_replaced_node_stands
