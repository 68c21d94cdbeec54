use Rattle.reinsert.proofs.FarOrders.{far_order-ascends, far_order-unique}
use Rattle.reinsert.proofs.laws.far_order_is_the_only_one.Goals as goal

pub returns-clause-ascends : goal.returns-clause-ascends
returns-clause-ascends c = far_order-ascends

pub returns-clause-unique : goal.returns-clause-unique
returns-clause-unique c = far_order-unique
