-- `node::order::cheaper` meets its contract.
use Rattle.node.proofs.Preceding.{cost_lower}
use Rattle.node.proofs.order.cheaper.Goals as goal

pub returns : goal.returns
returns c = cost_lower c.args.a c.args.b assumption
