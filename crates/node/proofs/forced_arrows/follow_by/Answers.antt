-- `node::forced_arrows::follow_by` meets its contract. What leads to what leads to an entry leads to it.
use Rattle.node.proofs.Arrows.{followed_pass}
use Rattle.node.proofs.forced_arrows.follow_by.Goals as goal

pub returns-then-rows-k-ne0 : goal.returns-then-rows-k-ne0
returns-then-rows-k-ne0 c = followed_pass c.pass.ensures
