-- `node::forced_arrows::follow` meets its contract. No row has gained what does not lead to its entry.
use Rattle.node.proofs.Arrows.{followed_more}
use Rattle.node.proofs.forced_arrows.follow.Goals as goal

pub loop-e-preserved : goal.loop-e-preserved
loop-e-preserved c = followed_more c.loop-e.invariant c.follow_by.ensures
