-- `node::within_reach::taken` meets its contract. The choices of the slots before `s` are taken.
use Rattle.node.proofs.Reaching.{taken_more}
use Rattle.node.proofs.within_reach.taken.Goals as goal

pub loop-s-preserved : goal.loop-s-preserved
loop-s-preserved c = taken_more c.loop-s.invariant
