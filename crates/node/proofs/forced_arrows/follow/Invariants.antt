-- `node::forced_arrows::follow` meets its contract. No row has gained what does not lead to its entry.
use Rattle.node.specs.Arrows.{Followed}
use Rattle.node.proofs.forced_arrows.follow.Given as goal

abbrev pub invariant-loop-e : goal.invariant-loop-e
invariant-loop-e l = Followed l.initial.rows l.rows
