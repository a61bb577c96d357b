-- `node::forced_arrows::arrows` meets its contract. The entries passed have given their arrows.
use Rattle.node.specs.Arrows.{Sources}
use Rattle.node.proofs.forced_arrows.arrows.Given as goal

abbrev pub invariant-loop-e : goal.invariant-loop-e
invariant-loop-e l = Sources l.spans.first l.choices l.rows
