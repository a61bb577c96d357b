-- `node::forced_arrows::unloop` meets its contract. The slots of the entries passed have lost what returns to their owners.
use Rattle.node.specs.Arrows.{Unlooped}
use Rattle.node.proofs.forced_arrows.unloop.Given as goal

abbrev pub invariant-loop-e : goal.invariant-loop-e
invariant-loop-e l = Unlooped l.spans.first l.rows l.initial.choices l.choices
