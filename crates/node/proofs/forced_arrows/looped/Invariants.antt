-- `node::forced_arrows::looped` meets its contract. What is found so far leads to itself.
use Rattle.node.specs.Arrows.{Loops}
use Rattle.node.proofs.forced_arrows.looped.Given as goal

abbrev pub invariant-loop-e : goal.invariant-loop-e
invariant-loop-e l = Loops l.rows l.out
