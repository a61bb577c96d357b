-- `node::clash::shared` meets its contract. The rows before `e` are stored.
use Rattle.node.proofs.Clashing.{SharedTo}
use Rattle.node.proofs.clash.shared.Given as goal

abbrev pub invariant-loop-e : goal.invariant-loop-e
invariant-loop-e l = SharedTo l.one l.other l.e l.all
