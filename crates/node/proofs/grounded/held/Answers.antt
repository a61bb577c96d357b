-- `node::grounded::held` meets its contract. Each slot before `s` has a choice in the footing.
use Rattle.basis.proofs.Answers.{fails}
use Rattle.node.proofs.Stores.{span_more}
use Rattle.node.proofs.grounded.held.Goals as goal

pub loop-s-preserved : goal.loop-s-preserved
loop-s-preserved c = span_more _ c.loop-s.invariant (fails c.apart.ensures c.if-apart.false)
