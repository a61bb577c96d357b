-- `node::clash::shared` meets its contract. The rows before `e` are stored.
use native.Mathlib.Omega.{arith}
use Rattle.node.proofs.Clashing.{rows_none, rows_end, shared_more}
use Rattle.node.proofs.clash.shared.Goals as goal

pub loop-e-init : goal.loop-e-init
loop-e-init c entries = rows_none _ _

pub loop-e-preserved : goal.loop-e-preserved
loop-e-preserved c = shared_more c.loop-e-test.true c.loop-e.invariant assumption

pub returns : goal.returns
returns c entries = rows_end _ _ (λ e p. omega (arith, p.1, c.loop-e-test.false)) (c.loop-e.invariant entries)
