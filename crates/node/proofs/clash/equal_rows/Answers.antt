-- `node::clash::equal_rows` meets its contract. The rows before `e` are stored.
use native.Mathlib.Omega.{arith}
use Rattle.node.proofs.Clashing.{rows_none, rows_end}
use Rattle.node.proofs.clash.equal_rows.Goals as goal

pub loop-e-init : goal.loop-e-init
loop-e-init c = rows_none _ _

pub returns : goal.returns
returns c = rows_end _ _ (λ e p. omega (arith, (c.placed-e-end.ensures.each e).1 p, c.loop-e-test.false)) c.loop-e.invariant
