-- `node::settle::settle_entry` meets its contract: the slots before `s` are settled.
use native.Mathlib.Omega.{arith}
use Rattle.node.proofs.Settling.{settled_more}
use Rattle.node.proofs.settle.settle_entry.Goals as goal

pub returns-in_err-known : goal.returns-in_err-known
returns-in_err-known c slots old before of settled =
    let its = of c.loop-s.s (omega arith) c.loop-s-test.true in
    rw c.from_residual.ensures
    (settled_more slots (c.loop-s.invariant slots old before of settled) its.0 c.all_but-left.ensures (rw its.1 c.in_err-known.ensures))

pub loop-s-preserved : goal.loop-s-preserved
loop-s-preserved c slots old before of settled =
    let its = of c.loop-s.s (omega arith) c.loop-s-test.true in
    settled_more slots (c.loop-s.invariant slots old before of settled) its.0 c.all_but-left.ensures (rw its.1 c.in_ok-known.ensures)
