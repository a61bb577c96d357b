-- `node::clash::equal_row` meets its contract. Of the entries before `f`, the row holds exactly those whose field `k` is that of `e`.
use native.Mathlib.Omega.{arith}
use Rattle.node.proofs.Clashing.{upto_end}
use Rattle.node.proofs.clash.equal_row.Goals as goal

pub bounds-entries-f : goal.bounds-entries-f
bounds-entries-f c = omega (arith, (c.placed-f-end.ensures.each c.loop-f.f).0 c.loop-f-test.true)

pub returns : goal.returns
returns c = upto_end c.loop-f.invariant _ c.placed-f-end.ensures.each (omega arith) c.loop-f-test.false
