-- `node::within_reach::out_of_reach` meets its contract. The loop's invariant: the reach has all that must be there, and the choices of each entry passed. The measure is
-- the number of entries not passed.
use native.Mathlib.Omega.{arith}
use Rattle.node.proofs.Reaching.{grown_more, left_below, left_less, out_rest}
use Rattle.node.proofs.within_reach.out_of_reach.Goals as goal

pub taken-reach-requires : goal.taken-reach-requires
taken-reach-requires c = left_below c.loop-reach.invariant c.loop-reach-test.true c.lowest-e.ensures

pub loop-reach-smaller : goal.loop-reach-smaller
loop-reach-smaller c = left_less c.loop-reach.invariant c.loop-reach-test.true c.lowest-e.ensures c.with-passed.ensures

pub loop-reach-preserved : goal.loop-reach-preserved
loop-reach-preserved c = grown_more c.loop-reach.invariant (omega arith, omega arith) c.with-passed.ensures c.taken-reach.ensures

pub returns : goal.returns
returns c slots spans = out_rest c.loop-reach.invariant c.loop-reach-test.false spans
