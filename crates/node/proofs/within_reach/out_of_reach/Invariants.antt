-- `node::within_reach::out_of_reach` meets its contract. The loop's invariant: the reach has all that must be there, and the choices of each entry passed. The measure is
-- the number of entries not passed.
use Prim.Native.Nat.{◌-◌}
use Rattle.bitset.specs.Bits.{count}
use Rattle.node.proofs.Reaching.{Grown}
use Rattle.node.proofs.within_reach.out_of_reach.Given as goal

abbrev pub invariant-loop-reach : goal.invariant-loop-reach
invariant-loop-reach l = Grown l.spans.first l.choices l.must l.reach l.passed

abbrev pub decreases-loop-reach : goal.decreases-loop-reach
decreases-loop-reach l = 64 - count l.passed
