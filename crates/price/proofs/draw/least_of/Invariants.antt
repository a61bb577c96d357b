-- The least so far is no more than the price of any member passed.
use Prim.Native.Nat.{◌≤◌}
use lib.ListN.{get_or}
use Rattle.bitset.proofs.MemberWalk.{Walked}
use Rattle.price.proofs.draw.least_of.Given as goal

abbrev pub invariant-loop-e : goal.invariant-loop-e
invariant-loop-e l = Walked l.set l.e-iterator.rest (λ e. l.least ≤ get_or l.price e 0)
