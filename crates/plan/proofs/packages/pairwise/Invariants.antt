-- `plan::packages::pairwise` meets its contract. The loop walks through the members; each one passed may stand beside every other. The measure is the number of
-- members left.
use Rattle.bitset.specs.Bits.{count}
use Rattle.bitset.proofs.MemberWalk.{Walked}
use Rattle.plan.proofs.PairTests.{Pairwise}
use Rattle.plan.proofs.packages.pairwise.Given as goal

abbrev pub invariant-loop-d : goal.invariant-loop-d
invariant-loop-d l = Walked l.set l.walk.rest (Pairwise l.entries l.mode l.set)

abbrev pub decreases-loop-d : goal.decreases-loop-d
decreases-loop-d l = count l.walk.rest
