-- `plan::packages::beside_all` meets its contract. The loop walks through the others; of each one passed, d may stand beside it.
use Rattle.plan.specs.Pairs.{Beside}
use Rattle.bitset.proofs.MemberWalk.{Walked}
use Rattle.plan.proofs.packages.beside_all.Given as goal

abbrev pub invariant-loop-e : goal.invariant-loop-e
invariant-loop-e l = Walked l.others l.e-iterator.rest (λ e. Beside l.entries l.mode l.d e)
