-- `search::rank::dearness`: the loop walks through the choices.
use Rattle.bitset.proofs.MemberWalk.{Walked}
use Rattle.search.proofs.rank.dearness.Given as goal

abbrev pub invariant-loop-e : goal.invariant-loop-e
invariant-loop-e l = Walked l.choices l.e-iterator.rest (λ e. Unit {0})
