-- Of each member passed the choices of a slot are in the union.
use Rattle.bitset.proofs.MemberWalk.{Walked}
use Rattle.price.proofs.Needed.{Holds}
use Rattle.price.proofs.needs.Need.together.Given as goal

abbrev pub invariant-loop-e : goal.invariant-loop-e
invariant-loop-e l = Walked l.group l.e-iterator.rest (Holds l.self l.all)
