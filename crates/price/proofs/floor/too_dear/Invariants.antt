-- Of the members passed those that are in are dear.
use Rattle.bitset.proofs.MemberWalk.{Walked}
use Rattle.price.specs.Floor.{Dear}
use Rattle.price.proofs.floor.too_dear.Given as goal

abbrev pub invariant-loop-e : goal.invariant-loop-e
invariant-loop-e l = Walked l.set l.e-iterator.rest (λ e. Unit {0}) × Dear l.price l.limit l.dear
