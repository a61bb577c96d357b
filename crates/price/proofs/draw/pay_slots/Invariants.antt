-- What is drawn for the members passed is drawn from every set that has a choice of each slot.
use Rattle.bitset.proofs.MemberWalk.{Walked}
use Rattle.price.specs.Prices.{Serves, Drawn}
use Rattle.price.proofs.draw.pay_slots.Given as goal

abbrev pub invariant-loop-e : goal.invariant-loop-e
invariant-loop-e l = Walked l.must l.e-iterator.rest (λ e. Unit {0}) × Drawn (Serves l.spans.first l.must l.choices) l.initial.price l.price l.sum
