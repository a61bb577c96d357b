-- The prices of the members passed are raised.
use Rattle.price.proofs.Filling.{Raising}
use Rattle.price.proofs.packages.raised.Given as goal

abbrev pub invariant-loop-e : goal.invariant-loop-e
invariant-loop-e l = Raising l.base l.known l.double l.price l.e-iterator.rest
