-- The packages of the members passed are named.
use Rattle.price.proofs.Filling.{Naming}
use Rattle.price.proofs.packages.packages_of.Given as goal

abbrev pub invariant-loop-e : goal.invariant-loop-e
invariant-loop-e l = Naming l.set l.alike l.found l.e-iterator.rest
