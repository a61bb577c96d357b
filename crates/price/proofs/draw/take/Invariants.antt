-- The amount is taken from each member passed.
use Rattle.price.proofs.Drawing.{Taking}
use Rattle.price.proofs.draw.take.Given as goal

abbrev pub invariant-loop-e : goal.invariant-loop-e
invariant-loop-e l = Taking l.set l.amount l.initial.price l.price l.e-iterator.rest
