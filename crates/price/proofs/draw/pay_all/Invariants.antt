-- The price of each member passed is drawn.
use Rattle.price.proofs.Drawing.{Emptying}
use Rattle.price.proofs.draw.pay_all.Given as goal

abbrev pub invariant-loop-e : goal.invariant-loop-e
invariant-loop-e l = Emptying l.set l.initial.price l.price l.sum l.e-iterator.rest
