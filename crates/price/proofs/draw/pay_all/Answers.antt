-- The price of each member passed is drawn.
use native.Mathlib.Omega.{arith}
use Rattle.price.proofs.Drawing.{emptying_fits, emptying_on}
use Rattle.price.proofs.draw.pay_all.Goals as goal

pub overflow_add-sum : goal.overflow_add-sum
overflow_add-sum c = omega (arith, emptying_fits c.loop-e.invariant c.in-Some.ensures.steps c.requires)

pub loop-e-preserved : goal.loop-e-preserved
loop-e-preserved c = emptying_on c.loop-e.invariant c.in-Some.ensures.steps c.requires
