-- The amount is taken from each member passed.
use native.Mathlib.Omega.{arith}
use Rattle.bitset.proofs.Least.{some_member}
use Rattle.price.proofs.Drawing.{taking_on, taking_end}
use Rattle.price.proofs.draw.take.Goals as goal

pub loop-e-preserved : goal.loop-e-preserved
loop-e-preserved c = taking_on c.loop-e.invariant c.in-Some.ensures.steps (omega arith) c.requires.enough

pub returns : goal.returns
returns c = taking_end c.loop-e.invariant c.in-None.ensures.steps.0 (omega arith) (some_member _ c.requires.some)
