-- The least so far is no more than the price of any member passed.
use native.Mathlib.Omega.{arith}
use Rattle.bitset.proofs.MemberWalk.{walk_on}
use Rattle.price.proofs.Drawing.{walk_weaker}
use Rattle.price.proofs.draw.least_of.Goals as goal

pub loop-e-preserved : goal.loop-e-preserved
loop-e-preserved c =
    walk_on (walk_weaker c.loop-e.invariant (λ e h. omega (arith, h))) c.in-Some.ensures.steps (omega arith)
