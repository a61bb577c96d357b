-- The prices of the members passed are raised.
use Rattle.price.proofs.Filling.{raising_on}
use Rattle.price.proofs.packages.raised.Goals as goal

pub loop-e-preserved : goal.loop-e-preserved
loop-e-preserved c = raising_on c.loop-e.invariant c.in-Some.ensures.steps
