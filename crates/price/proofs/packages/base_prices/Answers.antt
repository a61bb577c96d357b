-- The prices below e are set.
use Rattle.price.proofs.Filling.{filling_start}
use Rattle.price.proofs.packages.base_prices.Goals as goal

pub loop-e-init : goal.loop-e-init
loop-e-init c = filling_start _
