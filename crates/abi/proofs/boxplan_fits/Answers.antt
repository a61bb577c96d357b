-- `abi::boxplan_fits` meets its contract.
use Rattle.abi.specs.Crossing.{answered}
use Rattle.abi.proofs.boxplan_fits.Goals as goal

pub returns : goal.returns
returns c = answered c.if-fit-ne1.false c.fits-reading.ensures c.hand_fit.ensures.0 c.hand_fit.ensures.1
