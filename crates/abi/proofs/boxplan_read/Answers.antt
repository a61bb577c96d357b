-- `abi::boxplan_read` meets its contract.
use Rattle.abi.specs.Crossing.{answered}
use Rattle.abi.proofs.boxplan_read.Goals as goal

pub returns : goal.returns
returns c = answered c.if-counts-ne2.false c.read-sheet.ensures c.hand_counts.ensures.0 c.hand_counts.ensures.1
