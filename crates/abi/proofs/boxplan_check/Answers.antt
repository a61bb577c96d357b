-- `abi::boxplan_check` meets its contract.
use Rattle.abi.specs.Crossing.{answered}
use Rattle.abi.proofs.boxplan_check.Goals as goal

pub returns : goal.returns
returns c =
    answered c.if-condition-ne1.false c.if-cost-ne3.false c.check-checked.ensures
    c.hand_checked.ensures.0 c.hand_checked.ensures.1.0 c.hand_checked.ensures.1.1
