-- `abi::boxplan_first` meets its contract.
use Rattle.abi.specs.Crossing.{answered}
use Rattle.abi.proofs.boxplan_first.Goals as goal

pub returns : goal.returns
returns c =
    answered c.if-set-ne1.false c.if-cost-ne3.false c.first-answer.ensures
    c.hand_out.ensures.0 c.hand_out.ensures.1.0 c.hand_out.ensures.1.1
