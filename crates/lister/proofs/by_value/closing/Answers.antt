-- `lister::by_value::closing` meets its contract.
use Rattle.lister.proofs.TurnCore.{closing_by, closing_nine, closing_eleven}
use Rattle.lister.proofs.by_value.closing.Goals as goal

pub returns-in-Err : goal.returns-in-Err
returns-in-Err c = closing_by _ _ _ c.in-Err.ensures

pub returns-then-stage-gt2 : goal.returns-then-stage-gt2
returns-then-stage-gt2 c = closing_nine _ _ _ c.in_default.ensures c.if-stage-gt2.true

pub returns : goal.returns
returns c = closing_eleven _ _ _ c.in_default.ensures c.if-stage-gt2.false
