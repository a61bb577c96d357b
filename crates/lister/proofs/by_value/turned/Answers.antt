-- `lister::by_value::turned` meets its contract.
use Rattle.lister.proofs.TurnCore.{turned_on}
use Rattle.lister.proofs.by_value.turned.Goals as goal

pub returns : goal.returns
returns c = turned_on _ _ _ _ _ c.answered-answer.ensures _ c.moved_on-next.ensures
