-- `lister::by_value::answered` meets its contract.
use native.Mathlib.Omega.{arith}
use mathlib.Core.Path.{refl}
use Rattle.lister.specs.Turns.{the_first, the_next, asked, past_running}
use Rattle.lister.proofs.TurnCore.{closing_at}
use Rattle.lister.proofs.by_value.answered.Goals as goal

pub returns-in-0 : goal.returns-in-0
returns-in-0 c = asked (the_first (omega arith)) c.ask.ensures

pub returns-in-1 : goal.returns-in-1
returns-in-1 c = asked (the_next (omega arith)) c.ask-in-1.ensures

pub returns-in_default : goal.returns-in_default
returns-in_default c = past_running (omega arith) (closing_at c.closing.ensures (omega arith)) refl refl
