-- `lister::ask::backed` meets its contract.
use mathlib.Core.Path.{refl}
use native.Mathlib.Omega.{arith}
use Rattle.lister.specs.Given.{sound_plan, unsound_plan}
use Rattle.lister.proofs.Asks.{judged_sound, judged_unsound}
use Rattle.lister.proofs.ask.backed.Goals as goal

pub returns-in-Ok : goal.returns-in-Ok
returns-in-Ok c = let judged = judged_sound c.in-Ok.ensures in sound_plan c.in-Some.is judged.0 refl judged.1 refl

pub returns-in-Err : goal.returns-in-Err
returns-in-Err c = unsound_plan c.in-Some.is (judged_unsound c.in-Err.ensures) (grind arith)
