-- `plan::judging::judge` meets its contract: a first fault is answered as it is.
use mathlib.Core.Path.{refl}
use Rattle.plan.specs.Judged.{broken}
use Rattle.plan.proofs.judging.judge.Goals as goal

pub returns-in-Some : goal.returns-in-Some
returns-in-Some c = broken (c.in-Some.ensures c.args.problem.now.objectives.now) refl
