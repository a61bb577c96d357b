-- `plan::cycles::steps` meets its contract. The loop's invariant: the rows hold the steps of the slots passed.
use Rattle.pacsolve.specs.Plan.{plan_of}
use Rattle.plan.specs.Posing.{problem_by}
use Rattle.plan.proofs.Trails.{Linking}
use Rattle.plan.proofs.cycles.steps.Given as goal

abbrev pub invariant-loop-s : goal.invariant-loop-s
invariant-loop-s l = Linking (problem_by l.problem) (plan_of l.plan) l.s l.rows
