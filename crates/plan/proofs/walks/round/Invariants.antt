-- `plan::walks::round` meets its contract. The loop's invariant is a round at its slot.
use Rattle.pacsolve.specs.Plan.{plan_of}
use Rattle.plan.specs.Posing.{problem_by}
use Rattle.plan.proofs.Reaching.{Rounding}
use Rattle.plan.proofs.walks.round.Given as goal

abbrev pub invariant-loop-s : goal.invariant-loop-s
invariant-loop-s l = Rounding (problem_by l.problem) (plan_of l.plan) l.reach l.s l.next
