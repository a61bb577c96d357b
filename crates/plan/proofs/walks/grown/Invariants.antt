-- `plan::walks::grown` meets its contract. The loop's invariant: the root is reached, and a walk leads from it to all that is. A round that adds something leaves
-- less room in 64 bits, which is the measure; one that adds nothing has reached all.
use Prim.Native.Nat.{◌-◌}
use Rattle.bitset.specs.Bits.{count}
use Rattle.pacsolve.specs.Plan.{plan_of}
use Rattle.plan.specs.Posing.{problem_by}
use Rattle.plan.proofs.Reaching.{Reaching}
use Rattle.plan.proofs.walks.grown.Given as goal

abbrev pub invariant-loop-reach : goal.invariant-loop-reach
invariant-loop-reach l = Reaching (problem_by l.problem) (plan_of l.plan) l.reach

abbrev pub decreases-loop-reach : goal.decreases-loop-reach
decreases-loop-reach l = 64 - count l.reach
