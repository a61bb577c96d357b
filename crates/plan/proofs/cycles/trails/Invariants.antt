-- `plan::cycles::trails` meets its contract. The loop walks through the members; its invariant: the rows hold the walks whose inner entries are members passed.
use Rattle.pacsolve.specs.Plan.{plan_of}
use Rattle.plan.specs.Posing.{problem_by}
use Rattle.bitset.proofs.MemberWalk.{Walked}
use Rattle.plan.proofs.Trails.{Closing}
use Rattle.plan.proofs.cycles.trails.Given as goal

abbrev pub invariant-loop-k : goal.invariant-loop-k
invariant-loop-k l = Walked l.plan.set l.k-iterator.rest (λ e. Unit {0}) × Closing (problem_by l.problem) (plan_of l.plan) l.k-iterator.rest l.rows
