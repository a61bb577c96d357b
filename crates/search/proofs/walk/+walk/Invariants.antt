-- `search::walk::walk`: the loop's invariant is `Looping`; what falls, from call to call and from turn to turn, is `remaining`.
use Rattle.plan.specs.Posing.{problem_by}
use Rattle.node.specs.Sought.{asked_of}
use Rattle.search.proofs.Falls.{remaining}
use Rattle.search.proofs.Looping.{Looping}
use Rattle.search.proofs.walk.+walk.Given as goal

abbrev pub decreases-walk : goal.decreases-walk
decreases-walk l = remaining l.node.must l.choices.now

abbrev pub invariant-loop-next : goal.invariant-loop-next
invariant-loop-next l = Looping (problem_by l.problem) (asked_of l.given) l.initial.at l.initial.left l.initial.found l.initial.plan l.at l.left l.found l.plan

abbrev pub decreases-loop-next : goal.decreases-loop-next
decreases-loop-next l = remaining l.at.must l.left
