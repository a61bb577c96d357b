-- The loop's invariant: the set has those of the first e keys that lie in the range.
use Rattle.constraint.proofs.Picked.{ChosenOf}
use Rattle.constraint.proofs.keys.chosen.Given as goal

abbrev pub invariant-loop-e : goal.invariant-loop-e
invariant-loop-e l = ChosenOf l.keys l.range.low l.range.high l.e l.set
