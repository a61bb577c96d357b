-- The loop's invariant: the bytes so far write the number.
use Rattle.constraint.proofs.Numbers.{Begun}
use Rattle.constraint.proofs.number.longest.Given as goal

abbrev pub invariant-loop-used : goal.invariant-loop-used
invariant-loop-used l = Begun l.rest l.number l.used-counter
