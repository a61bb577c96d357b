-- `plan::cycles::pass` meets its contract. The loop's invariant: the rows passed are done, and the others are as they were; so row k is what it was, and
-- taking it up again changes nothing.
use Rattle.plan.proofs.Closing.{Passing}
use Rattle.plan.proofs.cycles.pass.Given as goal

abbrev pub invariant-loop-row : goal.invariant-loop-row
invariant-loop-row l = Passing l.initial.rows l.k l.row-index l.rows
