-- `search::pick_slot::pick`: of the slots before `s` an open one leads, or there is nothing to do at any of them.
use Rattle.search.proofs.Leading.{Led}
use Rattle.search.proofs.pick_slot.pick.Given as goal

abbrev pub invariant-loop-s : goal.invariant-loop-s
invariant-loop-s l = Led l.slots l.must l.choices l.best l.s
