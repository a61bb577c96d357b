-- The sets that wait are needed.
use Rattle.price.specs.Needed.{Waiting}
use Rattle.price.proofs.needs.Need.note_slots.Given as goal

abbrev pub invariant-loop-s : goal.invariant-loop-s
invariant-loop-s l = Waiting l.self l.queue
