-- What is drawn for the slots passed is drawn from every set that has a choice of each slot.
use Rattle.price.specs.Prices.{ServesSpan, Drawn}
use Rattle.price.proofs.draw.pay_entry.Given as goal

abbrev pub invariant-loop-s : goal.invariant-loop-s
invariant-loop-s l = Drawn (ServesSpan l.start l.end l.choices) l.initial.price l.price l.sum
