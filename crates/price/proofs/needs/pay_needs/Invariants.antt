-- The sets that wait are needed after each that is followed.
use Prim.Native.Nat.{◌-◌}
use Rattle.price.specs.Prices.{Drawn}
use Rattle.price.specs.Needed.{Waiting, Inside}
use Rattle.price.proofs.needs.pay_needs.Given as goal

abbrev pub invariant-loop-group : goal.invariant-loop-group
invariant-loop-group l = Drawn (Inside l.need) l.initial.price l.price l.sum × Waiting l.need l.queue

abbrev pub decreases-loop-group : goal.decreases-loop-group
decreases-loop-group l = 64 - l.queue.first
