-- What the slots passed lead to is drawn for, and waits.
use mathlib.Core.Path.{◌≡◌}
use Rattle.price.specs.Prices.{Drawn}
use Rattle.price.specs.Needed.{Waiting, Inside}
use Rattle.price.proofs.needs.Need.follow_all.Given as goal

abbrev pub invariant-loop-s : goal.invariant-loop-s
invariant-loop-s l = Drawn (Inside l.self) l.initial.price l.price l.sum × Waiting l.self l.queue × (l.queue.first ≡ l.initial.queue.first)
