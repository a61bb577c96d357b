-- The sets that wait are needed.
use Rattle.bitset.proofs.MemberWalk.{Walked}
use Rattle.price.specs.Needed.{Waiting}
use Rattle.price.proofs.needs.Need.waiting.Given as goal

abbrev pub invariant-loop-e : goal.invariant-loop-e
invariant-loop-e l = Walked l.self.must l.e-iterator.rest (λ e. Unit {0}) × Waiting l.self l.queue
