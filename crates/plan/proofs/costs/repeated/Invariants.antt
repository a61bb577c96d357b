-- `plan::costs::repeated` meets its contract. The loop walks through the members before e; its invariant: none passed is of e's package.
use mathlib.Core.Path.{◌≡◌}
use Rattle.bitset.proofs.MemberWalk.{Walked}
use Rattle.plan.specs.Pairs.{field}
use Rattle.plan.proofs.costs.repeated.Given as goal

abbrev pub invariant-loop-d : goal.invariant-loop-d
invariant-loop-d l = Walked l.set l.d-iterator.rest (λ d. ¬ (field l.entries d 0 ≡ field l.entries l.e 0))
