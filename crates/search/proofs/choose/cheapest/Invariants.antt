-- `search::choose::cheapest`: the loop walks through the choices, and the best so far is one of them.
use mathlib.Core.Path.{◌≡◌}
use Rattle.bitset.specs.Bits.{Member}
use Rattle.bitset.proofs.MemberWalk.{Walked}
use Rattle.search.proofs.choose.cheapest.Given as goal

abbrev pub invariant-loop-e : goal.invariant-loop-e
invariant-loop-e l =
    record { walk : Walked l.all l.e-iterator.rest (λ e. Unit {0}); its : ¬ (l.all ≡ 0) → Member l.all l.best }
