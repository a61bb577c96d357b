-- `search::least::rounds`: no round so far has found a plan, and the buffer is as it was.
use mathlib.Core.Path.{◌≡◌}
use Prim.Native.Nat.{◌+◌, ◌-◌, ◌≤◌}
use Rattle.search.proofs.least.rounds.Given as goal

abbrev pub invariant-loop-node : goal.invariant-loop-node
invariant-loop-node l = record { unwritten : l.plan ≡ l.initial.plan; some : 1 ≤ l.more; small : l.more ≤ l.bound + 1 }

abbrev pub decreases-loop-node : goal.decreases-loop-node
decreases-loop-node l = l.top - l.bound
