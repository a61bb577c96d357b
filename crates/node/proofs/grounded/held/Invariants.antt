-- `node::grounded::held` meets its contract. Each slot before `s` has a choice in the footing.
use Prim.Native.Nat.{ℕ, ◌≤◌, ◌<◌}
use lib.ListN.{get_or}
use Rattle.node.specs.Grounding.{Apart}
use Rattle.node.proofs.grounded.held.Given as goal

abbrev pub invariant-loop-s : goal.invariant-loop-s
invariant-loop-s l = (t : ℕ) → get_or l.spans.first l.e 0 ≤ t → t < l.s → ¬ Apart (get_or l.choices t 0) l.footing
