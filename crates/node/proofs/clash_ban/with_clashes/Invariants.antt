-- `node::clash_ban::with_clashes` meets its contract. The loop walks through the must entries; what is banned so far was banned before, or clashes with one of them.
use Rattle.bitset.proofs.MemberWalk.{Walked}
use Rattle.node.specs.Clashing.{Banned}
use Rattle.node.proofs.clash_ban.with_clashes.Given as goal

abbrev pub invariant-loop-e : goal.invariant-loop-e
invariant-loop-e l = record { walked : Walked l.must l.e-iterator.rest (λ e. Unit {0}); banned : Banned l.ban l.must l.clash l.all }
