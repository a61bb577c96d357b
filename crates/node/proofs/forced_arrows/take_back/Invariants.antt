-- `node::forced_arrows::take_back` meets its contract. The slots before `s` have lost what is taken back.
use Prim.Native.Nat.{◌+◌}
use lib.ListN.{get_or}
use Rattle.node.specs.Arrows.{TakenBack}
use Rattle.node.proofs.forced_arrows.take_back.Given as goal

abbrev pub invariant-loop-s : goal.invariant-loop-s
invariant-loop-s l = TakenBack (get_or l.spans.first l.owner 0) (get_or l.spans.first (l.owner + 1) 0) l.back l.initial.choices l.choices
