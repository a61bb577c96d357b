-- `node::within_reach::taken` meets its contract. The choices of the slots before `s` are taken.
use lib.ListN.{get_or}
use Rattle.node.specs.Reaching.{Taken}
use Rattle.node.proofs.within_reach.taken.Given as goal

abbrev pub invariant-loop-s : goal.invariant-loop-s
invariant-loop-s l = Taken (get_or l.spans.first l.e 0) l.s l.choices l.reach l.found
