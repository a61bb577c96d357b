-- `node::forced_arrows::point_all` meets its contract. The slots before `s` have given their arrows.
use Prim.Native.Nat.{◌+◌}
use lib.ListN.{get_or}
use Rattle.node.specs.Arrows.{PointedAll}
use Rattle.node.proofs.forced_arrows.point_all.Given as goal

abbrev pub invariant-loop-s : goal.invariant-loop-s
invariant-loop-s l = PointedAll (get_or l.spans.first l.owner 0) (get_or l.spans.first (l.owner + 1) 0) l.owner l.choices l.initial.rows l.rows
