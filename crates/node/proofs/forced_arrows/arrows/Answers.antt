-- `node::forced_arrows::arrows` meets its contract. The entries passed have given their arrows.
use borrow.Author.Rules.{rules}
use Prim.Native.Nat.{◌<◌}
use Rattle.node.proofs.Arrows.{sources_none, sources_more}
use Rattle.node.proofs.forced_arrows.arrows.Goals as goal

pub loop-e-init : goal.loop-e-init
loop-e-init c = sources_none

pub loop-e-preserved : goal.loop-e-preserved
loop-e-preserved c = let below : c.in-Some.e < 64 = search rules in sources_more below c.loop-e.invariant c.point_all.ensures
