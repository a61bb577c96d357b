-- `node::forced_arrows::unloop` meets its contract. The slots of the entries passed have lost what returns to their owners.
use borrow.Author.Rules.{rules}
use Prim.Native.Nat.{◌<◌}
use Rattle.node.proofs.Arrows.{unlooped_more}
use Rattle.node.proofs.forced_arrows.unloop.Goals as goal

pub loop-e-preserved : goal.loop-e-preserved
loop-e-preserved c =
    let below : c.in-Some.e < 64 = search rules in unlooped_more below c.loop-e.invariant c.with-back.ensures c.take_back.ensures
