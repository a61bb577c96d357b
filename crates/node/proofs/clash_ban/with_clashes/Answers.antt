-- `node::clash_ban::with_clashes` meets its contract. The loop walks through the must entries; what is banned so far was banned before, or clashes with one of them.
use Rattle.bitset.proofs.MemberWalk.{walk_at, walk_on}
use Rattle.node.proofs.ClashBanning.{banned_more}
use Rattle.node.proofs.clash_ban.with_clashes.Goals as goal

pub loop-e-preserved : goal.loop-e-preserved
loop-e-preserved c =
    record {
      walked = walk_on c.loop-e.invariant.walked c.in-Some.ensures.steps tt;
      banned = banned_more c.in-Some.e (walk_at c.loop-e.invariant.walked c.in-Some.ensures.steps) c.loop-e.invariant.banned;
    }
