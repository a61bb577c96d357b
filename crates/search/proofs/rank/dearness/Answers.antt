-- `search::rank::dearness` returns: the loop walks through the choices.
use Rattle.bitset.proofs.MemberWalk.{walk_on}
use Rattle.search.proofs.rank.dearness.Goals as goal

pub loop-e-preserved : goal.loop-e-preserved
loop-e-preserved c = walk_on c.loop-e.invariant c.in-Some.ensures.steps tt
