-- Of the members passed those that are in are dear.
use Rattle.bitset.proofs.MemberWalk.{walk_on}
use Rattle.bitset.proofs.Subsets.{lowest_below}
use Rattle.price.proofs.Grounds.{dear_on}
use Rattle.price.proofs.floor.too_dear.Goals as goal

pub loop-e-preserved-then-limit-price : goal.loop-e-preserved-then-limit-price
loop-e-preserved-then-limit-price c =
    let walked = c.loop-e.invariant.0 in
    let parts = c.in-Some.ensures.steps in
    (walk_on walked parts tt, dear_on c.loop-e.invariant.1 c.with-dear.ensures (lowest_below walked.fits parts.lowest) c.if-limit-price.true)

pub loop-e-preserved : goal.loop-e-preserved
loop-e-preserved c = (walk_on c.loop-e.invariant.0 c.in-Some.ensures.steps tt, c.loop-e.invariant.1)
