-- What is drawn for the members passed is drawn from every set that has a choice of each slot.
use Rattle.bitset.proofs.MemberWalk.{walk_at, walk_on}
use Rattle.bitset.proofs.Subsets.{lowest_below}
use Rattle.price.proofs.Drawing.{drawn_more}
use Rattle.price.proofs.draw.pay_slots.Goals as goal

pub loop-e-preserved : goal.loop-e-preserved
loop-e-preserved c =
    let walked = c.loop-e.invariant.0 in
    let parts = c.in-Some.ensures.steps in
    (walk_on walked parts tt, drawn_more c.loop-e.invariant.1 c.pay_entry-sum.ensures (λ set q s. q _ s (lowest_below walked.fits parts.lowest) (walk_at walked parts)))
