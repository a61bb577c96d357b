-- The sets that wait are needed.
use Rattle.bitset.proofs.MemberWalk.{walk_on}
use Rattle.price.proofs.needs.Need.waiting.Goals as goal

pub loop-e-preserved : goal.loop-e-preserved
loop-e-preserved c = (walk_on c.loop-e.invariant.0 c.in-Some.ensures.steps tt, c.note_slots.ensures)
