-- `plan::walks::round` meets its contract. The loop's invariant is a round at its slot.
use native.Mathlib.Omega.{arith}
use Rattle.plan.proofs.Reaching.{joins_none, round_start, round_on}
use Rattle.plan.proofs.SlotTests.{none_no_member}
use Rattle.plan.proofs.walks.round.Goals.{in-Some, in_default}
use Rattle.plan.proofs.walks.round.Goals as goal

pub loop-s-init : goal.loop-s-init
loop-s-init c = round_start _ _ _

pub loop-s-preserved : goal.loop-s-preserved
loop-s-preserved c =
    round_on _ _ c.loop-s-test.true c.loop-s.invariant
    (elim c.match-choice.branch [
      | in-Some w ↦ rw w.next-is (rw (w.owner-owner.ensures, ← w.in-Some.ensures.0) at w.joined-next.ensures)
      | in_default w ↦ rw w.next-is (joins_none (λ x. none_no_member c.args.plan.now.set (omega arith) (rw w.in_default.ensures at x.1)))
    ])
