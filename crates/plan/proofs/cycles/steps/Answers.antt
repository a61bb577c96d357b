-- `plan::cycles::steps` meets its contract. The loop's invariant: the rows hold the steps of the slots passed.
use native.Mathlib.Omega.{arith}
use Rattle.plan.proofs.Closing.{links_none}
use Rattle.plan.proofs.SlotTests.{none_no_member}
use Rattle.plan.proofs.Trails.{link_start, link_on}
use Rattle.plan.proofs.cycles.steps.Goals.{in-Some, in_default}
use Rattle.plan.proofs.cycles.steps.Goals as goal

pub loop-s-init : goal.loop-s-init
loop-s-init c = link_start _ _

pub loop-s-preserved : goal.loop-s-preserved
loop-s-preserved c =
    link_on _ _ c.loop-s-test.true c.loop-s.invariant
    (elim c.match-choice.branch [
      | in-Some w ↦ rw w.rows-is (rw (w.owner-owner.ensures, ← w.in-Some.ensures.0) at w.link.ensures)
      | in_default w ↦ rw w.rows-is (links_none c.loop-s.invariant.size (λ x. none_no_member c.args.plan.now.set (omega arith) (rw w.in_default.ensures at x.1)))
    ])
