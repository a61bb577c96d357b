-- `plan::walks::grown` meets its contract. The loop's invariant: the root is reached, and a walk leads from it to all that is. A round that adds something leaves
-- less room in 64 bits, which is the measure; one that adds nothing has reached all.
use mathlib.Core.Path.{sym}
use native.Mathlib.Omega.{arith}
use Rattle.bitset.proofs.Counts.{count_le}
use Rattle.bitset.proofs.Sets.{member_below}
use Rattle.bitset.proofs.Subsets.{count_within}
use Rattle.basis.proofs.Answers.{holds}
use Rattle.plan.proofs.Reaching.{reach_start, reach_on, reach_end}
use Rattle.plan.proofs.walks.grown.Goals as goal

pub loop-reach-init : goal.loop-reach-init
loop-reach-init c =
    let member = rw c.from-root.ensures at (holds c.has.ensures c.if-not-has.false) in
    reach_start _ _ (member_below 64 c.args.plan.now.set c.args.problem.now.settings.root (omega arith) member) (rw c.from-root.ensures at c.with-reach.ensures)

pub returns-then-next-reach : goal.returns-then-next-reach
returns-then-next-reach c =
    reach_end _ _ (rw c.from-root.ensures at (holds c.has.ensures c.if-not-has.false)) c.loop-reach.invariant (rw c.if-next-reach.true at c.round-next.ensures)

pub loop-reach-smaller : goal.loop-reach-smaller
loop-reach-smaller c =
    let more = count_within c.loop-reach.reach c.round-next.result (omega (arith, c.round-next.type_inv)) c.round-next.ensures.kept (λ e. c.if-next-reach.false (sym e)) in
    omega (arith, count_le c.round-next.result)

pub loop-reach-preserved : goal.loop-reach-preserved
loop-reach-preserved c =
    reach_on _ _ (rw c.from-root.ensures at (holds c.has.ensures c.if-not-has.false)) c.loop-reach.invariant c.round-next.ensures
