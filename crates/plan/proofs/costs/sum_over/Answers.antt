-- `plan::costs::sum_over` meets its contract. The loop walks through the members and adds up the numbers of those below n; each is below 2 ^ 16 and they are at most
-- 64, so that the sum fits.
use native.Mathlib.Omega.{arith}
use Rattle.bitset.proofs.Subsets.{lowest_below}
use Rattle.plan.proofs.Totals.{add_start, add_on, add_skip, add_end}
use Rattle.plan.proofs.costs.sum_over.Goals as goal

pub loop-e-init : goal.loop-e-init
loop-e-init g c = add_start _ c.args.n c.into_iter-e-iterator.ensures.into_iter_gives c.members-e-items.ensures (omega arith)

pub loop-e-preserved : goal.loop-e-preserved
loop-e-preserved g c = add_skip c.loop-e.invariant c.in-Some.ensures.steps c.if-e-n.false

pub loop-e-preserved-then-e-n : goal.loop-e-preserved-then-e-n
loop-e-preserved-then-e-n g c =
    rw c.from-total.ensures
    (add_on c.loop-e.invariant c.in-Some.ensures.steps c.if-e-n.true (omega arith)
    (λ of by. by c.in-Some.e c.number.result (lowest_below c.loop-e.invariant.fits c.in-Some.ensures.steps.lowest) c.number.ensures))

pub returns : goal.returns
returns g c of by = add_end c.loop-e.invariant c.in-None.ensures.steps.0 of by
