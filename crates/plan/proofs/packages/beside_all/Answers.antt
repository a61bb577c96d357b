-- `plan::packages::beside_all` meets its contract. The loop walks through the others; of each one passed, d may stand beside it.
use Rattle.basis.proofs.Answers.{fails, holds, answer_no}
use Rattle.bitset.proofs.MemberWalk.{walk_at, walk_on}
use Rattle.plan.proofs.packages.beside_all.Goals as goal

pub returns-then-not-beside : goal.returns-then-not-beside
returns-then-not-beside c =
    answer_no (λ f. fails c.beside.ensures c.if-not-beside.true (f c.in-Some.e (walk_at c.loop-e.invariant c.in-Some.ensures.steps)))

pub loop-e-preserved : goal.loop-e-preserved
loop-e-preserved c = walk_on c.loop-e.invariant c.in-Some.ensures.steps (holds c.beside.ensures c.if-not-beside.false)
