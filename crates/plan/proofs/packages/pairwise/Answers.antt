-- `plan::packages::pairwise` meets its contract. The loop walks through the members; each one passed may stand beside every other.
use mathlib.Core.Path.{sym}
use Rattle.basis.proofs.Answers.{fails, holds, answer_no}
use Rattle.bitset.proofs.MemberWalk.{walk_at, walk_left, walk_other, walk_on}
use Rattle.plan.proofs.PairTests.{pairs_on}
use Rattle.plan.proofs.packages.pairwise.Goals as goal

pub returns-then-not-beside_all : goal.returns-then-not-beside_all
returns-then-not-beside_all c =
    let member = walk_at c.loop-d.invariant c.in-Some.ensures.steps in
    let others = walk_left c.loop-d.invariant c.in-Some.ensures.steps in
    answer_no (λ f. fails c.beside_all.ensures c.if-not-beside_all.true (λ e m. f c.in-Some.d e member (others e m).0 (λ p. (others e m).1 (sym p))))

pub loop-d-preserved : goal.loop-d-preserved
loop-d-preserved c =
    walk_on c.loop-d.invariant c.in-Some.ensures.steps
    (pairs_on c.args.entries.now c.args.mode c.args.set c.next.new.self.rest c.in-Some.d (walk_at c.loop-d.invariant c.in-Some.ensures.steps)
    (holds c.beside_all.ensures c.if-not-beside_all.false) (walk_other c.loop-d.invariant c.in-Some.ensures.steps))
