-- `plan::walks::joined` meets its contract: a slot adds nothing, or the entry that it names.
use native.Mathlib.Omega.{arith}
use Rattle.bitset.proofs.Sets.{member_below}
use Rattle.basis.proofs.Answers.{holds}
use Rattle.plan.proofs.Reaching.{joins_one}
use Rattle.plan.proofs.walks.joined.Goals as goal

pub returns-then-has-2 : goal.returns-then-has-2
returns-then-has-2 c =
    let choice = holds c.has-then-has.ensures c.if-has-2.true in
    joins_one (member_below 64 c.args.set c.args.choice (omega arith) choice) (holds c.has.ensures c.if-has.true) choice c.with.ensures
