-- `plan::cycles::link` meets its contract: where the slot's owner and its entry are members, the owner's row has the entry too.
use native.Mathlib.Omega.{arith}
use Rattle.bitset.proofs.Sets.{member_below}
use Rattle.basis.proofs.Answers.{holds}
use Rattle.plan.proofs.Closing.{links_one}
use Rattle.plan.proofs.cycles.link.Goals as goal

pub bounds-rows-d : goal.bounds-rows-d
bounds-rows-d c = member_below 64 c.args.set c.args.owner (omega arith) (holds c.has.ensures c.if-has.true)

pub bounds-rows-d-then-has-2 : goal.bounds-rows-d-then-has-2
bounds-rows-d-then-has-2 c = member_below 64 c.args.set c.args.owner (omega arith) (holds c.has.ensures c.if-has.true)

pub returns-then-has-2 : goal.returns-then-has-2
returns-then-has-2 c =
    let owner = holds c.has.ensures c.if-has.true in
    let choice = holds c.has-then-has.ensures c.if-has-2.true in
    links_one (omega arith) (member_below 64 c.args.set c.args.owner (omega arith) owner) (member_below 64 c.args.set c.args.choice (omega arith) choice)
    owner choice c.with.ensures
